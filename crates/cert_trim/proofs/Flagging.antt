-- Flags that are set.
use Rattle.std.proofs.Common.{◌≡◌, ◌<◌, ◌+◌, ◌-◌, ◌==◌, ◌≤◌, arith, inl, inr, ℕ, Bool, true, false}
use Rattle.std.proofs.Common.{List, [], ◌∷◌, ◌++◌, length, take, slice_index_or, slice_set}
use Rattle.std.proofs.Common.{get_or-set_same, get_or-set_other, refl, sym, ap, ◌∙◌}
use Rattle.std.specs.Prelude.{◌||◌}
use Rattle.std.proofs.lemmas.List.{take_more}
use Rattle.std.proofs.lemmas.Bool.Decides.{eqb_tells}
use Rattle.std.proofs.lemmas.Grind.{common_steps}
use Rattle.std.proofs.lemmas.Bool.{eq-eqb, ne_eqb}
use Rattle.cert_trim.specs.Used.{is_among}
use Rattle.cert_trim.specs.Flags.{flag_at, AreFlags}

or_true : (b c : Bool) → b ≡ true → true ≡ (b || c)
or_true true c e = refl
or_true false c e = absurd (cc e)

or_false : (b c : Bool) → b ≡ false → c ≡ (b || c)
or_false true c e = absurd (cc e)
or_false false c e = refl

-- one more, at its place
pub flag_set : (start : ℕ) (flags : List Bool) (ns : List ℕ) (n : ℕ) → start ≤ n
    → n - start < length flags → AreFlags start flags ns
    → AreFlags start (slice_set flags (n - start) true) (n ∷ ns)
flag_set start flags ns n from below are k =
    let place = n - start in
    elim (eqb_tells k place) [
      | inl same ↦
          let e : flag_at (slice_set flags place true) k ≡ true = ap (flag_at
          (slice_set flags place true)) same.1 ∙ get_or-set_same flags place true false below in
          let q = same.1 in
          e ∙ or_true (n == start + k) (is_among ns (start + k))
          (eq-eqb n (start + k) (omega (arith, q, from)))
      | inr other ↦
          get_or-set_other flags place k true false other.1
          ∙ are k ∙ or_false (n == start + k) (is_among ns (start + k))
          (ne_eqb n (start + k) (λ e. other.1 (omega (arith, e, from))))
    ]

-- a step below start has no flag
pub flag_below : (start : ℕ) (flags : List Bool) (ns : List ℕ) (n : ℕ) → n < start
    → AreFlags start flags ns → AreFlags start flags (n ∷ ns)
flag_below start flags ns n below are k =
    are k ∙ or_false (n == start + k) (is_among ns (start + k))
    (ne_eqb n (start + k) (λ e. absurd (omega (arith, e, below))))

or_swap : (a b c : Bool) → (a || (b || c)) ≡ (b || (a || c))
or_swap true true c = refl
or_swap true false c = refl
or_swap false true c = refl
or_swap false false c = refl

-- a number may stand first as well as behind others
among_later : (xs : List ℕ) (n : ℕ) (ys : List ℕ) (k : ℕ)
    → is_among (n ∷ (xs ++ ys)) k ≡ is_among ((xs ++ n ∷ []) ++ ys) k
among_later [] n ys k = refl
among_later (x ∷ xs) n ys k = or_swap (n == k) (x == k) (is_among (xs ++ ys) k)
    ∙ ap (λ b. (x == k) || b) (among_later xs n ys k)

pub flag_more : (start : ℕ) (flags : List Bool) (numbers later : List ℕ) (i : ℕ)
    → i < length numbers
    → AreFlags start flags (slice_index_or numbers i 0 ∷ (take i numbers ++ later))
    → AreFlags start flags (take (i + 1) numbers ++ later)
flag_more start flags numbers later i below are k =
    let n = slice_index_or numbers i 0 in
    are k ∙ among_later (take i numbers) n later (start + k)
    ∙ ap (λ ns. is_among (ns ++ later) (start + k)) (sym (take_more numbers i 0 below))

pub whole : (xs : List ℕ) (n : ℕ) → length xs ≤ n → take n xs ≡ xs
whole xs n h = grind (arith, common_steps)
