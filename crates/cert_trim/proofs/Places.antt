-- Steps and their numbers from start on.
use Rattle.std.proofs.Common.{◌≡◌, ◌≤◌, ◌<◌, ◌+◌, ◌-◌, ℕ, zero, suc, Bool, true, List, length, refl}
use Rattle.std.proofs.Common.{sym, ap, subst, ◌∙◌, arith, ⊎_elim}
use Rattle.std.specs.Prelude.{◌||◌, nat_lt, if◌then◌else◌}
use Rattle.std.proofs.lemmas.Bool.{cases_lt, lt-ltb, le-ltb}
use Rattle.cert_bytes.specs.declared.item.Item.{Item}
use Rattle.cert_bytes.specs.declared.item.Item.TheVariants as item
use Rattle.cert_trim.specs.Trimmed.{new_number}
use Rattle.cert_trim.specs.Used.{CiteEarlier, is_among, used_from, AreEnough}
use Rattle.cert_trim.specs.Flags.{flag_at, number_at, number_of, AreFlags, AreNumbers, stays}
use Rattle.cert_trim.specs.Flags.{stays_by}
use Rattle.cert_trim.specs.Behind.{stays_behind}
use Rattle.cert_trim.proofs.Numbers.{on_both, next_suc}
use Rattle.cert_trim.proofs.Enough.{enough, or_right}

-- ---- numbers below start

pub same_below : (used : ℕ → Bool) (start : ℕ) → ((n : ℕ) → n < start → used n ≡ true)
    → (n : ℕ) → n ≤ start → new_number used n ≡ n
unfolding new_number
same_below used start all zero below = refl
same_below used start all (suc n) below =
    let u = all n (omega (arith, below)) in
    next_suc used n u ∙ ap suc (same_below used start all n (omega (arith, below)))

-- ---- by flags

module _ (start : ℕ) (flags : List Bool) where
  pub stays_at : (i : ℕ) → stays_by start flags (start + i) ≡ flag_at flags i
  stays_at i =
      let e : start + i - start ≡ i = omega arith in
      on_both (λ b k. b || flag_at flags k) (le-ltb (start + i) start (omega arith)) e

  below_stay : (n : ℕ) → n < start → stays_by start flags n ≡ true
  below_stay n below = ap (λ b. b || flag_at flags (n - start)) (lt-ltb n start below)

  pub at_start : new_number (stays_by start flags) start ≡ start
  at_start = same_below (stays_by start flags) start below_stay start (omega arith)

  pub stays_from : (place : ℕ) (i : Item)
      → stays (flag_at flags) place i ≡ stays (stays_by start flags) (start + place) i
  stays_from place (item.Step r) = sym (stays_at place)
  stays_from place (item.Leaf refs) = refl
  stays_from place (item.Dead r) = refl
  stays_from place (item.Nodes k) = refl
  stays_from place (item.Node k) = refl
  stays_from place (item.Marks k) = refl
  stays_from place (item.Mark k) = refl
  stays_from place (item.Cases k) = refl
  stays_from place (item.Cut x ps) = refl
  stays_from place (item.End) = refl

  pub same_numbers : (numbers : List ℕ) → AreNumbers start flags numbers → (n : ℕ)
      → n < start + length numbers
      → number_of start numbers n ≡ new_number (stays_by start flags) n
  same_numbers numbers are n inside = ⊎_elim
      (λ l. ap (λ b. if b then n else number_at numbers (n - start)) (lt-ltb n start l)
      ∙ sym (same_below (stays_by start flags) start below_stay n (omega (arith, l))))
      (λ g. let e : start + (n - start) ≡ n = omega (arith, g) in
      ap (λ b. if b then n else number_at numbers (n - start)) (le-ltb n start g)
      ∙ are (n - start) (omega (arith, g, inside))
      ∙ ap (new_number (stays_by start flags)) e)
      (cases_lt n start)

  pub same_stay : (items : List Item) → AreFlags start flags (used_from start items)
      → stays_by start flags ≡ stays_behind start items
  same_stay items are = λ i n. at n i where
    at : (n : ℕ) → stays_by start flags n ≡ stays_behind start items n
    at n = ⊎_elim
        (λ l. below_stay n l
        ∙ sym (ap (λ b. b || is_among (used_from start items) n) (lt-ltb n start l)))
        (λ g. let e : start + (n - start) ≡ n = omega (arith, g) in
        ap (λ b. nat_lt n start || b) (are (n - start) ∙ ap (is_among (used_from start items)) e))
        (cases_lt n start)

-- ---- by what is used

module _ (start : ℕ) (items : List Item) where
  pub behind_stay : (n : ℕ) → n < start → stays_behind start items n ≡ true
  behind_stay n below =
      ap (λ b. b || is_among (used_from start items) n) (lt-ltb n start below)

  pub same_at_start : new_number (stays_behind start items) start ≡ start
  same_at_start = same_below (stays_behind start items) start behind_stay start (omega arith)

  pub enough_behind : CiteEarlier start items → AreEnough (stays_behind start items) start items
  enough_behind earlier = enough (stays_behind start items) items start earlier
      (λ m l u. subst (λ b. (b || is_among (used_from start items) m) ≡ true) (le-ltb m start l) u)
      (λ m u. or_right (nat_lt m start) (is_among (used_from start items) m) u)

-- where none stands before
pub none_before : (items : List Item) → stays_behind 0 items ≡ is_among (used_from 0 items)
none_before items =
    λ i n. ap (λ b. b || is_among (used_from 0 items) n) (le-ltb n 0 (omega arith)) i
