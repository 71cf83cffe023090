-- Which case has a number.
use Rattle.std.specs.Prelude.{◌≡◌, ℕ, zero, suc, ◌+◌, ◌*◌, ◌/◌, ◌%◌, ◌<◌, ◌-◌, List, [], ◌∷◌, ◌++◌}
use Rattle.std.specs.Prelude.{length, take, drop, slice_get, get_or, Some, refl}
use Rattle.std.specs.Option.{option_map}
use Rattle.std.specs.List.{flat_map}
use Rattle.std.proofs.Common.{ap, sym, ◌∙◌, arith}
use Rattle.std.proofs.Math.Nat.{mod-add-div', mod-lt}
use Rattle.std.proofs.lemmas.List.{length-map}
use Rattle.std.proofs.lemmas.Option.{slice_get-map, slice_get-get_or}
use Rattle.script_cases.specs.Cases.{with_first}
use Rattle.script_cases.specs.Marks.{pieces, start_at}

in_front : {X : Type 0} (a b : List X) (k : ℕ) → k < length a → slice_get (a ++ b) k ≡ slice_get a k
in_front [] b k h = absurd (omega (h, arith))
in_front (x ∷ a) b zero h = refl
in_front (x ∷ a) b (suc k) h = in_front a b k (omega (h, arith))

none_before : (k : ℕ) → 0 + k ≡ k
none_before k = omega arith

one_more : (n k : ℕ) → suc n + k ≡ suc (n + k)
one_more n k = omega arith

behind : {X : Type 0} (a b : List X) (k : ℕ) → slice_get (a ++ b) (length a + k) ≡ slice_get b k
behind [] b k = ap (slice_get b) (none_before k)
behind (x ∷ a) b k = ap (slice_get (x ∷ (a ++ b))) (one_more (length a) k) ∙ behind a b k

module _ {X : Type 0} (later : List (List X)) (n : ℕ) (e : length later ≡ n) where
  -- what of a part's cases has a number: which conjunction, and which of the later cases
  pub record Taken (p : List (List X)) (q r : ℕ) (case : List X) : Type 0 where
    pub rest : List X
    pub at : slice_get later r ≡ Some rest
    pub joins : case ≡ get_or p q [] ++ rest
    pub within : q < length p

  first_taken : (c : List X) (r : ℕ) (case : List X)
      → r < n → slice_get (with_first later c) r ≡ Some case
      → (rest : List X) × (slice_get later r ≡ Some rest) × (case ≡ c ++ rest)
  first_taken c r case h g =
      let at : slice_get later r ≡ Some (get_or later r []) =
      slice_get-get_or later r [] (omega (h, e, arith)) in
      let same : Some case ≡ Some (c ++ get_or later r []) =
      sym g ∙ slice_get-map (λ rest. c ++ rest) later r ∙ ap (option_map (λ rest. c ++ rest)) at in
      (get_or later r [], at, cc same)

  length_first : (c : List X) → length (with_first later c) ≡ n
  length_first c = length-map later _ ∙ e

  taken : (p : List (List X)) (q r : ℕ) (case : List X) → r < n
      → slice_get (flat_map (with_first later) p) (q * n + r) ≡ Some case → Taken p q r case
  taken [] q r case h g = absurd (cc g)
  taken (c ∷ p) zero r case h g =
      let at = ap (slice_get (with_first later c ++ flat_map (with_first later) p))
      (nothing_before r) ∙ in_front (with_first later c)
      (flat_map (with_first later) p) r (omega (h, length_first c, arith)) in
      let w = first_taken c r case h (sym at ∙ g) in
      record { rest = w.0; at = w.1; joins = w.2; within = omega arith }
    where
      nothing_before : (r : ℕ) → zero * n + r ≡ r
      nothing_before r = omega arith
  taken (c ∷ p) (suc q) r case h g =
      let at = ap (slice_get (with_first later c ++ flat_map (with_first later) p)) (one_before q r
      ∙ ap (λ k. k + (q * n + r)) (sym (length_first c)))
      ∙ behind (with_first later c) (flat_map (with_first later) p) (q * n + r) in
      let w = taken p q r case h (sym at ∙ g) in
      record { rest = w.rest; at = w.at; joins = w.joins; within = omega (w.within, arith) }
    where
      one_before : (q r : ℕ) → suc q * n + r ≡ n + (q * n + r)
      one_before q r = ap (λ k. k + r) (suc_times q) ∙ omega arith
        where
          suc_times : (q : ℕ) → suc q * n ≡ n + q * n
          suc_times q = Rattle.std.proofs.Math.Nat.suc-mul q n ∙ omega arith

  pub split : (p : List (List X)) (i : ℕ) (case : List X) → 0 < n
      → slice_get (flat_map (with_first later) p) i ≡ Some case → Taken p (i / n) (i % n) case
  split p i case h g = taken p (i / n) (i % n) case (mod-lt i h)
      (ap (slice_get (flat_map (with_first later) p)) (omega (arith, mod-add-div' i n)) ∙ g)

-- ---- a piece of the conjunctions has theirs
get_taken : {X : Type 0} (n : ℕ) (xs : List (List X)) (k : ℕ) → k < n
    → get_or (take n xs) k [] ≡ get_or xs k []
get_taken zero xs k h = absurd (omega (h, arith))
get_taken (suc n) [] k h = refl
get_taken (suc n) (x ∷ xs) zero h = refl
get_taken (suc n) (x ∷ xs) (suc k) h = get_taken n xs k (omega (h, arith))

get_dropped : {X : Type 0} (n : ℕ) (xs : List (List X)) (k : ℕ)
    → get_or (drop n xs) k [] ≡ get_or xs (n + k) []
get_dropped zero xs k = ap (λ j. get_or xs j []) (sym (none_before k))
get_dropped (suc n) [] k = refl
get_dropped (suc n) (x ∷ xs) k =
    get_dropped n xs k ∙ ap (λ j. get_or (x ∷ xs) j []) (sym (one_more n k))

pub piece_get : {X : Type 0} (from end : ℕ) (cs : List (List X)) (k : ℕ) → k < end - from
    → get_or (take (end - from) (drop from cs)) k [] ≡ get_or cs (from + k) []
piece_get from end cs k h = get_taken (end - from) (drop from cs) k h ∙ get_dropped from cs k

-- ---- the conjunction with a number
pub conjunction_at : {X : Type 0} (from : ℕ) (xs : List X) (ends : List ℕ) (k : ℕ)
    → k < length ends → get_or (pieces from xs ends) k []
    ≡ take (get_or ends k 0 - start_at from ends k) (drop (start_at from ends k) xs)
conjunction_at from xs [] k h = absurd (omega (h, arith))
conjunction_at from xs (end ∷ ends) zero h = refl
conjunction_at from xs (end ∷ ends) (suc k) h = conjunction_at end xs ends k (omega (h, arith))
