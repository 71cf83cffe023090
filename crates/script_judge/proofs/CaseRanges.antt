-- The range of a variable in each case, case by case.
use Rattle.std.specs.Prelude.{◌≡◌, ℕ, zero, suc, ◌+◌, List, [], ◌∷◌, ◌++◌, map, take, length}
use Rattle.std.specs.Prelude.{Option, Some, None, true, false, refl}
use Rattle.std.specs.List.{slice_get, flat_map, AllByRecursion}
use Rattle.std.specs.Option.{is_some}
use Rattle.std.proofs.Common.{ap, sym, ◌∙◌, subst, arith}
use Rattle.std.proofs.Math.Seq.{take-length}
use Rattle.std.proofs.lemmas.List.{length-map}
use Rattle.fx_model.specs.declared.ExprId.{ExprId}
use Rattle.script_cases.specs.Cases.{cases, case_count}
use Rattle.script_cases.proofs.Counted.{cases_are_counted}
use Rattle.script_claims.specs.declared.claim.Claim.{Claim}
use Rattle.script_claims.specs.declared.range.SplitRange.{SplitRange}
use Rattle.script_claims.specs.Facts.{hypothesis_fact}
use Rattle.script_claims.specs.Ranges.{range_by, or_later, split_range}
use Rattle.script_judge.specs.Splits.{case_ranges}

-- ---- the range of a variable in one case, conjunction by conjunction

some_here : (o later : Option SplitRange) → is_some o ≡ true → or_later o later ≡ o
some_here None later e = absurd (cc e)
some_here (Some r) later e = refl

none_here : (o later : Option SplitRange) → is_some o ≡ false → or_later o later ≡ later
none_here None later e = refl
none_here (Some r) later e = absurd (cc e)

later_both : (o a b both : Option SplitRange) → both ≡ or_later a b
    → or_later o both ≡ or_later (or_later o a) b
later_both None a b both e = e
later_both (Some r) a b both e = refl

module _ (x : ExprId) where
  in_both : (a b : List Claim)
      → split_range (a ++ b) x ≡ or_later (split_range a x) (split_range b x)
  in_both [] b = refl
  in_both (c ∷ a) b = later_both (range_by x (hypothesis_fact c))
      (split_range a x) (split_range b x) (split_range (a ++ b) x) (in_both a b)

  abbrev pub range_among : List (List Claim) → Option SplitRange
  range_among conjunctions = split_range (flat_map (λ c. c) conjunctions) x

  module _ (old new : List (List Claim)) (taken : List Claim) (found : Option SplitRange)
      (next : old ≡ taken ∷ new) (is : found ≡ split_range taken x) where
    first : range_among old ≡ or_later found (range_among new)
    first = ap range_among next ∙ in_both taken (flat_map (λ c. c) new)
        ∙ ap (λ o. or_later o (range_among new)) (sym is)

    -- where the first conjunction has one, that is it
    pub found_here : is_some found ≡ true → found ≡ range_among old
    found_here e = sym (first ∙ some_here found (range_among new) e)

    -- else it is that of the others
    pub found_later : is_some found ≡ false → range_among old ≡ range_among new
    found_later e = first ∙ none_here found (range_among new) e

-- ---- the ranges of all cases

one_more : {A B : Type 0} (f : A → B) (xs : List A) (n : ℕ) (x : A) → slice_get xs n ≡ Some x
    → take (suc n) (map f xs) ≡ take n (map f xs) ++ (f x ∷ [])
one_more f [] n x e = absurd (cc e)
one_more f (y ∷ xs) zero x e = let same : y ≡ x = cc e in ap (λ z. f z ∷ []) same
one_more f (y ∷ xs) (suc n) x e = ap (λ l. f y ∷ l) (one_more f xs n x e)

module _ (parts : List (List (List Claim))) (x : ExprId) where
  abbrev in_case : List Claim → Option SplitRange
  in_case claims = split_range claims x

  -- one more case
  pub next_range : (n : ℕ) (case : List Claim) → slice_get (cases parts) n ≡ Some case
      → take (n + 1) (case_ranges parts x)
      ≡ take n (case_ranges parts x) ++ (split_range case x ∷ [])
  next_range n case e =
      ap (λ k. take k (map in_case (cases parts))) (later n)
      ∙ one_more in_case (cases parts) n case e
    where
      later : (n : ℕ) → n + 1 ≡ suc n
      later n = omega arith

  -- all cases
  pub all_ranges : take (case_count parts) (case_ranges parts x) ≡ case_ranges parts x
  all_ranges = ap (λ n. take n (case_ranges parts x)) (sym long)
      ∙ take-length (case_ranges parts x)
    where
      long : length (case_ranges parts x) ≡ case_count parts
      long = length-map (cases parts) in_case ∙ cases_are_counted parts

-- ---- what is kept of variables

-- what all of a list have, the one at a place has
pub one_of : {A : Type 0} (P : A → Type 0) (xs : List A) (n : ℕ) (x : A) → AllByRecursion P xs
    → slice_get xs n ≡ Some x → P x
one_of P [] n x h e = absurd (cc e)
one_of P (y ∷ xs) zero x h e = let same : y ≡ x = cc e in subst P same h.0
one_of P (y ∷ xs) (suc n) x h e = one_of P xs n x h.1 e

-- nothing stands at the end of a list, and behind it what is added
pub none_at_end : {A : Type 0} (xs : List A) → slice_get xs (length xs) ≡ None
none_at_end [] = refl
none_at_end (x ∷ xs) = none_at_end xs

pub last_at_end : {A : Type 0} (xs : List A) (x : A)
    → slice_get (xs ++ (x ∷ [])) (length xs) ≡ Some x
last_at_end [] x = refl
last_at_end (y ∷ xs) x = last_at_end xs x
