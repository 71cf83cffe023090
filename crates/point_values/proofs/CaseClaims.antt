-- What the hypotheses have, each case has.
use Rattle.std.specs.Prelude.{◌≡◌, ◌+◌, ℕ, ℤ, zero, suc, List, [], ◌∷◌, slice_get, Bool, true}
use Rattle.std.specs.Prelude.{false, Option, Some, None, if◌then◌else◌, refl}
use Rattle.std.specs.List.{AllByRecursion}
use Rattle.std.proofs.Common.{sym, subst}
use Rattle.std.proofs.lemmas.Option.{none-some, same_Some}
use Rattle.fx_model.specs.Fraction.{Fraction}
use Rattle.fx_model.specs.declared.ExprId.{ExprId}
use Rattle.exact_fractions.specs.Wide.{are_narrow}
use Rattle.script_claims.specs.declared.claim.Claim.{Claim}
use Rattle.point_values.specs.Numbers.{claim_numbers, wide_from}
use Rattle.point_values.specs.Among.{IsAmong, AreAmong, IsNarrowClaim}
use Rattle.point_values.specs.declared.place.Place.{Place}
use Rattle.point_values.specs.declared.place.Place.TheVariants as place

-- where no place is too wide, each element is narrow
narrow_each : {A : Type 0} (p : ℕ → Place) (f : A → List ℤ) (k : ℕ) (xs : List A)
    → wide_from p f k xs ≡ None → AllByRecursion (λ x. are_narrow (f x) ≡ true) xs
narrow_each p f k [] h = tt
narrow_each p f k (x ∷ xs) h = by (are_narrow (f x)) refl (narrow_each p f (k + 1) xs) h
  where
    by : (b : Bool) → are_narrow (f x) ≡ b
        → (wide_from p f (k + 1) xs ≡ None → AllByRecursion (λ x. are_narrow (f x) ≡ true) xs)
        → (if b then wide_from p f (k + 1) xs else Some (p k)) ≡ None
        → (are_narrow (f x) ≡ true) × AllByRecursion (λ x. are_narrow (f x) ≡ true) xs
    by true e rest g = (e, rest g)
    by false e rest g = absurd (none-some _ (sym g))

-- of a list, of which each element has it
has_at : {A : Type 0} (P : A → Type 0) (xs : List A) (k : ℕ) (x : A)
    → AllByRecursion P xs → slice_get xs k ≡ Some x → P x
has_at P [] k x h e = absurd (none-some _ e)
has_at P (y ∷ xs) zero x h e = subst P (same_Some _ _ e) h.0
has_at P (y ∷ xs) (suc k) x h e = has_at P xs k x h.1 e

has_each : (P : Claim → Type 0) (hypotheses case : List Claim)
    → AllByRecursion P hypotheses → AllByRecursion (IsAmong hypotheses) case → AllByRecursion P case
has_each P hypotheses [] h i = tt
has_each P hypotheses (c ∷ case) h i =
    (has_at P hypotheses i.0.0 c h i.0.1, has_each P hypotheses case h i.1)

pub has_cases : (P : Claim → Type 0) (hypotheses : List Claim) (cases : List (List Claim))
    → AllByRecursion P hypotheses → AreAmong hypotheses cases
    → AllByRecursion (AllByRecursion P) cases
has_cases P hypotheses [] h i = tt
has_cases P hypotheses (c ∷ cases) h i =
    (has_each P hypotheses c h i.0, has_cases P hypotheses cases h i.1)

pub narrow_cases : (v : ExprId → Option Fraction) (hypotheses : List Claim) (cases :
    List (List Claim))
    → wide_from place.Hypothesis (claim_numbers v) 0 hypotheses ≡ None → AreAmong hypotheses cases
    → AllByRecursion (AllByRecursion (IsNarrowClaim v)) cases
narrow_cases v hypotheses cases h i = has_cases (IsNarrowClaim v) hypotheses cases
    (narrow_each place.Hypothesis (claim_numbers v) 0 hypotheses h) i
