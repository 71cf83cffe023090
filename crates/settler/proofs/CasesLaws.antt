-- Laws of what specs/Cases defines.
use Rattle.std.specs.Prelude.{◌≡◌, ◌<◌, ℕ, zero, suc, List, [], ◌∷◌, length, Some, slice_get, refl}
use Rattle.std.proofs.Common.{ap, sym, subst, ◌∙◌, get_or}
use Rattle.std.proofs.lemmas.Option.{slice_get_read}
use Rattle.script_claims.specs.declared.claim.Claim.{Claim}
use Rattle.script_grammar.specs.Spells.{View}
use Rattle.script_grammar.specs.Cases.{cases_of}
use Rattle.settler.specs.declared.cases.Case.{Case}
use Rattle.settler.specs.Cases.{IsCaseOf, AreCases}

-- ---- what they are
-- as many cases as lists of claims
pub as_many : (s : View) (depth : ℕ) (xs : List (List Claim)) (ys : List Case)
    → AreCases s depth xs ys → length xs ≡ length ys
as_many s depth [] [] are = refl
as_many s depth [] (y ∷ ys) are = absurd are
as_many s depth (x ∷ xs) [] are = absurd are
as_many s depth (x ∷ xs) (y ∷ ys) are = ap suc (as_many s depth xs ys are.2)

-- the case in a place
case_there : (s : View) (depth : ℕ) (xs : List (List Claim)) (ys : List Case)
    → AreCases s depth xs ys → (k : ℕ) (y : Case) → slice_get ys k ≡ Some y
    → (slice_get xs k ≡ Some y.claims) × IsCaseOf s depth y
case_there s depth xs [] are k y e = cc
case_there s depth [] (z ∷ ys) are k y e = absurd are
case_there s depth (x ∷ xs) (z ∷ ys) are zero y e =
    let same : z ≡ y = cc in
    (ap Some (sym are.0 ∙ ap (λ (c : Case). c.claims) same), subst (IsCaseOf s depth) same are.1)
case_there s depth (x ∷ xs) (z ∷ ys) are (suc k) y e = case_there s depth xs ys are.2 k y e

-- the same, of the cases of a script
pub case_of : (s : View) (depth : ℕ) (cases : List Case) → AreCases s depth (cases_of s) cases
    → (k : ℕ) (case : Case) → k < length cases → case ≡ get_or cases k case
    → (slice_get (cases_of s) k ≡ Some case.claims) × IsCaseOf s depth case
case_of s depth cases are k case below is =
    case_there s depth (cases_of s) cases are k case
    (slice_get_read cases (length cases) k case refl below is)
