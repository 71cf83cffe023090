-- The claims of a case are hypotheses.
use Rattle.std.specs.Prelude.{◌≡◌, ℕ, zero, suc, List, [], ◌∷◌, Some, All}
use Rattle.std.specs.List.{slice_get, AllByRecursion}
use Rattle.std.proofs.Common.{subst, Result, Ok, Err, IfOk}
use Rattle.std.proofs.lemmas.List.Elements.{All-from_recursion, recursion_from_All}
use Rattle.script_cases.specs.Cases.{cases, all_items}
use Rattle.script_cases.proofs.Counted.{all_of_cases}
use Rattle.script_claims.specs.declared.claim.Claim.{Claim}

one_of : {A : Type 0} (P : A → Type 0) (xs : List A) (n : ℕ) (x : A) → AllByRecursion P xs
    → slice_get xs n ≡ Some x → P x
one_of P [] n x h e = absurd (cc e)
one_of P (y ∷ xs) zero x h e = let same : y ≡ x = cc e in subst P same h.0
one_of P (y ∷ xs) (suc n) x h e = one_of P xs n x h.1 e

-- what all hypotheses have
pub case_has : (P : Claim → Type 0) (hypotheses : List Claim) (parts : List (List (List Claim)))
    (n : ℕ) (case : List Claim) → hypotheses ≡ all_items parts → All P hypotheses
    → slice_get (cases parts) n ≡ Some case → All P case
case_has P hypotheses parts n case flat h e =
    All-from_recursion P case (one_of (AllByRecursion P) (cases parts) n case
    (all_of_cases P parts (subst (AllByRecursion P) flat (recursion_from_All P hypotheses h))) e)

pub if_ok : {A E : Type 0} (r : Result A E) (P Q : A → Type 0)
    → ((x : A) → P x → Q x) → IfOk r P → IfOk r Q
if_ok (Ok x) P Q f h = f x h
if_ok (Err e) P Q f h = h
