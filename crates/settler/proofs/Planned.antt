-- Cases with their plans, one after the other.
use Rattle.std.specs.Prelude.{◌≡◌, ◌+◌, ◌++◌, ℕ, zero, suc, List, [], ◌∷◌, Some, take, slice_get}
use Rattle.std.specs.Prelude.{refl}
use Rattle.std.proofs.Common.{arith, ap, ◌∙◌}
use Rattle.script_claims.specs.declared.claim.Claim.{Claim}
use Rattle.script_grammar.specs.Spells.{View}
use Rattle.settler.specs.declared.cases.Case.{Case}
use Rattle.settler.specs.Cases.{IsCaseOf, AreCases}

pub one_more : (s : View) (depth : ℕ) (xs : List (List Claim)) (ys : List Case)
    (x : List Claim) (y : Case) → AreCases s depth xs ys → y.claims ≡ x → IsCaseOf s depth y
    → AreCases s depth (xs ++ x ∷ []) (ys ++ y ∷ [])
one_more s depth [] [] x y are e is = (e, is, tt)
one_more s depth [] (z ∷ ys) x y are e is = absurd are
one_more s depth (w ∷ xs) [] x y are e is = absurd are
one_more s depth (w ∷ xs) (z ∷ ys) x y are e is =
    (are.0, are.1, one_more s depth xs ys x y are.2 e is)

next : (i : ℕ) → suc i + 1 ≡ suc (i + 1)
next i = omega arith

pub take_more : (xs : List (List Claim)) (i : ℕ) (x : List Claim) → slice_get xs i ≡ Some x
    → take (i + 1) xs ≡ take i xs ++ x ∷ []
take_more [] i x e = cc
take_more (y ∷ xs) zero x e = let same : y ≡ x = cc in ap (λ z. z ∷ []) same
take_more (y ∷ xs) (suc i) x e =
    ap (λ k. take k (y ∷ xs)) (next i) ∙ ap (λ zs. y ∷ zs) (take_more xs i x e)

pub take_none : (xs : List (List Claim)) → take 0 xs ≡ []
take_none [] = refl
take_none (x ∷ xs) = refl

some_same : (xs ys : List Claim) → Some xs ≡ Some ys → xs ≡ ys
some_same xs ys e = cc

none_there : (k : ℕ) (claims : List Claim) → slice_get [] k ≡ Some claims → ⊥
none_there k claims e = cc

-- the case in a place
pub case_at : (s : View) (depth : ℕ) (xs : List (List Claim)) (ys : List Case)
    → AreCases s depth xs ys → (k : ℕ) (claims : List Claim) → slice_get xs k ≡ Some claims
    → (y : Case) × (y.claims ≡ claims) × IsCaseOf s depth y
case_at s depth [] ys are k claims e = absurd (none_there k claims e)
case_at s depth (x ∷ xs) [] are k claims e = absurd are
case_at s depth (x ∷ xs) (y ∷ ys) are zero claims e = (y, are.0 ∙ some_same x claims e, are.1)
case_at s depth (x ∷ xs) (y ∷ ys) are (suc k) claims e = case_at s depth xs ys are.2 k claims e
