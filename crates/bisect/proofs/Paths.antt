-- Paths of a plan.
use Rattle.std.specs.Prelude.{◌≡◌, ◌<◌, ℕ, List, [], ◌∷◌, ◌++◌, refl}
use Rattle.std.proofs.Common.{ap, subst, arith}
use Rattle.box_tree.specs.Paths.{IsPathOf}
use Rattle.box_tree.proofs.Paths.{no_more}

-- the root is a path of every plan
pub root_path : (pieces : List ℕ → ℕ) → IsPathOf pieces []
root_path pieces front piece rest e = absurd (no_more front piece rest e)

-- a piece of a box on a path lies on one
pub child_path : (pieces : List ℕ → ℕ) (path : List ℕ) (i : ℕ) → IsPathOf pieces path
    → i < pieces path → IsPathOf pieces (path ++ i ∷ [])
child_path pieces [] i h l [] piece rest e = let p : i ≡ piece = cc in omega (arith, p, l)
child_path pieces [] i h l (y ∷ front) piece rest e = let p : [] ≡ front ++ piece ∷ rest = cc in
    absurd (no_more front piece rest p)
child_path pieces (x ∷ path) i h l [] piece rest e = let p : x ≡ piece = cc in
    subst (λ k. k < pieces []) p (h [] x path refl)
child_path pieces (x ∷ path) i h l (y ∷ front) piece rest e =
    let p : x ≡ y = cc in
    let q : path ++ i ∷ [] ≡ front ++ piece ∷ rest = cc in
    subst (λ k. piece < pieces (k ∷ front)) p
    (child_path (λ r. pieces (x ∷ r)) path i
    (λ f k r d. h (x ∷ f) k r (ap (λ z. x ∷ z) d)) l front piece rest q)
