-- The front of a list.
use Rattle.std.specs.Prelude.{◌≡◌, ◌<◌, ℕ, zero, suc, List, [], ◌∷◌, Some, take, slice_get}
use Rattle.std.proofs.Common.{arith}
use Rattle.pair_closure.proofs.Members.{none_at}

-- what stands in it stands at the same place of the list
pub taken_at : {A : Type 0} (xs : List A) (i k : ℕ) (x : A) → slice_get (take i xs) k ≡ Some x
    → (k < i) × (slice_get xs k ≡ Some x)
taken_at [] zero k x e = absurd (none_at x e)
taken_at [] (suc i) k x e = absurd (none_at x e)
taken_at (y ∷ ys) zero k x e = absurd (none_at x e)
taken_at (y ∷ ys) (suc i) zero x e = (omega arith, e)
taken_at (y ∷ ys) (suc i) (suc k) x e = let r = taken_at ys i k x e in
    (let l : k < i = r.0 in omega arith, r.1)
