-- Lists that begin with others.
use Rattle.std.specs.Prelude.{◌≡◌, ◌<◌, ◌≤◌, ℕ, zero, suc, List, [], ◌∷◌, ◌++◌, length, map, Some}
use Rattle.std.specs.Prelude.{slice_get, refl}
use Rattle.std.proofs.Common.{arith}
use Rattle.fx_model.specs.declared.ExprId.{ExprId}
use Rattle.fx_model.specs.declared.Node.{Node}
use Rattle.fx_model.specs.declared.Node.TheVariants.{Sub}
use Rattle.pair_closure.specs.Closure.{Pair, difference_of}

pub front_get : {X : Type 0} (xs ys : List X) (k : ℕ) → k < length xs
    → slice_get (xs ++ ys) k ≡ slice_get xs k
front_get [] ys k l = absurd (omega (arith, l))
front_get (x ∷ xs) ys zero l = refl
front_get (x ∷ xs) ys (suc k) l = front_get xs ys k (omega (arith, l))

pub seam_get : {X : Type 0} (before : List X) (n : X) (rest : List X)
    → slice_get (before ++ n ∷ rest) (length before) ≡ Some n
seam_get [] n rest = refl
seam_get (x ∷ before) n rest = seam_get before n rest

none_in : {X : Type 0} (k : ℕ) (n : X) → slice_get [] k ≡ Some n → ⊥
none_in k n e = cc

-- behind the first nodes stand differences
pub difference_behind : (nodes : List Node) (ds : List Pair) (k : ℕ) (n : Node)
    → length nodes ≤ k → slice_get (nodes ++ map difference_of ds) k ≡ Some n
    → (a : ExprId) × (b : ExprId) × (n ≡ Sub a b)
difference_behind [] [] k n l e = absurd (none_in k n e)
difference_behind [] (d ∷ ds) zero n l e =
    (d.0, d.1, let q : difference_of d ≡ n = cc in let r : n ≡ Sub d.0 d.1 = cc in r)
difference_behind [] (d ∷ ds) (suc k) n l e = difference_behind [] ds k n (omega arith) e
difference_behind (x ∷ nodes) ds zero n l e = absurd (omega (arith, l))
difference_behind (x ∷ nodes) ds (suc k) n l e = difference_behind nodes ds k n (omega (arith, l)) e
