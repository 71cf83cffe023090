-- A polynomial is joined in one way at most.
use Rattle.std.specs.Prelude.{ℕ, [], ◌∷◌}
use Rattle.std.specs.Ordering.{Ordering-set}
use Rattle.std.proofs.Props.{props}
use Rattle.std.proofs.Math.Nat.{ℕ_set}
use Rattle.std.proofs.Math.Bridge.{le_prop}
use Rattle.poly_normal.specs.Polynomial.{Monomial, Polynomial}
use Rattle.poly_normal.specs.Rows.{IsBefore, IsRising, AllRows, IsJoined}

before-prop : (m : Monomial) (p : Polynomial) → IsProp (IsBefore m p)
before-prop m p = hlevel (props, Ordering-set)

rising-prop : (p : Polynomial) → IsProp (IsRising p)
rising-prop [] = hlevel props
rising-prop (t ∷ p) = hlevel (props, before-prop t.monomial p, rising-prop p)

rows-prop : (w d : ℕ) (p : Polynomial) → IsProp (AllRows w d p)
rows-prop w d p = hlevel (props, ℕ_set, le_prop)

pub joined-prop : (w d x : ℕ) (p : Polynomial) → IsProp (IsJoined w d x p)
joined-prop w d x p = hlevel (props, le_prop, rising-prop p, rows-prop w d p)
