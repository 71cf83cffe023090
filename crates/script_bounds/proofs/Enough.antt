-- What stands on the right side of the end stands there of the written bound.
use Rattle.std.specs.Prelude.{◌≡◌, Bool, true, false, refl}
use Rattle.std.proofs.Common.{sym}
use Rattle.fx_model.specs.Fraction.{Fraction, ◌≤ℚ◌, ◌<ℚ◌, le_trans, lt_le_trans, le_lt_trans}
use Rattle.fx_model.specs.Grid.{Bound, Below, At, Above, IsDown, IsUp, le_bound}
use Rattle.dyadic.specs.Ends.{bound_of}
use Rattle.interval.specs.Results.{point_of}
use Rattle.literal_order.specs.Values.{written_value}
use Rattle.facts.specs.Rows.{IsUnder, IsOver}
use Rattle.script_bounds.specs.Sides.{UnderIsEnough, OverIsEnough}
use Rattle.script_bounds.proofs.Rounded.{down_at, up_at}
use Rattle.script_bounds.proofs.Needs.{apart, strictly}

-- v lies from b to c, the nearest of the grid
module _ (v x : Fraction) where
  at_most : (b : Bound) → IsDown v b → IsUnder b false x → x ≤ℚ v
  at_most Below d h = absurd h
  at_most (At a) d h = le_trans x a v h d.1
  at_most Above d h = absurd d

  at_least : (c : Bound) → IsUp v c → IsOver c false x → v ≤ℚ x
  at_least Below u h = absurd u
  at_least (At a) u h = le_trans v a x u.1 h
  at_least Above u h = absurd h

  below : (b c : Bound) → IsDown v b → IsUp v c → (t : Bool) → le_bound c b ≡ t
      → IsUnder b t x → x <ℚ v
  below Below c d u t e h = absurd h
  below (At a) c d u true e h = lt_le_trans x a v h d.1
  below (At a) c d u false e h =
      le_lt_trans x a v h (strictly v a v d.1 (apart v (At a) c a d u e d.0))
  below Above c d u t e h = absurd d

  above : (b c : Bound) → IsDown v b → IsUp v c → (t : Bool)
      → le_bound c b ≡ t → IsOver c t x → v <ℚ x
  above b Below d u t e h = absurd u
  above b (At a) d u true e h = le_lt_trans v a x u.1 h
  above b (At a) d u false e h =
      lt_le_trans v a x (strictly v v a u.1 (λ s. apart v b (At a) a d u e u.0 (sym s))) h
  above b Above d u t e h = absurd h

pub under_is_enough : UnderIsEnough
under_is_enough w true x h = let v = written_value w in
    let i = point_of v in below v x (bound_of i.lo) (bound_of i.hi) (down_at v) (up_at v)
    (le_bound (bound_of i.hi) (bound_of i.lo)) refl h
under_is_enough w false x h = let v = written_value w in
    at_most v x (bound_of (point_of v).lo) (down_at v) h

pub over_is_enough : OverIsEnough
over_is_enough w true x h = let v = written_value w in
    let i = point_of v in above v x (bound_of i.lo) (bound_of i.hi) (down_at v) (up_at v)
    (le_bound (bound_of i.hi) (bound_of i.lo)) refl h
over_is_enough w false x h = let v = written_value w in
    at_least v x (bound_of (point_of v).hi) (up_at v) h
