-- A number of the grid is below the end exactly where it is below the written bound.
use Rattle.std.specs.Prelude.{◌≡◌, ◌↔◌, Bool, true, false, refl}
use Rattle.std.proofs.Common.{sym, subst}
use Rattle.fx_model.specs.Fraction.{Fraction, ◌≤ℚ◌, ◌<ℚ◌, le_refl, le_trans, le_antisymm, lt_by}
use Rattle.fx_model.specs.Fraction.{lt_le}
use Rattle.fx_model.specs.Grid.{Bound, Below, At, Above, IsOnGrid, IsDown, IsUp, le_bound}
use Rattle.fx_model.specs.Enclosure.{BoundLe}
use Rattle.dyadic.specs.Ends.{bound_of}
use Rattle.dyadic.specs.Compared.{BoundLe_out}
use Rattle.interval.specs.Results.{point_of}
use Rattle.literal_order.specs.declared.written.Written.{Written}
use Rattle.literal_order.specs.Values.{written_value}
use Rattle.facts.specs.Rows.{IsUnder, IsOver}
use Rattle.script_bounds.specs.Needs.{below_of, above_of}
use Rattle.script_bounds.proofs.Rounded.{down_at, up_at}

-- v lies from b to c, the nearest of the grid
module _ (v : Fraction) where
  not_above : (b : Bound) (g : Fraction) → IsDown v b → IsOnGrid g → IsUnder b false g ↔ (g ≤ℚ v)
  not_above Below g d o = (λ u. absurd u, λ l. d g o l)
  not_above (At a) g d o = (λ u. le_trans g a v u d.1, λ l. d.2 g o l)
  not_above Above g d o = absurd d

  not_below : (c : Bound) (g : Fraction) → IsUp v c → IsOnGrid g → IsOver c false g ↔ (v ≤ℚ g)
  not_below Below g u o = absurd u
  not_below (At a) g u o = (λ l. le_trans v a g u.1 l, λ l. u.2 g o l)
  not_below Above g u o = (λ l. absurd l, λ l. u g o l)

  -- where the ends are apart, v isn't of the grid
  pub apart : (b c : Bound) (g : Fraction) → IsDown v b → IsUp v c → le_bound c b ≡ false
      → IsOnGrid g → ¬ (g ≡ v)
  apart b c g d u t o e = not_both (le_bound c b) t (BoundLe_out c b (order b c d u))
    where
      not_both : (x : Bool) → x ≡ false → x ≡ true → ⊥
      not_both true p q = cc
      not_both false p q = cc

      at_most : v ≤ℚ g
      at_most = subst (λ z. v ≤ℚ z) (sym e) (le_refl v)

      at_least : g ≤ℚ v
      at_least = subst (λ z. z ≤ℚ v) (sym e) (le_refl v)

      order : (b c : Bound) → IsDown v b → IsUp v c → BoundLe c b
      order Below c d u = absurd (d g o at_least)
      order (At a) Below d u = absurd u
      order (At a) (At k) d u = le_trans k g a (u.2 g o at_most) (d.2 g o at_least)
      order (At a) Above d u = absurd (u g o at_most)
      order Above c d u = absurd d

  -- where they are one, v is it
  together : (a : Fraction) (c : Bound) → a ≤ℚ v → IsUp v c → le_bound c (At a) ≡ true → v ≡ a
  together a Below l u t = absurd u
  together a (At k) l u t = le_antisymm v a (le_trans v k a u.1 (record { le = t })) l
  together a Above l u t = absurd (let f : false ≡ true = t in let h : ⊥ = cc in h)

  pub strictly : (x y : Fraction) → x ≤ℚ y → ¬ (x ≡ y) → x <ℚ y
  strictly x y l n = lt_by x y (λ k. n (le_antisymm x y l k))

  below : (b c : Bound) (g : Fraction) → IsDown v b → IsUp v c → IsOnGrid g
      → IsUnder b (le_bound c b) g ↔ (g <ℚ v)
  below Below c g d u o = (λ l. absurd l, λ l. d g o (lt_le g v l))
  below (At a) c g d u o = by_test (le_bound c (At a)) refl
    where
      by_test : (t : Bool) → le_bound c (At a) ≡ t → IsUnder (At a) t g ↔ (g <ℚ v)
      by_test true t = let e : v ≡ a = together a c d.1 u t in
          (λ l. subst (λ z. g <ℚ z) (sym e) l, λ l. subst (λ z. g <ℚ z) e l)
      by_test false t = (
        λ l. strictly g v (le_trans g a v l d.1) (apart (At a) c g d u t o),
        λ l. d.2 g o (lt_le g v l),
      )
  below Above c g d u o = absurd d

  above : (b c : Bound) (g : Fraction) → IsDown v b → IsUp v c → IsOnGrid g
      → IsOver c (le_bound c b) g ↔ (v <ℚ g)
  above b Below g d u o = absurd u
  above b (At k) g d u o = by_test b d (le_bound (At k) b) refl
    where
      at_low : (b : Bound) → IsDown v b → le_bound (At k) b ≡ true → v ≡ k
      at_low Below d t = absurd (let h : false ≡ true = t in let z : ⊥ = cc in z)
      at_low (At a) d t = le_antisymm v k u.1 (le_trans k a v (record { le = t }) d.1)
      at_low Above d t = absurd d

      by_test : (b : Bound) → IsDown v b → (t : Bool) → le_bound (At k) b ≡ t
          → IsOver (At k) t g ↔ (v <ℚ g)
      by_test b d true t = let e : v ≡ k = at_low b d t in
          (λ l. subst (λ z. z <ℚ g) (sym e) l, λ l. subst (λ z. z <ℚ g) e l)
      by_test b d false t = (
        λ l. strictly v g (le_trans v k g u.1 l) (λ e. apart b (At k) g d u t o (sym e)),
        λ l. u.2 g o (lt_le v g l),
      )
  above b Above g d u o = (λ l. absurd l, λ l. u g o (lt_le v g l))

-- ---- the clauses
pub below-exact : (w : Written) (g : Fraction) → IsOnGrid g
    → IsUnder (bound_of (below_of w true).0) (below_of w true).1 g ↔ (g <ℚ written_value w)
below-exact w g o = let i = point_of (written_value w) in below (written_value w) (bound_of i.lo)
    (bound_of i.hi) g (down_at (written_value w)) (up_at (written_value w)) o

pub not_above-exact : (w : Written) (g : Fraction) → IsOnGrid g
    → IsUnder (bound_of (below_of w false).0) (below_of w false).1 g ↔ (g ≤ℚ written_value w)
not_above-exact w g o = not_above (written_value w)
    (bound_of (point_of (written_value w)).lo) g (down_at (written_value w)) o

pub above-exact : (w : Written) (g : Fraction) → IsOnGrid g
    → IsOver (bound_of (above_of w true).0) (above_of w true).1 g ↔ (written_value w <ℚ g)
above-exact w g o = let i = point_of (written_value w) in above (written_value w) (bound_of i.lo)
    (bound_of i.hi) g (down_at (written_value w)) (up_at (written_value w)) o

pub not_below-exact : (w : Written) (g : Fraction) → IsOnGrid g
    → IsOver (bound_of (above_of w false).0) (above_of w false).1 g ↔ (written_value w ≤ℚ g)
not_below-exact w g o = not_below (written_value w)
    (bound_of (point_of (written_value w)).hi) g (up_at (written_value w)) o
