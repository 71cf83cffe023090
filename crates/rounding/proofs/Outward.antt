-- The best interval of the fractions between two others, and of a set that has the same members as
-- another.
use Rattle.std.specs.Prelude.{◌↔◌}
use Rattle.fx_model.specs.Fraction.{Fraction, ◌≤ℚ◌, le_refl}
use Rattle.fx_model.specs.Grid.{Bound, Below, At, Above, IsOnGrid, IsDown, IsUp}
use Rattle.fx_model.specs.Enclosure.{Range, Lies, IsInfimum, IsSupremum, IsEnclosure, infimum_at}
use Rattle.fx_model.specs.Enclosure.{supremum_at}
use Rattle.grid_words.specs.Products.{closed}

pub closed_is : (a b g h : Fraction) → a ≤ℚ b → IsDown a (At g) → IsUp b (At h)
    → IsEnclosure (Lies (closed a b)) (closed g h)
closed_is a b g h l d u = record {
  low = infimum_at (Lies (closed a b)) a (At g) (le_refl a, l) (λ x t. t.0) d;
  high = supremum_at (Lies (closed a b)) b (At h) (l, le_refl b) (λ x t. t.1) u;
}

pub down_grid : (x : Fraction) → IsOnGrid x → IsDown x (At x)
down_grid x g = (g, le_refl x, λ h o t. t)

pub up_grid : (x : Fraction) → IsOnGrid x → IsUp x (At x)
up_grid x g = (g, le_refl x, λ h o t. t)

-- ---- sets with the same members
module _ (S T : Fraction → Type 0) (same : (x : Fraction) → S x ↔ T x) where
  same_infimum : (b : Bound) → IsInfimum S b → IsInfimum T b
  same_infimum Below i = λ h o k. i h o (λ x s. k x ((same x).0 s))
  same_infimum (At g) i =
      (i.0, λ x t. i.1 x ((same x).1 t), λ h o k. i.2 h o (λ x s. k x ((same x).0 s)))
  same_infimum Above i = i

  same_supremum : (b : Bound) → IsSupremum S b → IsSupremum T b
  same_supremum Below i = i
  same_supremum (At g) i =
      (i.0, λ x t. i.1 x ((same x).1 t), λ h o k. i.2 h o (λ x s. k x ((same x).0 s)))
  same_supremum Above i = λ h o k. i h o (λ x s. k x ((same x).0 s))

  pub same_members : (r : Range) → IsEnclosure S r → IsEnclosure T r
  same_members r e = record { low = same_infimum r.low e.low; high = same_supremum r.high e.high }
