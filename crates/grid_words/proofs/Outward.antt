-- Laws of what specs/Outward defines.
use Rattle.std.specs.Prelude.{◌≡◌}
use Rattle.std.proofs.Common.{subst}
use Rattle.fx_model.specs.Fraction.{Fraction}
use Rattle.fx_model.specs.Grid.{At, IsOnGrid}
use Rattle.fx_model.specs.Enclosure.{Range, IsInfimum, IsSupremum, IsEnclosure}

-- ---- enclosures of sets
-- the finite ends of an enclosure are on the grid
pub enclosure_low_grid : (S : Fraction → Type 0) (r : Range) (g : Fraction) → IsEnclosure S r
    → r.low ≡ At g → IsOnGrid g
enclosure_low_grid S r g e p = (subst (λ b. IsInfimum S b) p e.low).0

pub enclosure_high_grid : (S : Fraction → Type 0) (r : Range) (g : Fraction) → IsEnclosure S r
    → r.high ≡ At g → IsOnGrid g
enclosure_high_grid S r g e p = (subst (λ b. IsSupremum S b) p e.high).0
