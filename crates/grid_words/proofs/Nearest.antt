-- Laws of what specs/Nearest defines.
use Rattle.std.specs.Prelude.{◌≡◌}
use Rattle.std.proofs.Common.{sym, ap, ◌∙◌}
use Rattle.fx_model.specs.Fraction.{Fraction, neg_ℚ, le_refl}
use Rattle.fx_model.specs.Grid.{Bound, At, IsOnGrid, IsDown, IsUp, neg_bound, IsDown-neg}
use Rattle.fx_model.specs.Grid.{neg_bound-neg}
use Rattle.fx_model.proofs.Grid.{IsDown-unique}
use Rattle.grid_words.specs.Nearest.{down, up, down_is, up_is}

-- ---- the only ones
pub down_only : (x : Fraction) (b : Bound) → IsDown x b → b ≡ down x
down_only x b d = IsDown-unique x b (down x) d (down_is x)

pub up_only : (x : Fraction) (b : Bound) → IsUp x b → b ≡ up x
up_only x b d = sym (neg_bound-neg b) ∙ ap neg_bound (IsDown-unique (neg_ℚ x) (neg_bound b)
    (neg_bound (up x)) (IsDown-neg x b d) (IsDown-neg x (up x) (up_is x))) ∙ neg_bound-neg (up x)

-- ---- a grid number is its own rounding
pub down_grid : (g : Fraction) → IsOnGrid g → down g ≡ At g
down_grid g o = sym (down_only g (At g) (o, le_refl g, λ h p k. k))

pub up_grid : (g : Fraction) → IsOnGrid g → up g ≡ At g
up_grid g o = sym (up_only g (At g) (o, le_refl g, λ h p k. k))
