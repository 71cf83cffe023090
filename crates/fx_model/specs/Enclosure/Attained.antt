-- The enclosure of a set whose least and greatest members are known, and that it holds each member.
use Rattle.fx_model.specs.Fraction.{Fraction, ◌≤ℚ◌, le_trans}
use Rattle.fx_model.specs.Grid.{Bound, Below, At, Above, IsDown, IsUp}
use Rattle.fx_model.specs.Enclosure.Sets.{Range, IsFrom, IsUpTo, Lies, IsInfimum, IsSupremum}
use Rattle.fx_model.specs.Enclosure.Sets.{IsEnclosure}

-- ---- a set with a least member
pub infimum_at : (S : Fraction → Type 0) (m : Fraction) (b : Bound) → S m
    → ((x : Fraction) → S x → m ≤ℚ x) → IsDown m b → IsInfimum S b
infimum_at S m (At g) s least d =
    (d.0, λ x t. le_trans g m x d.1 (least x t), λ h o k. d.2 h o (k m s))
infimum_at S m Below s least d = λ h o k. d h o (k m s)
infimum_at S m Above s least d = d

pub supremum_at : (S : Fraction → Type 0) (m : Fraction) (b : Bound) → S m
    → ((x : Fraction) → S x → x ≤ℚ m) → IsUp m b → IsSupremum S b
supremum_at S m (At g) s most d =
    (d.0, λ x t. le_trans x m g (most x t) d.1, λ h o k. d.2 h o (k m s))
supremum_at S m Above s most d = λ h o k. d h o (k m s)
supremum_at S m Below s most d = d

-- a member of a set lies in the set's enclosure
pub in_enclosure : (S : Fraction → Type 0) (r : Range) (x : Fraction)
    → IsEnclosure S r → S x → Lies r x
in_enclosure S r x e s = (from_low r.low e.low, from_high r.high e.high)
  where
    from_low : (b : Bound) → IsInfimum S b → IsFrom b x
    from_low Below i = tt
    from_low (At g) i = i.1 x s
    from_low Above i = i

    from_high : (b : Bound) → IsSupremum S b → IsUpTo b x
    from_high Below i = i
    from_high (At g) i = i.1 x s
    from_high Above i = tt
