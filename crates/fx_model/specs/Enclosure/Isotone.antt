-- Smaller sets have better enclosures.
use Rattle.std.specs.Prelude.{⊤}
use Rattle.fx_model.specs.Fraction.{Fraction, ◌≤ℚ◌, le_trans}
use Rattle.fx_model.specs.Grid.{Bound, Below, At, Above}
use Rattle.fx_model.specs.Enclosure.Sets.{Range, IsFrom, IsUpTo, Lies}

-- ---- smaller sets have better enclosures
abbrev pub BoundLe : Bound → Bound → Type 0
BoundLe Below c = ⊤
BoundLe (At g) Below = ⊥
BoundLe (At g) (At h) = g ≤ℚ h
BoundLe (At g) Above = ⊤
BoundLe Above Below = ⊥
BoundLe Above (At h) = ⊥
BoundLe Above Above = ⊤

-- the interval r lies in s
abbrev pub Within : Range → Range → Type 0
Within r s = BoundLe s.low r.low × BoundLe r.high s.high

-- what lies in the inner interval lies in the outer
pub within_in : (r s : Range) (x : Fraction) → Within r s → Lies r x → Lies s x
within_in r s x w i = (from_low s.low r.low w.0 i.0, from_high r.high s.high w.1 i.1)
  where
    from_low : (b c : Bound) → BoundLe b c → IsFrom c x → IsFrom b x
    from_low Below c l f = tt
    from_low (At g) Below l f = absurd l
    from_low (At g) (At h) l f = le_trans g h x l f
    from_low (At g) Above l f = absurd f
    from_low Above Below l f = absurd l
    from_low Above (At h) l f = absurd l
    from_low Above Above l f = f

    from_high : (b c : Bound) → BoundLe b c → IsUpTo b x → IsUpTo c x
    from_high Below c l f = absurd f
    from_high (At g) Below l f = absurd l
    from_high (At g) (At h) l f = le_trans x g h f l
    from_high (At g) Above l f = tt
    from_high Above Below l f = absurd l
    from_high Above (At h) l f = absurd l
    from_high Above Above l f = tt
