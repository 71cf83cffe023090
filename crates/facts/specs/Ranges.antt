-- The ranges that kinds of facts keep.
use mathlib.Core.HLevel.{⊥_prop, Unit-prop}
use Rattle.std.specs.Prelude.{◌≡◌, ⊤, Bool, true, false, not, refl}
use Rattle.std.proofs.lemmas.Bool.{not-true}
use Rattle.fx_model.specs.Fraction.{Fraction, ◌<ℚ◌, le_ℚ, zero_ℚ, one_ℚ, neg_ℚ, Le-prop, Lt-prop}
use Rattle.fx_model.specs.Grid.{Bound, Below, At, Above}
use Rattle.fx_model.specs.Enclosure.{Range, BoundLe}

pub BoundLe-prop : (b c : Bound) → IsProp (BoundLe b c)
BoundLe-prop Below c = Unit-prop
BoundLe-prop (At g) Below = ⊥_prop
BoundLe-prop (At g) (At h) = Le-prop g h
BoundLe-prop (At g) Above = Unit-prop
BoundLe-prop Above Below = ⊥_prop
BoundLe-prop Above (At h) = ⊥_prop
BoundLe-prop Above Above = Unit-prop

-- The lower end is at least 0: what an interval of absolute values keeps.
abbrev pub IsFromZero : Range → Type 0
IsFromZero r = BoundLe (At zero_ℚ) r.low

pub IsFromZero-prop : (r : Range) → IsProp (IsFromZero r)
IsFromZero-prop r = BoundLe-prop (At zero_ℚ) r.low

-- The fraction is below the end, which isn't minus infinity.
abbrev pub IsBelow : Fraction → Bound → Type 0
IsBelow x Below = ⊥
IsBelow x (At g) = x <ℚ g
IsBelow x Above = ⊤

pub IsBelow-prop : (x : Fraction) (b : Bound) → IsProp (IsBelow x b)
IsBelow-prop x Below = ⊥_prop
IsBelow-prop x (At g) = Lt-prop x g
IsBelow-prop x Above = Unit-prop

-- The lower end is above -1: what an interval of relative errors keeps.
abbrev pub IsAboveMinusOne : Range → Type 0
IsAboveMinusOne r = IsBelow (neg_ℚ one_ℚ) r.low

pub IsAboveMinusOne-prop : (r : Range) → IsProp (IsAboveMinusOne r)
IsAboveMinusOne-prop r = IsBelow-prop (neg_ℚ one_ℚ) r.low

-- the same as a test
abbrev pub is_below : Fraction → Bound → Bool
is_below x Below = false
is_below x (At g) = not (le_ℚ g x)
is_below x Above = true

pub is_below_in : (x : Fraction) (b : Bound) → is_below x b ≡ true → IsBelow x b
is_below_in x Below e = cc
is_below_in x (At g) e = record { lt = not-true (le_ℚ g x) e }
is_below_in x Above e = tt

pub is_below_out : (x : Fraction) (b : Bound) → IsBelow x b → is_below x b ≡ true
is_below_out x Below l = absurd l
is_below_out x (At g) l = rw l.lt
is_below_out x Above l = refl
