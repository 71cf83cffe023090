-- The grid of numbers that bounds are written with, and rounding to it.
use lib.IntN.{neg_ℤ}
use Rattle.std.specs.Prelude.{◌≡◌, ℤ, pos, negsuc, ◌≤ℤ◌, ◌<ℤ◌, Bool, true, false}
use Rattle.std.proofs.Common.{arith, sym, subst, ap, ◌∙◌, refl}
use Rattle.std.proofs.lemmas.Int.{ints}
use Rattle.fx_model.specs.Fraction.{Fraction, ◌*ℚ◌, ◌≤ℚ◌, le_ℚ, neg_ℚ, neg-le, neg-neg, neg-mul}
use Rattle.fx_model.specs.Powers.{scaled, two_to, whole, whole-neg}

-- x is m * 2^e with |m| < 2^60 and -512 <= e <= 512.
pub record IsOnGrid (x : Fraction) : Type 0 where
  pub mantissa : ℤ
  pub exponent : ℤ
  pub above : negsuc 1152921504606846975 <ℤ mantissa
  pub below : mantissa <ℤ pos 1152921504606846976
  pub lowest : negsuc 511 ≤ℤ exponent
  pub highest : exponent ≤ℤ pos 512
  pub is : x ≡ scaled mantissa exponent

-- An end of an interval: a fraction, or infinite.
pub data Bound : Type 0 where
  Below : Bound
  At : Fraction → Bound
  Above : Bound

-- Whether the first end is at or below the second: minus infinity is below all else, plus infinity
-- above all else.
abbrev pub le_bound : Bound → Bound → Bool
le_bound Below c = true
le_bound (At g) Below = false
le_bound (At g) (At h) = le_ℚ g h
le_bound (At g) Above = true
le_bound Above Below = false
le_bound Above (At h) = false
le_bound Above Above = true

-- `down(x)` is g: the greatest grid number not above x, or minus infinity where there is none.
abbrev pub IsDown : Fraction → Bound → Type 0
IsDown x (At g) = IsOnGrid g × (g ≤ℚ x) × ((h : Fraction) → IsOnGrid h → h ≤ℚ x → h ≤ℚ g)
IsDown x Below = (h : Fraction) → IsOnGrid h → ¬ (h ≤ℚ x)
IsDown x Above = ⊥

-- The least grid number that isn't below x. Where there is none, the end is Above.
abbrev pub IsUp : Fraction → Bound → Type 0
IsUp x (At g) = IsOnGrid g × (x ≤ℚ g) × ((h : Fraction) → IsOnGrid h → x ≤ℚ h → g ≤ℚ h)
IsUp x Above = (h : Fraction) → IsOnGrid h → ¬ (x ≤ℚ h)
IsUp x Below = ⊥

-- ---- the other sign
abbrev pub neg_bound : Bound → Bound
neg_bound Below = Above
neg_bound (At g) = At (neg_ℚ g)
neg_bound Above = Below

-- x, or its negative
abbrev pub signed : Bool → Fraction → Fraction
signed true x = neg_ℚ x
signed false x = x

pub scaled-neg : (m e : ℤ) → scaled (neg_ℤ m) e ≡ neg_ℚ (scaled m e)
scaled-neg m e = ap (λ y. y *ℚ two_to e) (whole-neg m) ∙ neg-mul (whole m) (two_to e)

pub IsOnGrid-neg : (x : Fraction) → IsOnGrid x → IsOnGrid (neg_ℚ x)
IsOnGrid-neg x g = let a = g.above in let b = g.below in record {
  mantissa = neg_ℤ g.mantissa;
  exponent = g.exponent;
  above = omega (arith, ints);
  below = omega (arith, ints);
  lowest = g.lowest;
  highest = g.highest;
  is = ap neg_ℚ g.is ∙ sym (scaled-neg g.mantissa g.exponent);
}

pub neg_over : (h x : Fraction) → h ≤ℚ neg_ℚ x → x ≤ℚ neg_ℚ h
neg_over h x t = subst (λ y. y ≤ℚ neg_ℚ h) (neg-neg x) (neg-le h (neg_ℚ x) t)

pub neg_under : (h x : Fraction) → neg_ℚ x ≤ℚ h → neg_ℚ h ≤ℚ x
neg_under h x t = subst (λ y. neg_ℚ h ≤ℚ y) (neg-neg x) (neg-le (neg_ℚ x) h t)

pub neg_bound-neg : (b : Bound) → neg_bound (neg_bound b) ≡ b
neg_bound-neg Below = refl
neg_bound-neg (At g) = ap At (neg-neg g)
neg_bound-neg Above = refl

pub IsDown-neg : (x : Fraction) (b : Bound) → IsUp x b → IsDown (neg_ℚ x) (neg_bound b)
IsDown-neg x (At g) p = (
  IsOnGrid-neg g p.0,
  neg-le x g p.1,
  λ h o t. subst (λ y. y ≤ℚ neg_ℚ g) (neg-neg h)
      (neg-le g (neg_ℚ h) (p.2 (neg_ℚ h) (IsOnGrid-neg h o) (neg_over h x t))),
)
IsDown-neg x Above p = λ h o t. p (neg_ℚ h) (IsOnGrid-neg h o) (neg_over h x t)
IsDown-neg x Below p = p

pub IsUp-neg : (x : Fraction) (b : Bound) → IsDown x b → IsUp (neg_ℚ x) (neg_bound b)
IsUp-neg x (At g) p = (
  IsOnGrid-neg g p.0,
  neg-le g x p.1,
  λ h o t. subst (λ y. neg_ℚ g ≤ℚ y) (neg-neg h)
      (neg-le (neg_ℚ h) g (p.2 (neg_ℚ h) (IsOnGrid-neg h o) (neg_under h x t))),
)
IsUp-neg x Below p = λ h o t. p (neg_ℚ h) (IsOnGrid-neg h o) (neg_under h x t)
IsUp-neg x Above p = p
