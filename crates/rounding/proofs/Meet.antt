-- The possible errors by cases are those that are possible by direction, by sign and by place.
use Rattle.std.specs.Prelude.{◌≡◌, ◌↔◌, ℤ, refl, Option, Some, None, Bool, true, false}
use Rattle.std.specs.Prelude.{if◌then◌else◌}
use Rattle.std.specs.Int.RustNames.{int_lt}
use Rattle.fx_model.specs.Fraction.{Fraction, ◌-ℚ◌, ◌≤ℚ◌, neg_ℚ, zero_ℚ, le_trans, lt_le, neg-le}
use Rattle.fx_model.specs.Fraction.{neg_down}
use Rattle.fx_model.specs.Powers.{two_to, two_to-positive}
use Rattle.fx_model.specs.Enclosure.{Lies}
use Rattle.fx_model.specs.declared.Direction.{Direction}
use Rattle.fx_model.specs.declared.Direction.TheVariants.{Zr, Aw, Dn, Up, Od, Ne, No, Nz, Na, Nd}
use Rattle.fx_model.specs.declared.Direction.TheVariants.{Nu}
use Rattle.rounding.specs.declared.sign.Sign.{Sign}
use Rattle.rounding.specs.declared.sign.Sign.TheVariants.{Unknown, NotNegative, NotPositive, Zero}
use Rattle.rounding.proofs.Sums.{sub-le, sub-from}
use Rattle.rounding.proofs.Places.{two_to-le, less}
use Rattle.rounding.specs.Errors.{leftward, rightward, sideward, errors, signed_errors, half_of}
use Rattle.rounding.specs.Errors.{IsPossible, error_range, nowhere}

-- ---- spans within spans
module _ (e u v : Fraction) (h : u ≤ℚ v) where
  wider_left : Lies (leftward u) e → Lies (leftward v) e
  wider_left l = (le_trans (neg_ℚ v) (neg_ℚ u) e (neg-le u v h) l.0, l.1)

  wider_right : Lies (rightward u) e → Lies (rightward v) e
  wider_right l = (l.0, le_trans e u v l.1 h)

  wider_side : Lies (sideward u) e → Lies (sideward v) e
  wider_side l = (le_trans (neg_ℚ v) (neg_ℚ u) e (neg-le u v h) l.0, le_trans e u v l.1 h)

  pub wider : (d : Direction) (k : Fraction) → Lies (errors d u k) e → Lies (errors d v k) e
  wider Dn k l = wider_left l
  wider Up k l = wider_right l
  wider Zr k l = wider_side l
  wider Aw k l = wider_side l
  wider Od k l = wider_side l
  wider Ne k l = l
  wider No k l = l
  wider Nz k l = l
  wider Na k l = l
  wider Nd k l = l
  wider Nu k l = l

  signed_wider : (sign : Sign) (d : Direction) (k : Fraction) → Lies (signed_errors sign d u k) e
      → Lies (signed_errors sign d v k) e
  signed_wider Unknown d k l = wider d k l
  signed_wider NotNegative Zr k l = wider_left l
  signed_wider NotNegative Aw k l = wider_right l
  signed_wider NotNegative d k l = wider d k l
  signed_wider NotPositive Zr k l = wider_right l
  signed_wider NotPositive Aw k l = wider_left l
  signed_wider NotPositive d k l = wider d k l
  signed_wider Zero Zr k l = l
  signed_wider Zero Aw k l = l
  signed_wider Zero d k l = wider d k l

module _ (e u : Fraction) (h : zero_ℚ ≤ℚ u) where
  left_side : Lies (leftward u) e → Lies (sideward u) e
  left_side l = (l.0, le_trans e zero_ℚ u l.1 h)

  right_side : Lies (rightward u) e → Lies (sideward u) e
  right_side l = (le_trans (neg_ℚ u) zero_ℚ e (neg_down u h) l.0, l.1)

  zero_left : Lies nowhere e → Lies (leftward u) e
  zero_left l = (le_trans (neg_ℚ u) zero_ℚ e (neg_down u h) l.0, l.1)

  zero_right : Lies nowhere e → Lies (rightward u) e
  zero_right l = (l.0, le_trans e zero_ℚ u l.1 h)

  zero_side : Lies nowhere e → Lies (sideward u) e
  zero_side l = right_side (zero_right l)

-- a sign leaves no more
unsigned : (e u k : Fraction) → zero_ℚ ≤ℚ u → (sign : Sign) (d : Direction)
    → Lies (signed_errors sign d u k) e → Lies (errors d u k) e
unsigned e u k h Unknown d l = l
unsigned e u k h NotNegative Zr l = left_side e u h l
unsigned e u k h NotNegative Aw l = right_side e u h l
unsigned e u k h NotNegative d l = l
unsigned e u k h NotPositive Zr l = right_side e u h l
unsigned e u k h NotPositive Aw l = left_side e u h l
unsigned e u k h NotPositive d l = l
unsigned e u k h Zero Zr l = zero_side e u h l
unsigned e u k h Zero Aw l = zero_side e u h l
unsigned e u k h Zero d l = l

-- the sign tells the side, and the place the size
both : (e u v k : Fraction) (sign : Sign) (d : Direction) → Lies (signed_errors sign d v k) e
    → Lies (errors d u k) e → Lies (signed_errors sign d u k) e
both e u v k Unknown d s l = l
both e u v k NotNegative Zr s l = (l.0, s.1)
both e u v k NotNegative Aw s l = (s.0, l.1)
both e u v k NotNegative d s l = l
both e u v k NotPositive Zr s l = (s.0, l.1)
both e u v k NotPositive Aw s l = (l.0, s.1)
both e u v k NotPositive d s l = l
both e u v k Zero Zr s l = s
both e u v k Zero Aw s l = s
both e u v k Zero d s l = l

-- 0 is always possible
pub zero_possible : (e u k : Fraction) → zero_ℚ ≤ℚ u → zero_ℚ ≤ℚ k → (d : Direction)
    → Lies nowhere e → Lies (errors d u k) e
zero_possible e u k h i Dn l = zero_left e u h l
zero_possible e u k h i Up l = zero_right e u h l
zero_possible e u k h i Zr l = zero_side e u h l
zero_possible e u k h i Aw l = zero_side e u h l
zero_possible e u k h i Od l = zero_side e u h l
zero_possible e u k h i Ne l = zero_side e k i l
zero_possible e u k h i No l = zero_side e k i l
zero_possible e u k h i Nz l = zero_side e k i l
zero_possible e u k h i Na l = zero_side e k i l
zero_possible e u k h i Nd l = zero_side e k i l
zero_possible e u k h i Nu l = zero_side e k i l

pub signed_zero_possible : (e u k : Fraction) → zero_ℚ ≤ℚ u → zero_ℚ ≤ℚ k
    → (sign : Sign) (d : Direction) → Lies nowhere e → Lies (signed_errors sign d u k) e
signed_zero_possible e u k h i Unknown d l = zero_possible e u k h i d l
signed_zero_possible e u k h i NotNegative Zr l = zero_left e u h l
signed_zero_possible e u k h i NotNegative Aw l = zero_right e u h l
signed_zero_possible e u k h i NotNegative d l = zero_possible e u k h i d l
signed_zero_possible e u k h i NotPositive Zr l = zero_right e u h l
signed_zero_possible e u k h i NotPositive Aw l = zero_left e u h l
signed_zero_possible e u k h i NotPositive d l = zero_possible e u k h i d l
signed_zero_possible e u k h i Zero Zr l = l
signed_zero_possible e u k h i Zero Aw l = l
signed_zero_possible e u k h i Zero d l = zero_possible e u k h i d l

-- ---- the meet
module _ (d : Direction) (l : ℤ) (sign : Sign) (e : Fraction) where
  unit_from : zero_ℚ ≤ℚ two_to l
  unit_from = lt_le zero_ℚ (two_to l) (two_to-positive l)

  half_from : zero_ℚ ≤ℚ half_of l
  half_from = lt_le zero_ℚ (half_of l) (two_to-positive _)

  module _ (k : ℤ) where
    meet : (b : Bool) → Lies (signed_errors sign d (two_to l) (half_of l)) e
        → Lies (if b then errors d (two_to l -ℚ two_to k) (half_of l) else nowhere) e
        → Lies (if b then signed_errors sign d (two_to l -ℚ two_to k) (half_of l) else nowhere) e
    meet true s p = both e (two_to l -ℚ two_to k) (two_to l) (half_of l) sign d s p
    meet false s p = p

    part : (b : Bool) → (int_lt k l ≡ b)
        → Lies (if b then signed_errors sign d (two_to l -ℚ two_to k) (half_of l) else nowhere) e
        → Lies (signed_errors sign d (two_to l) (half_of l)) e
        × Lies (if b then errors d (two_to l -ℚ two_to k) (half_of l) else nowhere) e
    part true q p = (
      signed_wider e (two_to l -ℚ two_to k) (two_to l) (sub-le (two_to l) (two_to k)
          (lt_le zero_ℚ (two_to k) (two_to-positive k))) sign d (half_of l) p,
      unsigned e (two_to l -ℚ two_to k) (half_of l)
          (sub-from (two_to l) (two_to k) (two_to-le k l (less k l q))) sign d p,
    )
    part false q p = (signed_zero_possible e (two_to l) (half_of l) unit_from half_from sign d p, p)

  to_cases : (place : Option ℤ) → IsPossible d l sign place e → Lies (error_range d l sign place) e
  to_cases None p = p.by_sign
  to_cases (Some k) p = meet k (int_lt k l) p.by_sign p.by_place

  from_cases : (place : Option ℤ) → Lies (error_range d l sign place) e
      → IsPossible d l sign place e
  from_cases None p = record {
    by_direction = unsigned e (two_to l) (half_of l) unit_from sign d p;
    by_sign = p;
    by_place = tt;
  }
  from_cases (Some k) p = let q = part k (int_lt k l) refl p in record {
    by_direction = unsigned e (two_to l) (half_of l) unit_from sign d q.0;
    by_sign = q.0;
    by_place = q.1;
  }

-- The possible errors by cases are those that are possible by direction, by sign and by place.
pub possible_by_cases : (d : Direction) (l : ℤ) (sign : Sign) (place : Option ℤ) (e : Fraction)
    → IsPossible d l sign place e ↔ Lies (error_range d l sign place) e
possible_by_cases d l sign place e = (to_cases d l sign e place, from_cases d l sign e place)
