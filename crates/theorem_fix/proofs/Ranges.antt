-- Rounded ranges and ranges of errors are in order, and of less there are smaller ones.
use Rattle.std.specs.Prelude.{◌≡◌, ℤ, ◌≤ℤ◌, Bool, true, false, Option, Some, None, if◌then◌else◌}
use Rattle.std.specs.Prelude.{refl}
use Rattle.std.specs.Int.RustNames.{int_lt}
use Rattle.std.proofs.Common.{sym, arith}
use Rattle.std.proofs.lemmas.Int.{ints}
use Rattle.fx_model.specs.Fraction.{Fraction, ◌-ℚ◌, ◌≤ℚ◌, zero_ℚ, le_refl, add-le, neg-le, lt_le}
use Rattle.fx_model.specs.Powers.{two_to, two_to-positive, scaled-zero}
use Rattle.fx_model.specs.Grid.{Bound, Below, At, Above}
use Rattle.fx_model.specs.Enclosure.{Range, Lies, IsOrdered, BoundLe, Within, ordered_by}
use Rattle.fx_model.specs.Rounded.{rounded}
use Rattle.fx_model.specs.declared.Direction.{Direction}
use Rattle.fx_model.specs.declared.Direction.TheVariants.{Zr, Aw}
use Rattle.fx_model.specs.declared.Rounding.{Rounding}
use Rattle.rounding.specs.declared.sign.Sign.{Sign}
use Rattle.rounding.specs.declared.sign.Sign.TheVariants.{Unknown, NotNegative, NotPositive, Zero}
use Rattle.rounding.proofs.Sums.{sub-from}
use Rattle.rounding.proofs.Rounded.{rounded-le}
use Rattle.rounding.proofs.Places.{two_to-le, less, not_less}
use Rattle.rounding.specs.Errors.{HasSign, HasPlace, errors, half_of, nowhere, error_range}
use Rattle.rounding.proofs.ErrorLaws.{error_lies}
use Rattle.rounding.proofs.Meet.{wider, zero_possible, signed_zero_possible}
use Rattle.theorem_fix.specs.Roundings.{rounded_end, rounded_range}

-- ---- rounded ends
-- a greater end is rounded to a greater one
pub rounded_end-rises : (r : Rounding) (b c : Bound) → BoundLe b c
    → BoundLe (rounded_end r b) (rounded_end r c)
rounded_end-rises r Below Below l = tt
rounded_end-rises r Below (At h) l = tt
rounded_end-rises r Below Above l = tt
rounded_end-rises r (At g) Below l = l
rounded_end-rises r (At g) (At h) l = rounded-le r.dir r.lsb g h l
rounded_end-rises r (At g) Above l = tt
rounded_end-rises r Above Below l = l
rounded_end-rises r Above (At h) l = l
rounded_end-rises r Above Above l = tt

-- ends in order stay in order
rounded_ordered : (r : Rounding) (b c : Bound) → IsOrdered b c
    → IsOrdered (rounded_end r b) (rounded_end r c)
rounded_ordered r Below Below o = o
rounded_ordered r Below (At h) o = tt
rounded_ordered r Below Above o = tt
rounded_ordered r (At g) Below o = o
rounded_ordered r (At g) (At h) o = rounded-le r.dir r.lsb g h o
rounded_ordered r (At g) Above o = tt
rounded_ordered r Above c o = absurd o

pub rounded_range_ordered : (r : Rounding) (s : Range) → IsOrdered s.low s.high
    → IsOrdered (rounded_range r s).low (rounded_range r s).high
rounded_range_ordered r s o = rounded_ordered r s.low s.high o

pub rounded_range-within : (r : Rounding) (s t : Range) → Within s t
    → Within (rounded_range r s) (rounded_range r t)
rounded_range-within r s t w =
    (rounded_end-rises r t.low s.low w.0, rounded_end-rises r s.high t.high w.1)

-- ---- errors
zero_sign : (s : Sign) → HasSign s zero_ℚ
zero_sign Unknown = tt
zero_sign NotNegative = le_refl zero_ℚ
zero_sign NotPositive = le_refl zero_ℚ
zero_sign Zero = refl

zero_place : (p : Option ℤ) → HasPlace p zero_ℚ
zero_place None = tt
zero_place (Some k) = (_, sym (scaled-zero k))

-- there is an error: that of 0
pub error_range_ordered : (d : Direction) (l : ℤ) (s : Sign) (p : Option ℤ)
    → IsOrdered (error_range d l s p).low (error_range d l s p).high
error_range_ordered d l s p = let m = error_lies d l s p zero_ℚ (zero_sign s) (zero_place p) in
    ordered_by (error_range d l s p).low (error_range d l s p).high
    (rounded d l zero_ℚ -ℚ zero_ℚ) m.0 m.1

unit_from : (l : ℤ) → zero_ℚ ≤ℚ two_to l
unit_from l = lt_le zero_ℚ (two_to l) (two_to-positive l)

-- of 0 there are no more errors than of any number
pub zero_errors : (d : Direction) (l : ℤ) (s : Sign) (x : Fraction)
    → Lies (error_range d l Zero None) x → Lies (error_range d l s None) x
zero_errors Zr l s x e =
    signed_zero_possible x (two_to l) (half_of l) (unit_from l) (unit_from _) s Zr e
zero_errors Aw l s x e =
    signed_zero_possible x (two_to l) (half_of l) (unit_from l) (unit_from _) s Aw e
zero_errors d l Unknown x e = e
zero_errors d l NotNegative x e = e
zero_errors d l NotPositive x e = e
zero_errors d l Zero x e = e

-- of multiples of a greater power there are no more errors
pub multiple_errors-falls : (d : Direction) (l k n : ℤ) (x : Fraction) → k ≤ℤ n
    → Lies (error_range d l Unknown (Some n)) x → Lies (error_range d l Unknown (Some k)) x
multiple_errors-falls d l k n x h e = by_test (int_lt k l) (int_lt n l) refl refl e
  where
    by_test : (b c : Bool) → int_lt k l ≡ b → int_lt n l ≡ c
        → Lies (if c then errors d (two_to l -ℚ two_to n) (half_of l) else nowhere) x
        → Lies (if b then errors d (two_to l -ℚ two_to k) (half_of l) else nowhere) x
    by_test true true p q e = wider x (two_to l -ℚ two_to n) (two_to l -ℚ two_to k)
        (add-le (two_to l) _ _ (neg-le (two_to k) (two_to n) (two_to-le k n h))) d (half_of l) e
    by_test true false p q e = zero_possible x (two_to l -ℚ two_to k) (half_of l)
        (sub-from (two_to l) (two_to k) (two_to-le k l (less k l p))) (unit_from _) d e
    by_test false true p q e = absurd (let a = not_less k l p in grind (arith, ints))
    by_test false false p q e = e
