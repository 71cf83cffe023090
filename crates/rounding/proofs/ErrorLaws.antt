-- The errors of roundings are possible ones.
use lib.IntN.{neg_ℤ}
use Rattle.std.specs.Prelude.{◌≡◌, ℤ, Option, Some, None, Bool, true, false, if◌then◌else◌, refl}
use Rattle.std.specs.Int.RustNames.{int_lt}
use Rattle.std.proofs.Common.{sym, ap, ◌∙◌, subst}
use Rattle.fx_model.specs.Fraction.{Fraction, ◌-ℚ◌, ◌≤ℚ◌, neg_ℚ, zero_ℚ, le_refl, lt_le, zero-mul}
use Rattle.fx_model.specs.Fraction.{add-neg, times-le}
use Rattle.fx_model.specs.Powers.{two_to, two_to-positive}
use Rattle.fx_model.specs.Enclosure.{Lies}
use Rattle.fx_model.specs.declared.Direction.{Direction}
use Rattle.fx_model.specs.declared.Direction.TheVariants.{Zr, Aw, Dn, Up, Od, Ne, No, Nz, Na, Nd}
use Rattle.fx_model.specs.declared.Direction.TheVariants.{Nu}
use Rattle.rounding.specs.declared.sign.Sign.{Sign}
use Rattle.rounding.specs.declared.sign.Sign.TheVariants.{Unknown, NotNegative, NotPositive, Zero}
use Rattle.rounding.specs.Beside.{dn_below}
use Rattle.rounding.proofs.Beside.{up_above, zr_below, zr_above, aw_below, aw_above}
use Rattle.rounding.specs.Rounded.{units}
use Rattle.rounding.proofs.Rounded.{rounded-finer}
use Rattle.rounding.proofs.Scale.{error_of, error_below, error_above, near_at_most, near_at_least}
use Rattle.rounding.proofs.Scale.{left, right}
use Rattle.rounding.proofs.Places.{place_at_most, place_at_least, less, not_less}
use Rattle.rounding.specs.Errors.{errors, signed_errors, half_of, HasSign, HasPlace, error_range}
use Rattle.rounding.specs.Errors.{nowhere}

-- ---- by direction
errors_lie : (d : Direction) (l : ℤ) (x u : Fraction) → neg_ℚ u ≤ℚ error_of d l x
    → error_of d l x ≤ℚ u → Lies (errors d u (half_of l)) (error_of d l x)
errors_lie Dn l x u a b = (a, left Dn l x (dn_below (units l x)))
errors_lie Up l x u a b = (right Up l x (up_above (units l x)), b)
errors_lie Zr l x u a b = (a, b)
errors_lie Aw l x u a b = (a, b)
errors_lie Od l x u a b = (a, b)
errors_lie Ne l x u a b = (near_at_least Ne l x refl, near_at_most Ne l x refl)
errors_lie No l x u a b = (near_at_least No l x refl, near_at_most No l x refl)
errors_lie Nz l x u a b = (near_at_least Nz l x refl, near_at_most Nz l x refl)
errors_lie Na l x u a b = (near_at_least Na l x refl, near_at_most Na l x refl)
errors_lie Nd l x u a b = (near_at_least Nd l x refl, near_at_most Nd l x refl)
errors_lie Nu l x u a b = (near_at_least Nu l x refl, near_at_most Nu l x refl)

-- ---- by sign
units_from : (l : ℤ) (x : Fraction) → zero_ℚ ≤ℚ x → zero_ℚ ≤ℚ units l x
units_from l x h = subst (λ z. z ≤ℚ units l x) (zero-mul (two_to (neg_ℤ l)))
    (times-le (two_to (neg_ℤ l)) zero_ℚ x (two_to-positive (neg_ℤ l)) h)

units_to : (l : ℤ) (x : Fraction) → x ≤ℚ zero_ℚ → units l x ≤ℚ zero_ℚ
units_to l x h = subst (λ z. units l x ≤ℚ z) (zero-mul (two_to (neg_ℤ l)))
    (times-le (two_to (neg_ℤ l)) x zero_ℚ (two_to-positive (neg_ℤ l)) h)

from_zero : (x : Fraction) → x ≡ zero_ℚ → zero_ℚ ≤ℚ x
from_zero x e = subst (λ z. zero_ℚ ≤ℚ z) (sym e) (le_refl zero_ℚ)

to_zero : (x : Fraction) → x ≡ zero_ℚ → x ≤ℚ zero_ℚ
to_zero x e = subst (λ z. z ≤ℚ zero_ℚ) (sym e) (le_refl zero_ℚ)

signed_errors_lie : (sign : Sign) (d : Direction) (l : ℤ) (x u : Fraction)
    → HasSign sign x → neg_ℚ u ≤ℚ error_of d l x → error_of d l x ≤ℚ u
    → Lies (signed_errors sign d u (half_of l)) (error_of d l x)
signed_errors_lie Unknown d l x u k a b = errors_lie d l x u a b
signed_errors_lie NotNegative Zr l x u k a b =
    (a, left Zr l x (zr_below (units l x) (units_from l x k)))
signed_errors_lie NotNegative Aw l x u k a b =
    (right Aw l x (aw_above (units l x) (units_from l x k)), b)
signed_errors_lie NotNegative d l x u k a b = errors_lie d l x u a b
signed_errors_lie NotPositive Zr l x u k a b =
    (right Zr l x (zr_above (units l x) (units_to l x k)), b)
signed_errors_lie NotPositive Aw l x u k a b =
    (a, left Aw l x (aw_below (units l x) (units_to l x k)))
signed_errors_lie NotPositive d l x u k a b = errors_lie d l x u a b
signed_errors_lie Zero Zr l x u k a b = (
  right Zr l x (zr_above (units l x) (units_to l x (to_zero x k))),
  left Zr l x (zr_below (units l x) (units_from l x (from_zero x k))),
)
signed_errors_lie Zero Aw l x u k a b = (
  right Aw l x (aw_above (units l x) (units_from l x (from_zero x k))),
  left Aw l x (aw_below (units l x) (units_to l x (to_zero x k))),
)
signed_errors_lie Zero d l x u k a b = errors_lie d l x u a b

-- ---- all that is known
pub error_lies : (d : Direction) (l : ℤ) (sign : Sign) (place : Option ℤ) (x : Fraction)
    → HasSign sign x → HasPlace place x → Lies (error_range d l sign place) (error_of d l x)
error_lies d l sign None x s p = signed_errors_lie sign d l x (two_to l) s (lt_le (neg_ℚ (two_to l))
    (error_of d l x) (error_above d l x)) (lt_le (error_of d l x) (two_to l) (error_below d l x))
error_lies d l sign (Some k) x s p = by (int_lt k l) refl
  where
    by : (b : Bool) → int_lt k l ≡ b → Lies (if b
        then signed_errors sign d (two_to l -ℚ two_to k) (half_of l) else nowhere) (error_of d l x)
    by true e = signed_errors_lie sign d l x (two_to l -ℚ two_to k) s
        (place_at_least d k l x (less k l e) p) (place_at_most d k l x (less k l e) p)
    by false e = let z : error_of d l x ≡ zero_ℚ =
        ap (λ y. y -ℚ x) (rounded-finer d k l x (not_less k l e) p) ∙ add-neg x in
        (from_zero (error_of d l x) z, to_zero (error_of d l x) z)
