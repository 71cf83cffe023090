-- Laws of what specs/Beside defines.
use Rattle.std.specs.Prelude.{ℤ}
use Rattle.std.proofs.Common.{sym, subst}
use Rattle.fx_model.specs.Fraction.{Fraction, ◌*ℚ◌, ◌≤ℚ◌, times-le}
use Rattle.fx_model.specs.Powers.{IsMultiple, whole, two_to, two_to-positive}
use Rattle.fx_model.specs.Rounded.{whole_for, rounded}
use Rattle.fx_model.specs.declared.Direction.TheVariants.{Dn, Up}
use Rattle.rounding.proofs.Beside.{up_above}
use Rattle.rounding.specs.Rounded.{units, units-times, rounded-is, rounded-multiple}
use Rattle.rounding.proofs.Rounded.{rounded-le}

-- the one at or above it
pub rounded_above : (k : ℤ) (x : Fraction) → x ≤ℚ rounded Up k x
rounded_above k x = subst (λ y. x ≤ℚ y) (sym (rounded-is Up k x))
    (subst (λ y. y ≤ℚ (whole (whole_for Up (units k x)) *ℚ two_to k)) (units-times k x)
    (times-le (two_to k) (units k x) (whole (whole_for Up (units k x))) (two_to-positive k)
    (up_above (units k x))))

-- no multiple lies between
pub multiple_below : (k : ℤ) (x m : Fraction) → IsMultiple k m → m ≤ℚ x → m ≤ℚ rounded Dn k x
multiple_below k x m p h =
    subst (λ y. y ≤ℚ rounded Dn k x) (rounded-multiple Dn k m p) (rounded-le Dn k m x h)

pub multiple_above : (k : ℤ) (x m : Fraction) → IsMultiple k m → x ≤ℚ m → rounded Up k x ≤ℚ m
multiple_above k x m p h =
    subst (λ y. rounded Up k x ≤ℚ y) (rounded-multiple Up k m p) (rounded-le Up k x m h)
