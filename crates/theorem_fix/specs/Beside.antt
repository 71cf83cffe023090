-- The multiples of a power of two next to a fraction.
use Rattle.std.specs.Prelude.{ℤ}
use Rattle.std.proofs.Common.{sym, subst}
use Rattle.fx_model.specs.Fraction.{Fraction, ◌*ℚ◌, ◌≤ℚ◌, times-le}
use Rattle.fx_model.specs.Powers.{whole, two_to, two_to-positive}
use Rattle.fx_model.specs.Rounded.{whole_for, rounded}
use Rattle.fx_model.specs.declared.Direction.TheVariants.{Dn}
use Rattle.rounding.specs.Beside.{dn_below}
use Rattle.rounding.specs.Rounded.{units, units-times, rounded-is}

-- the one at or below it
pub rounded_below : (k : ℤ) (x : Fraction) → rounded Dn k x ≤ℚ x
rounded_below k x = subst (λ y. y ≤ℚ x) (sym (rounded-is Dn k x))
    (subst (λ y. (whole (whole_for Dn (units k x)) *ℚ two_to k) ≤ℚ y) (units-times k x)
    (times-le (two_to k) (whole (whole_for Dn (units k x))) (units k x) (two_to-positive k)
    (dn_below (units k x))))
