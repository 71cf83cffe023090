-- Laws of what specs/Rounded defines.
use lib.IntN.{neg_ℤ}
use Rattle.std.specs.Prelude.{◌≡◌, ℤ, pos, ◌+ℤ◌, ◌*ℤ◌, ◌≤ℤ◌, ◌^◌}
use Rattle.std.proofs.Common.{sym, ap, ◌∙◌}
use Rattle.fx_model.specs.Fraction.{Fraction, ◌*ℚ◌, ◌≤ℚ◌, mul_assoc, times-le}
use Rattle.fx_model.specs.Powers.{whole, two_to, scaled, IsMultiple, two_to-add, two_to-positive}
use Rattle.fx_model.specs.Powers.{scaled-le, scaled-shift}
use Rattle.fx_model.specs.Cut.{gap_le}
use Rattle.fx_model.specs.declared.Direction.{Direction}
use Rattle.fx_model.specs.Rounded.{whole_for, rounded}
use Rattle.rounding.proofs.Monotone.{whole_for-le}
use Rattle.rounding.specs.Rounded.{units, rounded-multiple}

-- ---- units of 2^l
pub units-exact : (l m e : ℤ) → units l (scaled m e) ≡ scaled m (e +ℤ neg_ℤ l)
units-exact l m e = mul_assoc (whole m) (two_to e) (two_to (neg_ℤ l))
    ∙ ap (λ a. whole m *ℚ a) (sym (two_to-add e (neg_ℤ l)))

-- ---- the three laws
pub rounded-le : (d : Direction) (l : ℤ) (x y : Fraction) → x ≤ℚ y → rounded d l x ≤ℚ rounded d l y
unfolding rounded
rounded-le d l x y h =
    scaled-le (whole_for d (units l x)) (whole_for d (units l y)) l (whole_for-le d (units l x)
    (units l y) (times-le (two_to (neg_ℤ l)) x y (two_to-positive (neg_ℤ l)) h))

-- a multiple of 2^k is one of 2^l for l at most k
pub multiple_of_less : (k l : ℤ) (x : Fraction) → l ≤ℤ k → IsMultiple k x → IsMultiple l x
multiple_of_less k l x h p = let g = gap_le l k h in
    (p.0 *ℤ pos (2 ^ g.0), p.1 ∙ ap (scaled p.0) g.1 ∙ scaled-shift p.0 l g.0)

pub rounded-finer : (d : Direction) (k l : ℤ) (x : Fraction) → l ≤ℤ k
    → IsMultiple k x → rounded d l x ≡ x
rounded-finer d k l x h p = rounded-multiple d l x (multiple_of_less k l x h p)
