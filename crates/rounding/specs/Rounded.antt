-- Rounded numbers: monotone, multiples, and multiples are left as they are.
use lib.IntN.{neg_ℤ}
use Rattle.std.specs.Prelude.{◌≡◌, ℤ, pos, ◌+ℤ◌, refl}
use Rattle.std.proofs.Common.{arith, sym, ap, ◌∙◌}
use Rattle.std.proofs.lemmas.Int.{ints}
use Rattle.fx_model.specs.Fraction.{Fraction, ◌*ℚ◌, mul_assoc, mul_comm, one-mul}
use Rattle.fx_model.specs.Powers.{whole, two_to, scaled, IsMultiple, two_to-add, two_to-pos}
use Rattle.fx_model.specs.Powers.{one-whole}
use Rattle.fx_model.specs.declared.Direction.{Direction}
use Rattle.fx_model.specs.Rounded.{whole_for, rounded}
use Rattle.rounding.specs.Beside.{whole_for-whole}

-- ---- units of 2^l
-- how many units x has
abbrev pub units : ℤ → Fraction → Fraction
units l x = x *ℚ two_to (neg_ℤ l)

pub two_to-zero : two_to (pos 0) ≡ whole (pos 1)
two_to-zero = two_to-pos 0

pub whole_one-mul : (x : Fraction) → whole (pos 1) *ℚ x ≡ x
whole_one-mul x = ap (λ a. a *ℚ x) (sym one-whole) ∙ one-mul x

pub mul-whole_one : (x : Fraction) → x *ℚ whole (pos 1) ≡ x
mul-whole_one x = mul_comm x (whole (pos 1)) ∙ whole_one-mul x

pub two_to-inverse : (l : ℤ) → two_to (neg_ℤ l) *ℚ two_to l ≡ whole (pos 1)
two_to-inverse l = let e : neg_ℤ l +ℤ l ≡ pos 0 = omega (arith, ints) in
    sym (two_to-add (neg_ℤ l) l) ∙ ap two_to e ∙ two_to-zero

pub units-times : (l : ℤ) (x : Fraction) → units l x *ℚ two_to l ≡ x
units-times l x = mul_assoc x (two_to (neg_ℤ l)) (two_to l)
    ∙ ap (λ a. x *ℚ a) (two_to-inverse l) ∙ mul-whole_one x

pub units-scaled : (l m : ℤ) → units l (scaled m l) ≡ whole m
units-scaled l m = mul_assoc (whole m) (two_to l) (two_to (neg_ℤ l)) ∙ ap (λ a. whole m *ℚ a)
    (mul_comm (two_to l) (two_to (neg_ℤ l)) ∙ two_to-inverse l) ∙ mul-whole_one (whole m)

-- the definition of a rounded number
pub rounded-is : (d : Direction) (l : ℤ) (x : Fraction)
    → rounded d l x ≡ scaled (whole_for d (units l x)) l
unfolding rounded
rounded-is d l x = refl

-- ---- the three laws
pub rounded_multiple : (d : Direction) (l : ℤ) (x : Fraction) → IsMultiple l (rounded d l x)
unfolding rounded
rounded_multiple d l x = (whole_for d (units l x), refl)

pub rounded-scaled : (d : Direction) (l m : ℤ) → rounded d l (scaled m l) ≡ scaled m l
unfolding rounded
rounded-scaled d l m =
    ap (λ w. scaled w l) (ap (whole_for d) (units-scaled l m) ∙ whole_for-whole d m)

pub rounded-multiple : (d : Direction) (l : ℤ) (x : Fraction) → IsMultiple l x → rounded d l x ≡ x
rounded-multiple d l x p = ap (rounded d l) p.1 ∙ rounded-scaled d l p.0 ∙ sym p.1
