-- Worked rows of values: x * y and x / (y - y) at x = 2, y = 3, and the literal 12.5.
use mathlib.Core.Quot.{sound}
use Rattle.std.specs.Prelude.{◌≡◌, ℕ, pos, negsuc, Some, None, [], ◌∷◌, if◌then◌else◌, refl}
use Rattle.std.proofs.Common.{ap, ◌∙◌, lit<}
use Rattle.fx_model.specs.Fraction.{Ratio, Same, of_ratio, ◌*ℚ◌, ◌/ℚ◌, inverse_ℚ, zero_ℚ}
use Rattle.fx_model.specs.Fraction.{is_zero-zero, mul_ratio, mul-mk, inverse_ratio, inverse-mk}
use Rattle.fx_model.specs.Fraction.{add-neg}
use Rattle.fx_model.specs.Powers.{two_to, whole_ratio, two_to_ratio, whole-mk, two_to-mk}
use Rattle.fx_model.specs.Expression.{Assignment, ten_to, literal_value, quotient, value}
use Rattle.fx_model.specs.Expression.{values_after}
use Rattle.fx_model.specs.declared.ExprId.{ExprId}
use Rattle.fx_model.specs.declared.Node.TheVariants.{Var, Sub, Mul, Div}

abbrev count : ℕ → Ratio
count p = record { plus = p; minus = 0; den = 1; positive = lit< tt }

abbrev two_three : Assignment
two_three = of_ratio (count 2) ∷ (of_ratio (count 3) ∷ [])

abbrev id : ℕ → ExprId
id n = record { 0 = n }

product : value (Var 0 ∷ (Var 1 ∷ (Mul (id 0) (id 1) ∷ []))) two_three (id 2)
    ≡ Some (of_ratio (count 6))
unfolding values_after
product = ap Some (mul-mk (count 2) (count 3)
    ∙ sound {r = Same} {a = mul_ratio (count 2) (count 3)} {b = count 6} refl)

-- a quotient by zero has no value
by_zero : value (Var 0 ∷ (Var 1 ∷ (Sub (id 1) (id 1) ∷ (Div (id 0) (id 2) ∷ [])))) two_three (id 3)
    ≡ None
unfolding values_after
by_zero = ap (λ y. quotient (Some (of_ratio (count 2))) (Some y)) (add-neg (of_ratio (count 3)))
    ∙ ap (λ b. if b then None else Some (of_ratio (count 2) /ℚ zero_ℚ)) is_zero-zero

-- ten_to (-2) is 1/100
hundredth : ten_to (negsuc 1)
    ≡ of_ratio (record { plus = 1; minus = 0; den = 100; positive = lit< tt })
hundredth = ap inverse_ℚ (whole-mk (pos 100)) ∙ inverse-mk (whole_ratio (pos 100))
    ∙ sound {r = Same} {a = inverse_ratio (whole_ratio (pos 100))} {b =
    record { plus = 1; minus = 0; den = 100; positive = lit< tt }} refl

-- 125 * 2^0 * 10^-1 is 25/2
twelve_and_a_half : literal_value (record { num = 125; two = pos 0; ten = negsuc 0 })
    ≡ of_ratio (record { plus = 25; minus = 0; den = 2; positive = lit< tt })
twelve_and_a_half =
    let n : Ratio = mul_ratio (whole_ratio (pos 125)) (two_to_ratio (pos 0)) in
    let t : Ratio = inverse_ratio (whole_ratio (pos 10)) in
    ap (λ x. (x *ℚ two_to (pos 0)) *ℚ ten_to (negsuc 0)) (whole-mk (pos 125))
    ∙ ap (λ y. (of_ratio (whole_ratio (pos 125)) *ℚ y) *ℚ ten_to (negsuc 0)) (two_to-mk (pos 0))
    ∙ ap (λ x. x *ℚ ten_to (negsuc 0)) (mul-mk (whole_ratio (pos 125)) (two_to_ratio (pos 0)))
    ∙ ap (λ y. of_ratio n *ℚ y) (ap inverse_ℚ (whole-mk (pos 10))
    ∙ inverse-mk (whole_ratio (pos 10)))
    ∙ mul-mk n t
    ∙ sound {r = Same} {a = mul_ratio n t} {b =
    record { plus = 25; minus = 0; den = 2; positive = lit< tt }} refl
