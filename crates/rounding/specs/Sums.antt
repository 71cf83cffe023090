-- Sums and differences of fractions: what moves from one side of an order to the other.
use Rattle.std.proofs.Common.{subst}
use Rattle.fx_model.specs.Fraction.{Fraction, ◌+ℚ◌, ◌≤ℚ◌, ◌<ℚ◌, add_comm, add-le, add-lt}

-- ---- the order
pub plus-le : (z x y : Fraction) → x ≤ℚ y → (x +ℚ z) ≤ℚ (y +ℚ z)
plus-le z x y h = subst (λ a. a ≤ℚ (y +ℚ z)) (add_comm z x)
    (subst (λ b. (z +ℚ x) ≤ℚ b) (add_comm z y) (add-le z x y h))

pub plus-lt : (z x y : Fraction) → x <ℚ y → (x +ℚ z) <ℚ (y +ℚ z)
plus-lt z x y h = subst (λ a. a <ℚ (y +ℚ z)) (add_comm z x)
    (subst (λ b. (z +ℚ x) <ℚ b) (add_comm z y) (add-lt z x y h))
