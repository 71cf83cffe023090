-- Laws of fractions that products and quotients of polynomials use.
use Rattle.std.specs.Prelude.{◌≡◌, ℕ, ◌+◌}
use Rattle.std.proofs.Common.{arith, sym, ap, ◌∙◌, zero, suc}
use Rattle.fx_model.specs.Fraction.{Fraction, ◌+ℚ◌, ◌*ℚ◌, ◌/ℚ◌, inverse_ℚ, neg_ℚ, zero_ℚ, one_ℚ}
use Rattle.fx_model.specs.Fraction.{add_comm, add_assoc, zero-add, add-neg, mul_comm, mul_assoc}
use Rattle.fx_model.specs.Fraction.{one-mul, mul-inverse}
use Rattle.fx_model.proofs.Fraction.{div-mul, add-zero, mul-one, mul-zero, add-mul, left_swap}
use Rattle.fx_model.proofs.Fraction.{middle_products}

-- x + (y + z) = y + (x + z)
pub add_swap : (x y z : Fraction) → x +ℚ (y +ℚ z) ≡ y +ℚ (x +ℚ z)
add_swap x y z = sym (add_assoc x y z) ∙ ap (λ u. u +ℚ z) (add_comm x y) ∙ add_assoc y x z

-- A product is zero only where a factor is.
pub product_not_zero : (x y : Fraction) → ¬ (x ≡ zero_ℚ) → ¬ (y ≡ zero_ℚ) → ¬ (x *ℚ y ≡ zero_ℚ)
product_not_zero x y p q e =
    q (sym (one-mul y) ∙ ap (λ u. u *ℚ y) (sym (mul-inverse x p) ∙ mul_comm x (inverse_ℚ x))
    ∙ mul_assoc (inverse_ℚ x) x y ∙ ap (λ u. inverse_ℚ x *ℚ u) e ∙ mul-zero (inverse_ℚ x))

-- A factor that isn't zero cancels.
pub cancel : (x y z : Fraction) → ¬ (z ≡ zero_ℚ) → x *ℚ z ≡ y *ℚ z → x ≡ y
cancel x y z p e = sym (undone x) ∙ ap (λ u. u *ℚ inverse_ℚ z) e ∙ undone y
  where
    undone : (x : Fraction) → (x *ℚ z) *ℚ inverse_ℚ z ≡ x
    undone x = mul_assoc x z (inverse_ℚ z) ∙ ap (λ u. x *ℚ u) (mul-inverse z p) ∙ mul-one x

-- x - y = 0 only where x = y
pub same_from_difference : (x y : Fraction) → x +ℚ neg_ℚ y ≡ zero_ℚ → x ≡ y
same_from_difference x y e =
    sym (add-zero x) ∙ ap (λ u. x +ℚ u) (sym (add-neg y) ∙ add_comm y (neg_ℚ y))
    ∙ sym (add_assoc x (neg_ℚ y) y) ∙ ap (λ u. u +ℚ y) e ∙ zero-add y

-- ---- how quotients n/d add up and multiply, where r d = n and s e = m
pub sum_over : (r s d e n m : Fraction) → r *ℚ d ≡ n → s *ℚ e ≡ m
    → (r +ℚ s) *ℚ (d *ℚ e) ≡ (n *ℚ e) +ℚ (m *ℚ d)
sum_over r s d e n m h k = add-mul r s (d *ℚ e)
    ∙ ap (λ u. u +ℚ (s *ℚ (d *ℚ e))) (sym (mul_assoc r d e) ∙ ap (λ u. u *ℚ e) h)
    ∙ ap (λ u. (n *ℚ e) +ℚ u) (ap (λ u. s *ℚ u) (mul_comm d e)
    ∙ sym (mul_assoc s e d) ∙ ap (λ u. u *ℚ d) k)

pub product_over : (r s d e n m : Fraction) → r *ℚ d ≡ n → s *ℚ e ≡ m
    → (r *ℚ s) *ℚ (d *ℚ e) ≡ n *ℚ m
product_over r s d e n m h k =
    middle_products r s d e ∙ ap (λ u. u *ℚ (s *ℚ e)) h ∙ ap (λ u. n *ℚ u) k

pub quotient_over : (r s d e n m : Fraction) → ¬ (s ≡ zero_ℚ) → r *ℚ d ≡ n → s *ℚ e ≡ m
    → (r /ℚ s) *ℚ (d *ℚ m) ≡ n *ℚ e
quotient_over r s d e n m p h k =
    ap (λ u. (r /ℚ s) *ℚ (d *ℚ u)) (sym k) ∙ ap (λ u. (r /ℚ s) *ℚ u) (left_swap d s e)
    ∙ sym (mul_assoc (r /ℚ s) s (d *ℚ e)) ∙ ap (λ u. u *ℚ (d *ℚ e)) (div-mul r s p)
    ∙ sym (mul_assoc r d e) ∙ ap (λ u. u *ℚ e) h

-- two quotients with equal cross products are equal
pub same_from_cross : (r s d e n m : Fraction) → ¬ (d ≡ zero_ℚ) → ¬ (e ≡ zero_ℚ) → r *ℚ d ≡ n
    → s *ℚ e ≡ m → n *ℚ e ≡ m *ℚ d → r ≡ s
same_from_cross r s d e n m p q h k c = cancel r s (d *ℚ e) (product_not_zero d e p q)
    (sym (mul_assoc r d e) ∙ ap (λ u. u *ℚ e) h ∙ c ∙ ap (λ u. u *ℚ d) (sym k) ∙ mul_assoc s e d
    ∙ ap (λ u. s *ℚ u) (mul_comm e d))

-- x^n
abbrev pub power : Fraction → ℕ → Fraction
power x zero = one_ℚ
power x (suc n) = x *ℚ power x n

pub power-add : (x : Fraction) (j k : ℕ) → power x (j + k) ≡ power x j *ℚ power x k
power-add x zero k = let e : zero + k ≡ k = omega arith in
    ap (power x) e ∙ sym (one-mul (power x k))
power-add x (suc j) k = let e : suc j + k ≡ suc (j + k) = omega arith in
    ap (power x) e ∙ ap (λ u. x *ℚ u) (power-add x j k) ∙ sym (mul_assoc x (power x j) (power x k))
