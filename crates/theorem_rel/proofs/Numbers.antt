-- Laws of fractions that relative errors use.
use Rattle.std.specs.Prelude.{◌≡◌, ◌≢◌}
use Rattle.std.proofs.Common.{sym, ap, ◌∙◌}
use Rattle.fx_model.specs.Fraction.{Fraction, ◌+ℚ◌, ◌-ℚ◌, ◌*ℚ◌, ◌/ℚ◌, inverse_ℚ, neg_ℚ, zero_ℚ}
use Rattle.fx_model.specs.Fraction.{one_ℚ, add_assoc, mul_comm, mul_assoc, one-mul, mul-add}
use Rattle.fx_model.specs.Fraction.{neg-mul}
use Rattle.fx_model.proofs.Fraction.{div-mul, middle_sums, mul-one, add-mul, middle_products}
use Rattle.grid_words.proofs.FractionLaws.{more-less, added-less, product_nonzero, mul-div}

-- ---- y(1 + t)
-- it is y + yt
pub with_error : (y t : Fraction) → y *ℚ (one_ℚ +ℚ t) ≡ y +ℚ (y *ℚ t)
with_error y t = mul-add y one_ℚ t ∙ ap (λ u. u +ℚ (y *ℚ t)) (mul-one y)

-- (1 + s)(1 + t) = 1 + ((s + t) + st)
pub joint_errors : (s t : Fraction) → (one_ℚ +ℚ s) *ℚ (one_ℚ +ℚ t) ≡ one_ℚ +ℚ ((s +ℚ t) +ℚ (s *ℚ t))
joint_errors s t =
    with_error (one_ℚ +ℚ s) t
    ∙ ap (λ u. (one_ℚ +ℚ s) +ℚ u) (add-mul one_ℚ s t ∙ ap (λ u. u +ℚ (s *ℚ t)) (one-mul t))
    ∙ add_assoc one_ℚ s (t +ℚ (s *ℚ t))
    ∙ ap (λ u. one_ℚ +ℚ u) (sym (add_assoc s t (s *ℚ t)))

-- (c(1 + s))(d(1 + t)) = (cd)(1 + ((s + t) + st))
pub product_errors : (c d s t : Fraction)
    → (c *ℚ (one_ℚ +ℚ s)) *ℚ (d *ℚ (one_ℚ +ℚ t)) ≡ (c *ℚ d) *ℚ (one_ℚ +ℚ ((s +ℚ t) +ℚ (s *ℚ t)))
product_errors c d s t =
    middle_products c (one_ℚ +ℚ s) d (one_ℚ +ℚ t) ∙ ap (λ u. (c *ℚ d) *ℚ u) (joint_errors s t)

-- (c(1 + t))(1 + s) = c(1 + ((s + t) + st))
pub chain_errors : (c s t : Fraction)
    → (c *ℚ (one_ℚ +ℚ t)) *ℚ (one_ℚ +ℚ s) ≡ c *ℚ (one_ℚ +ℚ ((s +ℚ t) +ℚ (s *ℚ t)))
chain_errors c s t = mul_assoc c (one_ℚ +ℚ t) (one_ℚ +ℚ s)
    ∙ ap (λ u. c *ℚ u) (mul_comm (one_ℚ +ℚ t) (one_ℚ +ℚ s) ∙ joint_errors s t)

-- y(1 + t) - y = yt
pub error_alone : (y t : Fraction) → (y *ℚ (one_ℚ +ℚ t)) -ℚ y ≡ y *ℚ t
error_alone y t = ap (λ u. u -ℚ y) (with_error y t) ∙ added-less y (y *ℚ t)

-- y(1 + (x - y) / y) = x
pub difference_error : (x y : Fraction) → y ≢ zero_ℚ → y *ℚ (one_ℚ +ℚ ((x -ℚ y) /ℚ y)) ≡ x
difference_error x y n = with_error y ((x -ℚ y) /ℚ y)
    ∙ ap (λ u. y +ℚ u) (mul_comm y ((x -ℚ y) /ℚ y) ∙ div-mul (x -ℚ y) y n) ∙ more-less y x

-- y(1 + (x / y - 1)) = x
pub quotient_error : (x y : Fraction) → y ≢ zero_ℚ → y *ℚ (one_ℚ +ℚ ((x /ℚ y) -ℚ one_ℚ)) ≡ x
quotient_error x y n =
    ap (λ u. y *ℚ u) (more-less one_ℚ (x /ℚ y)) ∙ mul_comm y (x /ℚ y) ∙ div-mul x y n

-- (y(1 + t)) / y - 1 = t
pub error_of_quotient : (y t : Fraction) → y ≢ zero_ℚ → ((y *ℚ (one_ℚ +ℚ t)) /ℚ y) -ℚ one_ℚ ≡ t
error_of_quotient y t n = ap (λ u. (u /ℚ y) -ℚ one_ℚ) (mul_comm y (one_ℚ +ℚ t))
    ∙ ap (λ u. u -ℚ one_ℚ) (mul-div (one_ℚ +ℚ t) y n) ∙ added-less one_ℚ t

-- x(1 + (1 / u - 1)) = y, where x = yu
pub turned_error : (y u : Fraction) → u ≢ zero_ℚ
    → (y *ℚ u) *ℚ (one_ℚ +ℚ ((one_ℚ /ℚ u) -ℚ one_ℚ)) ≡ y
turned_error y u n =
    ap (λ z. (y *ℚ u) *ℚ z) (more-less one_ℚ (one_ℚ /ℚ u) ∙ one-mul (inverse_ℚ u)) ∙ mul-div y u n

-- (cu) / (dv) = (c / d)(u / v)
quotient_of_products : (c d u v : Fraction) → d ≢ zero_ℚ → v ≢ zero_ℚ
    → (c *ℚ u) /ℚ (d *ℚ v) ≡ (c /ℚ d) *ℚ (u /ℚ v)
quotient_of_products c d u v m n =
    ap (λ z. z /ℚ (d *ℚ v)) (sym (middle_products (c /ℚ d) (u /ℚ v) d v
    ∙ ap (λ z. z *ℚ ((u /ℚ v) *ℚ v)) (div-mul c d m) ∙ ap (λ z. c *ℚ z) (div-mul u v n)))
    ∙ mul-div ((c /ℚ d) *ℚ (u /ℚ v)) (d *ℚ v) (product_nonzero d v m n)

-- (cu) / (dv) = (c / d)(1 + (u / v - 1))
pub ratio_errors : (c d u v : Fraction) → d ≢ zero_ℚ → v ≢ zero_ℚ
    → (c *ℚ u) /ℚ (d *ℚ v) ≡ (c /ℚ d) *ℚ (one_ℚ +ℚ ((u /ℚ v) -ℚ one_ℚ))
ratio_errors c d u v m n =
    quotient_of_products c d u v m n ∙ ap (λ z. (c /ℚ d) *ℚ z) (sym (more-less one_ℚ (u /ℚ v)))

-- ---- sums, by the share of the first
-- y(tl) = ct, where c = ly
shared : (y l c t : Fraction) → l *ℚ y ≡ c → y *ℚ (t *ℚ l) ≡ c *ℚ t
shared y l c t e = ap (λ u. y *ℚ u) (mul_comm t l) ∙ sym (mul_assoc y l t)
    ∙ ap (λ u. u *ℚ t) (mul_comm y l ∙ e)

-- (1 - l)y = d, where ly = c and y = c + d
other_share : (c d l : Fraction) → l *ℚ (c +ℚ d) ≡ c → (one_ℚ -ℚ l) *ℚ (c +ℚ d) ≡ d
other_share c d l e =
    add-mul one_ℚ (neg_ℚ l) (c +ℚ d) ∙ ap (λ u. u +ℚ (neg_ℚ l *ℚ (c +ℚ d))) (one-mul (c +ℚ d))
    ∙ ap (λ u. (c +ℚ d) +ℚ u) (neg-mul l (c +ℚ d) ∙ ap neg_ℚ e) ∙ added-less c d

-- c(1 + s) + d(1 + t) = (c + d)(1 + (sl + t(1 - l))), where l = c / (c + d)
pub sum_errors : (c d s t : Fraction)
    → (c +ℚ d) ≢ zero_ℚ → (c *ℚ (one_ℚ +ℚ s)) +ℚ (d *ℚ (one_ℚ +ℚ t))
    ≡ (c +ℚ d) *ℚ (one_ℚ +ℚ ((s *ℚ (c /ℚ (c +ℚ d))) +ℚ (t *ℚ (one_ℚ -ℚ (c /ℚ (c +ℚ d))))))
sum_errors c d s t n =
    let l : Fraction = c /ℚ (c +ℚ d) in
    let e : l *ℚ (c +ℚ d) ≡ c = div-mul c (c +ℚ d) n in
    ap (λ u. u +ℚ (d *ℚ (one_ℚ +ℚ t))) (with_error c s)
    ∙ ap (λ u. (c +ℚ (c *ℚ s)) +ℚ u) (with_error d t) ∙ middle_sums c (c *ℚ s) d (d *ℚ t)
    ∙ ap (λ u. (c +ℚ d) +ℚ u) (ap (λ u. u +ℚ (d *ℚ t)) (sym (shared (c +ℚ d) l c s e))
    ∙ ap (λ u. ((c +ℚ d) *ℚ (s *ℚ l)) +ℚ u)
    (sym (shared (c +ℚ d) (one_ℚ -ℚ l) d t (other_share c d l e)))
    ∙ sym (mul-add (c +ℚ d) (s *ℚ l) (t *ℚ (one_ℚ -ℚ l))))
    ∙ sym (with_error (c +ℚ d) ((s *ℚ l) +ℚ (t *ℚ (one_ℚ -ℚ l))))
