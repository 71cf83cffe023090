-- The numbers of two fractions over their common denominator.
use mathlib.Core.Quot.{sound}
use borrow.Author.Differences.{up, down, product_is}
use Rattle.std.specs.Prelude.{◌≡◌, ℕ, ℤ, pos, ◌+ℤ◌, ◌*ℤ◌, ◌≤ℤ◌, ◌<ℤ◌, ◌+◌, ◌*◌, ◌/◌, ◌<◌, ◌≤◌, refl}
use Rattle.std.specs.Int.{◌∣◌}
use Rattle.std.proofs.Common.{arith, sym, ap, ◌∙◌}
use Rattle.std.proofs.lemmas.Int.{ints}
use Rattle.std.proofs.Math.Nat.{div-mul_cancel, mul-pos}
use Rattle.std.specs.Ordering.{int_cmp, MatchOrdering}
use Rattle.std.proofs.lemmas.Cmp.{int_ranked}
use Rattle.std.specs.declared.cmp.Ordering.{Ordering}
use Rattle.std.specs.declared.cmp.Ordering.TheVariants as order
use Rattle.fx_model.specs.Fraction.{lt_by, Same, Fraction, ◌+ℚ◌, ◌*ℚ◌, ◌≤ℚ◌, inverse_ℚ, le_out}
use Rattle.fx_model.specs.Fraction.{cancel_le, mul_comm, mul-add}
use Rattle.fx_model.specs.Powers.{whole, whole-add}
use Rattle.exact_fractions.specs.declared.exact.Exact.{Exact}
use Rattle.exact_fractions.specs.Divisors.{gcd, gcd_is, gcd_positive}
use Rattle.exact_fractions.specs.Reduced.{numerator, denominator, over}
use Rattle.exact_fractions.proofs.Lowest.{lowest_ratio, over-mk, over_parts, numerator-over}
use Rattle.exact_fractions.proofs.Lowest.{denominator-over, denominator-positive, quotient_positive}
use Rattle.exact_fractions.specs.Exact.{value_of, IsOrder}
use Rattle.exact_fractions.specs.Wide.{shared, left_number, right_number, common_denominator}

pub num_is : (x : Exact) → numerator (value_of x) ≡ x.num
num_is x = numerator-over x.num x.den x.small.lowest

pub den_is : (x : Exact) → denominator (value_of x) ≡ x.den
den_is x = denominator-over x.num x.den x.small.lowest

pub shared_is : (x y : Exact) → shared (value_of x) (value_of y) ≡ gcd x.den y.den
shared_is x y = rw (den_is x, den_is y) refl

pub left_is : (x y : Exact) → left_number (value_of x) (value_of y)
    ≡ x.num *ℤ pos (y.den / shared (value_of x) (value_of y))
left_is x y = ap (λ n. n *ℤ pos (denominator (value_of y) / shared (value_of x) (value_of y)))
    (num_is x) ∙ ap (λ d. x.num *ℤ pos (d / shared (value_of x) (value_of y))) (den_is y)

pub right_is : (x y : Exact) → right_number (value_of x) (value_of y)
    ≡ y.num *ℤ pos (x.den / shared (value_of x) (value_of y))
right_is x y = ap (λ n. n *ℤ pos (denominator (value_of x) / shared (value_of x) (value_of y)))
    (num_is y) ∙ ap (λ d. y.num *ℤ pos (d / shared (value_of x) (value_of y))) (den_is x)

pub common_is : (x y : Exact) → common_denominator (value_of x) (value_of y) ≡ x.den
    * (y.den / shared (value_of x) (value_of y))
common_is x y = ap (λ d. d * (denominator (value_of y) / shared (value_of x) (value_of y)))
    (den_is x) ∙ ap (λ d. x.den * (d / shared (value_of x) (value_of y))) (den_is y)

pub shared_positive : (x y : Fraction) → 0 < shared x y
shared_positive x y = gcd_positive (denominator x) (denominator y) (denominator-positive y)

-- ---- a common factor goes out
cancelled : (n : ℤ) (d k : ℕ) → up (n *ℤ pos k) * d + down n * (d * k) ≡ up n * (d * k)
    + down (n *ℤ pos k) * d
cancelled n d k = let p = product_is n (pos k) in
    omega (arith, ap (λ m. m * d) p.0, ap (λ m. m * d) p.1)

pub over-cancel : (n : ℤ) (d k : ℕ) → 0 < d → 0 < k → over (n *ℤ pos k) (d * k) ≡ over n d
over-cancel n d k p q = over-mk (n *ℤ pos k) (d * k) (mul-pos p q)
    ∙ sound {r = Same} {a = lowest_ratio (n *ℤ pos k) (d * k) (mul-pos p q)} {b =
    lowest_ratio n d p} (cancelled n d k) ∙ sym (over-mk n d p)

pub common_positive : (x y : Fraction) → 0 < common_denominator x y
common_positive x y =
    mul-pos (denominator-positive x) (quotient_positive (denominator y) (shared x y)
    (gcd_is (denominator x) (denominator y)).1 (denominator-positive y))

pub left-over : (x y : Fraction) → over (left_number x y) (common_denominator x y) ≡ x
left-over x y = over-cancel (numerator x) (denominator x) (denominator y / shared x y)
    (denominator-positive x) (quotient_positive (denominator y) (shared x y)
    (gcd_is (denominator x) (denominator y)).1 (denominator-positive y)) ∙ over_parts x

crosswise : (d e g : ℕ) → g ∣ d → g ∣ e → d * (e / g) ≡ e * (d / g)
crosswise d e g h k = ap (λ n. n * (e / g)) (sym (div-mul_cancel g h)) ∙ swap (d / g) g (e / g)
    ∙ ap (λ n. n * (d / g)) (div-mul_cancel g k)
  where
    swap : (a b c : ℕ) → (a * b) * c ≡ (c * b) * a
    swap a b c = omega arith

pub right-over : (x y : Fraction) → over (right_number x y) (common_denominator x y) ≡ y
right-over x y = let g = gcd_is (denominator x) (denominator y) in
    ap (over (right_number x y)) (crosswise (denominator x) (denominator y) (shared x y) g.0 g.1)
    ∙ over-cancel (numerator y) (denominator y) (denominator x / shared x y)
    (denominator-positive y) (quotient_positive (denominator x) (shared x y) g.0
    (denominator-positive x)) ∙ over_parts y

-- ---- sums over one denominator
pub over-add : (m n : ℤ) (d : ℕ) → over (m +ℤ n) d ≡ over m d +ℚ over n d
over-add m n d = let i : Fraction = inverse_ℚ (whole (pos d)) in ap (λ w. w *ℚ i) (whole-add m n)
    ∙ mul_comm (whole m +ℚ whole n) i ∙ mul-add i (whole m) (whole n)
    ∙ ap (λ w. w +ℚ (i *ℚ whole n)) (mul_comm i (whole m))
    ∙ ap (λ w. (whole m *ℚ i) +ℚ w) (mul_comm i (whole n))

pub sum_over : (x y : Fraction)
    → over (left_number x y +ℤ right_number x y) (common_denominator x y) ≡ x +ℚ y
sum_over x y = over-add (left_number x y) (right_number x y) (common_denominator x y)
    ∙ ap (λ z. z +ℚ over (right_number x y) (common_denominator x y)) (left-over x y)
    ∙ ap (λ z. x +ℚ z) (right-over x y)

-- ---- the order over one denominator
pub over-le_out : (m n : ℤ) (d : ℕ) → 0 < d → over m d ≤ℚ over n d → m ≤ℤ n
over-le_out m n d p h =
    let l = le_out (lowest_ratio m d p) (lowest_ratio n d p)
    (rw (over-mk m d p, over-mk n d p) at h) in
    let k : up m + down n ≤ up n + down m =
    cancel_le d (up m + down n) (up n + down m) p (omega arith) in omega (arith, ints)

pub le-numbers : (x y : Fraction) → x ≤ℚ y → left_number x y ≤ℤ right_number x y
le-numbers x y h = over-le_out (left_number x y) (right_number x y) (common_denominator x y)
    (common_positive x y) (rw (left-over x y, right-over x y) h)

pub le-numbers_back : (x y : Fraction) → y ≤ℚ x → right_number x y ≤ℤ left_number x y
le-numbers_back x y h = over-le_out (right_number x y) (left_number x y) (common_denominator x y)
    (common_positive x y) (rw (left-over x y, right-over x y) h)

pub order_is : (x y : Fraction) (o : Ordering) → o ≡ int_cmp (left_number x y) (right_number x y)
    → IsOrder x y o
order_is x y o e = by o (int_ranked (left_number x y) (right_number x y) o e)
  where
    by : (o : Ordering) → MatchOrdering o (left_number x y <ℤ right_number x y) (left_number x y
        ≡ right_number x y) (right_number x y <ℤ left_number x y) → IsOrder x y o
    by order.Less l = lt_by x y (λ h. let k = le-numbers_back x y h in absurd (omega (arith, ints)))
    by order.Equal q = sym (left-over x y) ∙ ap (λ n. over n (common_denominator x y)) q
        ∙ right-over x y
    by order.Greater l = lt_by y x (λ h. let k = le-numbers x y h in absurd (omega (arith, ints)))
