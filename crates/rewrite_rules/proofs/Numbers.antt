-- Differences of fractions that are written as others.
use Rattle.std.specs.Prelude.{◌≡◌}
use Rattle.std.proofs.Common.{sym, ap, ◌∙◌}
use Rattle.fx_model.specs.Fraction.{Fraction, ◌+ℚ◌, ◌-ℚ◌, ◌*ℚ◌, neg_ℚ, add_comm, add_assoc}
use Rattle.fx_model.specs.Fraction.{zero-add, add-neg, mul-add, neg-mul, neg-add, neg-neg, mul-neg}
use Rattle.fx_model.proofs.Fraction.{middle_sums, add-mul}

-- (x - y) + (y - z) = x - z
pub through : (x y z : Fraction) → (x -ℚ y) +ℚ (y -ℚ z) ≡ x -ℚ z
through x y z =
    add_assoc x (neg_ℚ y) (y -ℚ z)
    ∙ ap (λ u. x +ℚ u) (sym (add_assoc (neg_ℚ y) y (neg_ℚ z))
    ∙ ap (λ u. u +ℚ neg_ℚ z) (add_comm (neg_ℚ y) y ∙ add-neg y) ∙ zero-add (neg_ℚ z))

-- -(c - b) = b - c
turned : (b c : Fraction) → neg_ℚ (c -ℚ b) ≡ b -ℚ c
turned b c = neg-add c (neg_ℚ b) ∙ ap (λ u. neg_ℚ c +ℚ u) (neg-neg b) ∙ add_comm (neg_ℚ c) b

-- (a - b) - (c - b) = a - c
pub against : (a b c : Fraction) → (a -ℚ b) -ℚ (c -ℚ b) ≡ a -ℚ c
against a b c = ap (λ u. (a -ℚ b) +ℚ u) (turned b c) ∙ through a b c

-- a - (a - b) = b
pub less_difference : (a b : Fraction) → a -ℚ (a -ℚ b) ≡ b
less_difference a b = ap (λ u. a +ℚ u) (turned b a ∙ add_comm b (neg_ℚ a))
    ∙ sym (add_assoc a (neg_ℚ a) b) ∙ ap (λ u. u +ℚ b) (add-neg a) ∙ zero-add b

-- (a + b) - (c + d) = (a - c) + (b - d)
pub of_sums : (a b c d : Fraction) → (a +ℚ b) -ℚ (c +ℚ d) ≡ (a -ℚ c) +ℚ (b -ℚ d)
of_sums a b c d = ap (λ u. (a +ℚ b) +ℚ u) (neg-add c d) ∙ middle_sums a b (neg_ℚ c) (neg_ℚ d)

-- (a - b) - (c - d) = (a - c) - (b - d)
pub of_differences : (a b c d : Fraction) → (a -ℚ b) -ℚ (c -ℚ d) ≡ (a -ℚ c) -ℚ (b -ℚ d)
of_differences a b c d =
    of_sums a (neg_ℚ b) c (neg_ℚ d) ∙ ap (λ u. (a -ℚ c) +ℚ u) (sym (neg-add b (neg_ℚ d)))

-- ab - cd = a(b - d) + (a - c)d
pub of_products : (a b c d : Fraction) → (a *ℚ b) -ℚ (c *ℚ d) ≡ (a *ℚ (b -ℚ d)) +ℚ ((a -ℚ c) *ℚ d)
of_products a b c d =
    sym (through (a *ℚ b) (a *ℚ d) (c *ℚ d))
    ∙ ap (λ u. u +ℚ ((a *ℚ d) -ℚ (c *ℚ d)))
    (sym (mul-add a b (neg_ℚ d) ∙ ap (λ u. (a *ℚ b) +ℚ u) (mul-neg a d)))
    ∙ ap (λ u. (a *ℚ (b -ℚ d)) +ℚ u)
    (sym (add-mul a (neg_ℚ c) d ∙ ap (λ u. (a *ℚ d) +ℚ u) (neg-mul c d)))

-- (-a) - (-b) = -(a - b)
pub of_negations : (a b : Fraction) → neg_ℚ a -ℚ neg_ℚ b ≡ neg_ℚ (a -ℚ b)
of_negations a b = sym (neg-add a (neg_ℚ b))
