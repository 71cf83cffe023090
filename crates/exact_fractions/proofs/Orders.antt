-- Tests on fractions, from their numbers and from how they compare.
use Rattle.std.specs.Prelude.{◌≡◌, pos, Bool, true, false, ◌&&◌, refl}
use Rattle.std.proofs.Common.{ap, ◌∙◌, subst}
use Rattle.fx_model.specs.Fraction.{Fraction, le_ℚ, is_zero_ℚ, is_zero-zero, is_zero_out, ◌<ℚ◌}
use Rattle.fx_model.specs.Fraction.{lt_le, le_refl, le_antisymm}
use Rattle.exact_fractions.specs.declared.exact.Exact.{Exact}
use Rattle.exact_fractions.specs.Exact.{value_of, are_equal}
use Rattle.exact_fractions.specs.Reduced.{over}
use Rattle.exact_fractions.proofs.Factors.{zero_over, over_zero}

pub zero_test : (x : Exact) → x.num ≡ pos 0 → is_zero_ℚ (value_of x) ≡ true
zero_test x e = ap is_zero_ℚ (ap (λ n. over n x.den) e ∙ over_zero x.den) ∙ is_zero-zero

pub nonzero_test : (x : Exact) → ¬ (x.num ≡ pos 0) → is_zero_ℚ (value_of x) ≡ false
nonzero_test x n = by (is_zero_ℚ (value_of x)) refl
  where
    by : (b : Bool) → is_zero_ℚ (value_of x) ≡ b → is_zero_ℚ (value_of x) ≡ false
    by true e =
        absurd (n (zero_over x.num x.den x.small.lowest.positive (is_zero_out (value_of x) e)))
    by false e = e

pub equal_test : (x y : Fraction) → x ≡ y → are_equal x y ≡ true
equal_test x y e = subst (λ z. (le_ℚ x z && le_ℚ z x) ≡ true) e (ap (λ b. b && b) (le_refl x).le)

pub unequal_test : (x y : Fraction) → ¬ (x ≡ y) → are_equal x y ≡ false
unequal_test x y n = by (le_ℚ x y) (le_ℚ y x) refl refl
  where
    by : (a b : Bool) → le_ℚ x y ≡ a → le_ℚ y x ≡ b → (a && b) ≡ false
    by true true e f = absurd (n (le_antisymm x y (record { le = e }) (record { le = f })))
    by true false e f = refl
    by false b e f = refl

le_of : (x y : Fraction) → x ≡ y → le_ℚ x y ≡ true
le_of x y e = subst (λ z. le_ℚ x z ≡ true) e (le_refl x).le

pub less_at_most : (x y : Fraction) → x <ℚ y → le_ℚ x y ≡ true
less_at_most x y h = (lt_le x y h).le

pub equal_at_most : (x y : Fraction) → x ≡ y → le_ℚ x y ≡ true
equal_at_most x y e = le_of x y e

pub greater_at_most : (x y : Fraction) → y <ℚ x → le_ℚ x y ≡ false
greater_at_most x y h = h.lt

-- what an order says of `≤`
pub ruleset orders_tell = (less_at_most, equal_at_most, greater_at_most)
