-- Worked rows: arithmetic on fractions, and one rounding to the grid.
use mathlib.Core.Quot.{sound}
use Rattle.std.specs.Prelude.{◌≡◌, ℕ, ℤ, pos, negsuc, true, refl}
use Rattle.std.proofs.Common.{suc, ◌<◌, arith, lit<, lit≤, sym, ap, ◌∙◌, subst, inl}
use Rattle.std.proofs.lemmas.Int.{ints}
use Rattle.fx_model.specs.Fraction.{Ratio, Same, of_ratio, ◌+ℚ◌, ◌*ℚ◌, ◌/ℚ◌, ◌<ℚ◌, one_ℚ, add_ratio}
use Rattle.fx_model.specs.Fraction.{mul_ratio, inverse_ratio, add-mk, mul-mk, inverse-mk, le-mk}
use Rattle.fx_model.specs.Powers.{two_to, scaled, whole_ratio, two_to_ratio, whole-mk, two_to-mk}
use Rattle.fx_model.specs.Grid.{At, IsDown}
use Rattle.fx_model.specs.Cut.{down_is}

suc_positive : (d : ℕ) → 0 < suc d
suc_positive d = omega arith

-- p / (d + 1)
abbrev ratio : ℕ → ℕ → Ratio
ratio p d = record { plus = p; minus = 0; den = suc d; positive = suc_positive d }

-- how m * 2^e is written
scaled-mk : (m e : ℤ) → scaled m e ≡ of_ratio (mul_ratio (whole_ratio m) (two_to_ratio e))
scaled-mk m e =
    ap (λ x. x *ℚ two_to e) (whole-mk m) ∙ ap (λ y. of_ratio (whole_ratio m) *ℚ y) (two_to-mk e)
    ∙ mul-mk (whole_ratio m) (two_to_ratio e)

-- 1/3 + 1/6 is 1/2
third_and_sixth : of_ratio (ratio 1 2) +ℚ of_ratio (ratio 1 5) ≡ of_ratio (ratio 1 1)
third_and_sixth = add-mk (ratio 1 2) (ratio 1 5)
    ∙ sound {r = Same} {a = add_ratio (ratio 1 2) (ratio 1 5)} {b = ratio 1 1} refl

-- (2/3) / (4/3) is 1/2
two_thirds_over_four_thirds : of_ratio (ratio 2 2) /ℚ of_ratio (ratio 4 2) ≡ of_ratio (ratio 1 1)
two_thirds_over_four_thirds = ap (λ y. of_ratio (ratio 2 2) *ℚ y) (inverse-mk (ratio 4 2))
    ∙ mul-mk (ratio 2 2) (inverse_ratio (ratio 4 2))
    ∙ sound {r = Same} {a = mul_ratio (ratio 2 2) (inverse_ratio (ratio 4 2))} {b = ratio 1 1} refl

-- 2^-1 + 2^-1 is 1
two_halves : two_to (negsuc 0) +ℚ two_to (negsuc 0) ≡ one_ℚ
unfolding one_ℚ
two_halves = ap (λ x. x +ℚ x) (two_to-mk (negsuc 0))
    ∙ add-mk (two_to_ratio (negsuc 0)) (two_to_ratio (negsuc 0))
    ∙ sound {r = Same} {a = add_ratio (two_to_ratio (negsuc 0)) (two_to_ratio (negsuc 0))} {b =
    record { plus = 1; minus = 0; den = 1; positive = lit< tt }} refl

-- 5 * 2^-1 is 5/2
five_times_half : scaled (pos 5) (negsuc 0) ≡ of_ratio (ratio 5 1)
five_times_half = scaled-mk (pos 5) (negsuc 0) ∙ sound {r = Same} {a =
    mul_ratio (whole_ratio (pos 5)) (two_to_ratio (negsuc 0))} {b = ratio 5 1} refl

-- the grid number just below 1/3 has 60 digits
below_third : scaled (pos 768614336404564650) (negsuc 60) <ℚ of_ratio (ratio 1 2)
below_third =
    subst (λ x. x <ℚ of_ratio (ratio 1 2)) (sym (scaled-mk (pos 768614336404564650) (negsuc 60)))
    (record {
      lt = le-mk (ratio 1 2) (mul_ratio (whole_ratio (pos 768614336404564650))
          (two_to_ratio (negsuc 60)));
    })

above_third : of_ratio (ratio 1 2) <ℚ scaled (pos 768614336404564651) (negsuc 60)
above_third =
    subst (λ x. of_ratio (ratio 1 2) <ℚ x) (sym (scaled-mk (pos 768614336404564651) (negsuc 60)))
    (record {
      lt = le-mk (mul_ratio (whole_ratio (pos 768614336404564651)) (two_to_ratio (negsuc 60)))
          (ratio 1 2);
    })

-- down(1/3) = 768614336404564650 * 2^-61
down_third : IsDown (of_ratio (ratio 1 2)) (At (scaled (pos 768614336404564650) (negsuc 60)))
down_third = down_is (of_ratio (ratio 1 2)) 768614336404564650 (negsuc 60) true
    (below_third, above_third) (inl (lit≤ tt)) (lit< tt) (omega (arith, ints)) (omega (arith, ints))
