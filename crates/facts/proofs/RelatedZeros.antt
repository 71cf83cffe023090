-- Of two related values one is 0 exactly where the other is.
use Rattle.std.specs.Prelude.{◌≡◌, ◌≢◌}
use Rattle.std.proofs.Common.{ap, subst, ◌∙◌, ⊎_elim}
use Rattle.fx_model.specs.Fraction.{Fraction, ◌-ℚ◌, ◌/ℚ◌, inverse_ℚ, neg_ℚ, zero_ℚ, one_ℚ, lt_not}
use Rattle.fx_model.specs.Fraction.{zero-add, zero-mul}
use Rattle.fx_model.specs.Grid.{Bound, Below, At, Above}
use Rattle.fx_model.specs.Enclosure.{Lies, IsFrom}
use Rattle.interval.specs.Intervals.{range_of}
use Rattle.facts.specs.declared.relative.RelativeError.{RelativeError}
use Rattle.facts.specs.Holds.{IsRelated}
use Rattle.facts.specs.Ranges.{IsBelow}

-- 0 / y - 1 is -1, below each relative error
error_above : (d : RelativeError) (y : Fraction)
    → Lies (range_of d.interval) ((zero_ℚ /ℚ y) -ℚ one_ℚ) → ⊥
error_above d y l =
    below (range_of d.interval).low d.above_minus_one (subst (IsFrom (range_of d.interval).low)
    (ap (λ z. z -ℚ one_ℚ) (zero-mul (inverse_ℚ y)) ∙ zero-add (neg_ℚ one_ℚ)) l.0)
  where
    below : (b : Bound) → IsBelow (neg_ℚ one_ℚ) b → IsFrom b (neg_ℚ one_ℚ) → ⊥
    below Below m p = m
    below (At g) m p = lt_not (neg_ℚ one_ℚ) g m p
    below Above m p = p

-- where the second of two related values isn't 0, the first isn't
pub first_nonzero : (d : RelativeError) (x y : Fraction) → IsRelated d.interval x y
    → y ≢ zero_ℚ → x ≢ zero_ℚ
first_nonzero d x y r n = ⊎_elim (λ z. absurd (n z.1))
    (λ s e. error_above d y (subst (λ z. Lies (range_of d.interval) ((z /ℚ y) -ℚ one_ℚ)) e s.1)) r

-- and where the first isn't, the second isn't
pub second_nonzero : (d : RelativeError) (x y : Fraction) → IsRelated d.interval x y
    → x ≢ zero_ℚ → y ≢ zero_ℚ
second_nonzero d x y r n = ⊎_elim (λ z. absurd (n z.0)) (λ s. s.0) r

-- where the first is 0, the second is
pub second_zero : (d : RelativeError) (x y : Fraction) → IsRelated d.interval x y
    → x ≡ zero_ℚ → y ≡ zero_ℚ
second_zero d x y r e = ⊎_elim (λ z. z.1) (λ s.
    absurd (error_above d y (subst (λ z. Lies (range_of d.interval) ((z /ℚ y) -ℚ one_ℚ)) e s.1))) r
