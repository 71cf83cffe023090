use Rattle.std.specs.Prelude.{◌≡◌, not, refl}
use Rattle.std.proofs.Common.{◌∙◌}
use Rattle.fx_model.specs.Fraction.{Fraction, zero_ℚ}
use Rattle.fx_model.specs.Grid.{Bound, Below, At, Above, le_bound}
use Rattle.interval.specs.Intervals.{range_of}
use Rattle.facts.specs.Ranges.{is_below}
use Rattle.theorem_fix.proofs.nonzero.is_positive.Goals as goal

not_at_most : (x : Fraction) (b : Bound) → not (le_bound b (At x)) ≡ is_below x b
not_at_most x Below = refl
not_at_most x (At g) = refl
not_at_most x Above = refl

pub returns : goal.returns
returns c = c.is_positive.ensures ∙ not_at_most zero_ℚ (range_of c.args.range).low
