use Rattle.std.specs.Prelude.{◌≢◌}
use Rattle.std.proofs.Common.{sym, subst}
use Rattle.fx_model.specs.Fraction.{zero_ℚ, ◌/ℚ◌, lt_le_trans}
use Rattle.fx_model.specs.Grid.{IsDown}
use Rattle.grid_words.specs.Signs.{not_zero}
use Rattle.dyadic.specs.Ends.{bound_of}
use Rattle.dyadic.specs.Values.{value_of}
use Rattle.interval.proofs.Divisors.{quotient_up, quotient_down}
use Rattle.interval.proofs.Inequalities.{below_by}
use Rattle.interval.proofs.quotients.low_quotient.Goals as goal
use Rattle.interval.proofs.quotients.low_quotient.Goals.{then-not_negative, else-not_negative}

pub div_down-requires : goal.div_down-requires
div_down-requires c = elim c.if-not_negative.branch [
  | then-not_negative w ↦ subst (λ d. value_of d ≢ zero_ℚ)
      (sym w.divisor-is) (not_zero _ (lt_le_trans zero_ℚ (value_of c.args.y.now.low)
      (value_of c.args.y.now.high) c.requires c.args.y.now.ordered))
  | else-not_negative w ↦ subst (λ d. value_of d ≢ zero_ℚ)
      (sym w.divisor-is) (not_zero _ c.requires)
]

pub returns : goal.returns
returns c = elim c.if-not_negative.branch [
  | then-not_negative w ↦ quotient_up _ _ _ _ c.args.x.now.ordered c.args.y.now.ordered c.requires _
      (c.not_negative.ensures.0 w.if-not_negative.true)
      (subst (λ d. IsDown (value_of c.args.x.now.low /ℚ value_of d)
      (bound_of c.div_down.result)) w.divisor-is c.div_down.ensures)
  | else-not_negative w ↦ quotient_down _ _ _ _ c.args.x.now.ordered c.args.y.now.ordered c.requires
      _ (below_by _ _ _ c.not_negative.ensures.1 w.if-not_negative.false)
      (subst (λ d. IsDown (value_of c.args.x.now.low /ℚ value_of d)
      (bound_of c.div_down.result)) w.divisor-is c.div_down.ensures)
]
