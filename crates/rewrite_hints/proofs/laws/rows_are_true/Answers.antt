use Rattle.rewrite_hints.proofs.Valued.{rows_are_true, equal_sides_are_met}
use Rattle.rewrite_hints.proofs.laws.rows_are_true.Goals as goal

pub returns-clause-rows : goal.returns-clause-rows
returns-clause-rows c = rows_are_true c.rounded_needs_are_enough.ensures.sides

pub returns-clause-equal : goal.returns-clause-equal
returns-clause-equal c = equal_sides_are_met
