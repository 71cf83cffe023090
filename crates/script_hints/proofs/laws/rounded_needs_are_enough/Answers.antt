use Rattle.script_hints.proofs.Enough.{needs_are_enough, met_sides_are_equal}
use Rattle.script_hints.proofs.laws.rounded_needs_are_enough.Goals as goal

pub returns-clause-needs : goal.returns-clause-needs
returns-clause-needs c =
    needs_are_enough c.needs_are_enough.ensures.below c.needs_are_enough.ensures.above

pub returns-clause-sides : goal.returns-clause-sides
returns-clause-sides c =
    met_sides_are_equal c.needs_are_enough.ensures.below c.needs_are_enough.ensures.above
