use Rattle.script_bounds.proofs.Needs.{below-exact, not_above-exact, above-exact, not_below-exact}
use Rattle.script_bounds.proofs.laws.needs_are_exact.Goals as goal

pub returns-clause-below : goal.returns-clause-below
returns-clause-below c = below-exact

pub returns-clause-not_above : goal.returns-clause-not_above
returns-clause-not_above c = not_above-exact

pub returns-clause-above : goal.returns-clause-above
returns-clause-above c = above-exact

pub returns-clause-not_below : goal.returns-clause-not_below
returns-clause-not_below c = not_below-exact
