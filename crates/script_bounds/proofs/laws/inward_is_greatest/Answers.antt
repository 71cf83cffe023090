use Rattle.script_bounds.proofs.Inside.{inward-within, inward-greatest}
use Rattle.script_bounds.proofs.laws.inward_is_greatest.Goals as goal

pub returns-clause-within : goal.returns-clause-within
returns-clause-within c = inward-within

pub returns-clause-greatest : goal.returns-clause-greatest
returns-clause-greatest c = inward-greatest
