use Rattle.goals.proofs.Gather.{fact_first, fact_more}
use Rattle.goals.proofs.laws.lines_hold.Goals as goal

pub returns : goal.returns
returns c = record { first = fact_first; more = fact_more }
