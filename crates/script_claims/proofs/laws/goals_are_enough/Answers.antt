use Rattle.script_claims.proofs.ReadGoals.{goals_inside, goals_zero}
use Rattle.script_claims.proofs.laws.goals_are_enough.Goals as goal

pub returns : goal.returns
returns c = record { inside = goals_inside c.inward_is_greatest.ensures.within; zeros = goals_zero }
