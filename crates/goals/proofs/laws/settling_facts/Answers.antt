use Rattle.goals.proofs.StrongerSettle.{of_goal, settles_stronger}
use Rattle.goals.proofs.laws.settling_facts.Goals as goal

pub returns : goal.returns
returns c = record { kind = of_goal; stronger = settles_stronger }
