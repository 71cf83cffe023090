use Rattle.box_deques.specs.Stealing.{CanSteal}
use Rattle.job_workers.proofs.take.steal_any.Given as goal

abbrev pub invariant-loop-thief : goal.invariant-loop-thief
invariant-loop-thief g l = CanSteal g.Q.Naming.capacity l.hand l.thieves
