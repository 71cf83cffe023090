use Rattle.box_trace.proofs.Sweeps.{swept_none}
use Rattle.box_trace.proofs.sweeping.SweepingSweepsSteps.sweeps_are_whole.Goals as goal

pub returns-clause-none : goal.returns-clause-none
returns-clause-none g c = λ u now. swept_none u now
