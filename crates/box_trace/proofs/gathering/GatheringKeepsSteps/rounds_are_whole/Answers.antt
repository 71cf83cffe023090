use Rattle.box_trace.proofs.Gathered.{gathering_idle, come_whole}
use Rattle.box_trace.proofs.gathering.GatheringKeepsSteps.rounds_are_whole.Goals as goal

pub returns-clause-idle : goal.returns-clause-idle
returns-clause-idle g c = λ u first now changed k going idle.
    gathering_idle u first now k going idle

pub returns-clause-whole : goal.returns-clause-whole
returns-clause-whole g c = λ u first now changed came. come_whole u first now changed came
