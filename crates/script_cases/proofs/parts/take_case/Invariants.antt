use Rattle.std.proofs.Common.{length}
use Rattle.script_cases.proofs.Steps.{IsTaking}
use Rattle.script_cases.proofs.parts.take_case.Given as goal

abbrev pub invariant-loop-parts : goal.invariant-loop-parts
invariant-loop-parts g l =
    IsTaking l.items l.ends l.fn.parts l.fn.number l.parts l.from l.number l.left l.case.items

abbrev pub decreases-loop-parts : goal.decreases-loop-parts
decreases-loop-parts g l = length l.parts
