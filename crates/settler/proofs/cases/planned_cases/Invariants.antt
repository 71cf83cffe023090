use Rattle.std.proofs.Common.{take}
use Rattle.script_grammar.specs.Cases.{cases_of}
use Rattle.settler.specs.Cases.{AreCases}
use Rattle.settler.proofs.cases.planned_cases.Given as goal

abbrev pub invariant-loop-number : goal.invariant-loop-number
invariant-loop-number l =
    AreCases l.script l.depth (take l.number (cases_of l.script)) l.cases.items
