use Rattle.std.specs.Prelude.{All}
use Rattle.script_cases.specs.Cases.{cases}
use Rattle.script_claims.specs.Facts.{HasNormalBounds}
use Rattle.point_eval.proofs.Listed.{AreListed}
use Rattle.point_eval.proofs.evaluation.listed_cases.Given as goal

abbrev pub invariant-loop-number : goal.invariant-loop-number
invariant-loop-number l =
    AreListed (All HasNormalBounds) (λ case. case.items) (cases l.script.parts) l.number
    l.listed.items
