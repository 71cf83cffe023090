use Rattle.std.specs.Prelude.{All}
use Rattle.script_cases.specs.Cases.{cases}
use Rattle.script_claims.specs.Facts.{HasNormalBounds}
use Rattle.point_eval.proofs.Listed.{listed_more}
use Rattle.point_eval.proofs.evaluation.listed_cases.Goals as goal

pub loop-number-preserved : goal.loop-number-preserved
loop-number-preserved c = rw c.in_ok-push.ensures.items
    (listed_more (All HasNormalBounds) (λ case. case.items) (cases c.args.script.now.parts)
    c.loop-number.number c.loop-number.listed.items c.in_ok-case.case c.loop-number.invariant
    c.in_ok-case.ensures.value c.in_ok-case.ensures.normal)
