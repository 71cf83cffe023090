use Rattle.std.proofs.Common.{sym, subst}
use Rattle.std.proofs.lemmas.List.Elements.{recursion_from_All}
use Rattle.script_claims.specs.Facts.{HasNormalBounds}
use Rattle.universe.specs.Cases.{AreHypotheses}
use Rattle.universe.proofs.Cases.{all_are}
use Rattle.worker_tests.proofs.of_saturate.assumed_universe.Goals as goal

pub assume-requires-clause-claims : goal.assume-requires-clause-claims
assume-requires-clause-claims c =
    subst (AreHypotheses c.args.script.now) (sym c.hypotheses.ensures.value)
    (all_are c.args.script.now.hypotheses)

pub assume-requires-clause-normal : goal.assume-requires-clause-normal
assume-requires-clause-normal c =
    recursion_from_All HasNormalBounds c.hypotheses.result.now c.hypotheses.ensures.normal
