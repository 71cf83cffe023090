use Rattle.std.proofs.Common.{arith, ◌+◌}
use Rattle.exact_fractions.proofs.Powers.{halved_again}
use Rattle.exact_fractions.proofs.scaling.without_twos.Goals as goal

pub loop-left-preserved : goal.loop-left-preserved
loop-left-preserved c = let i = c.loop-left.invariant in (
  i.0 + 1,
  (
    halved_again c.args.number c.loop-left.rest i.0 i.1.0 c.if-rest-eq0.true,
    (let p = i.1.1 in let q = c.loop-left-test.true in omega arith),
  ),
)
