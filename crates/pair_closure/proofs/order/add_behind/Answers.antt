use Rattle.std.proofs.Common.{◌≤◌, arith}
use Rattle.pair_closure.proofs.Behind.{behind_start, behind_more, behind_end}
use Rattle.pair_closure.proofs.order.add_behind.Goals as goal

pub loop-i-init : goal.loop-i-init
loop-i-init c = (omega arith, behind_start c.args.all.now c.args.from c.args.pairs.now)

pub loop-i-preserved : goal.loop-i-preserved
loop-i-preserved c =
    let after : c.args.from ≤ c.loop-i.i = c.loop-i.invariant.0 in (
      omega arith,
      behind_more c.args.all.now c.args.from c.args.pairs.now c.loop-i.pairs c.add_sides.new.pairs
          c.loop-i.i c.node.result c.loop-i.invariant.0 c.node.ensures.at c.loop-i.invariant.1
          c.in_ok-add_sides.ensures,
    )

pub returns : goal.returns
returns c = behind_end c.args.all.now c.args.from c.args.pairs.now c.loop-i.pairs c.loop-i.i
    (omega (arith, c.loop-i-test.false, c.len-i-end.ensures.len)) c.loop-i.invariant.1
