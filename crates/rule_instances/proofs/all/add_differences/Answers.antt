use Rattle.std.proofs.Common.{arith}
use Rattle.rule_instances.specs.InOrder.{of_difference}
use Rattle.rule_instances.proofs.Each.{start, more, end}
use Rattle.rule_instances.proofs.all.add_differences.Goals as goal

pub loop-i-init : goal.loop-i-init
loop-i-init c = start (of_difference c.args.nodes.now c.args.pairs.now) c.args.rows.now

pub loop-i-preserved : goal.loop-i-preserved
loop-i-preserved c = more (of_difference c.args.nodes.now c.args.pairs.now) c.args.rows.now
    c.loop-i.rows c.add_if_difference.new.rows c.args.nodes.now c.loop-i.i c.node.result
    c.node.ensures.at c.loop-i.invariant c.in_ok-add_if_difference.ensures

pub returns : goal.returns
returns c = end (of_difference c.args.nodes.now c.args.pairs.now)
    c.args.rows.now c.loop-i.rows c.args.nodes.now c.loop-i.i
    (omega (arith, c.loop-i-test.false, c.len-i-end.ensures.len)) c.loop-i.invariant
