use Rattle.std.proofs.Common.{◌≡◌, ◌++◌, Some, slice_get, subst, arith}
use Rattle.rule_instances.specs.InOrder.{each_at, of_pair}
use Rattle.rule_instances.proofs.Each.{start, more, end}
use Rattle.rule_instances.proofs.all.add_pairs.Goals as goal

pub loop-i-init : goal.loop-i-init
loop-i-init c = start (of_pair c.args.nodes.now c.args.pairs.now) c.args.rows.now

pub add_pair-requires-clause-first : goal.add_pair-requires-clause-first
add_pair-requires-clause-first c = (c.requires c.pair.result (
  c.loop-i.i,
  subst (λ ps. slice_get ps c.loop-i.i ≡ Some c.pair.result) c.pairs-list.ensures c.pair.ensures,
)).0

pub add_pair-requires-clause-second : goal.add_pair-requires-clause-second
add_pair-requires-clause-second c = (c.requires c.pair.result (
  c.loop-i.i,
  subst (λ ps. slice_get ps c.loop-i.i ≡ Some c.pair.result) c.pairs-list.ensures c.pair.ensures,
)).1

pub loop-i-preserved : goal.loop-i-preserved
loop-i-preserved c =
    more (of_pair c.args.nodes.now c.args.pairs.now) c.args.rows.now c.loop-i.rows
    c.add_pair.new.rows c.pairs-list.result.now c.loop-i.i c.pair.result c.pair.ensures
    c.loop-i.invariant c.in_ok-add_pair.ensures

pub returns : goal.returns
returns c =
    subst (λ ps. c.loop-i.rows ≡ c.args.rows.now
    ++ each_at (of_pair c.args.nodes.now c.args.pairs.now) 0 ps) c.pairs-list.ensures
    (end (of_pair c.args.nodes.now c.args.pairs.now)
    c.args.rows.now c.loop-i.rows c.pairs-list.result.now c.loop-i.i
    (omega (arith, c.loop-i-test.false, c.len-i-end.ensures)) c.loop-i.invariant)
