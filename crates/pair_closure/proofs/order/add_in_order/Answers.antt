use Rattle.std.proofs.Common.{◌<◌, ◌++◌, length, map, take, arith, sym, ap, ◌∙◌, subst}
use Rattle.std.proofs.lemmas.List.{append-nil}
use Rattle.expr_dag.specs.Nodes.{IsAbsent}
use Rattle.pair_closure.specs.Closure.{difference_of}
use Rattle.pair_closure.proofs.Behind.{absent_more, put_more, front_within}
use Rattle.pair_closure.proofs.PairSets.{copied_more, taken_all}
use Rattle.pair_closure.proofs.order.add_in_order.Goals as goal

pub loop-i-init : goal.loop-i-init
loop-i-init c = sym (append-nil c.args.all.now)

pub add_last-requires-clause-left : goal.add_last-requires-clause-left
add_last-requires-clause-left c =
    let l = front_within c.args.all.now c.loop-i.all
    (map difference_of (take c.loop-i.i c.args.pairs.now)) c.loop-i.invariant in
    let k : (c.pair.result.0).0 < length c.args.all.now =
    (c.requires.known c.pair.result (c.loop-i.i, c.pair.ensures)).0 in
    omega arith

pub add_last-requires-clause-right : goal.add_last-requires-clause-right
add_last-requires-clause-right c =
    let l = front_within c.args.all.now c.loop-i.all
    (map difference_of (take c.loop-i.i c.args.pairs.now)) c.loop-i.invariant in
    let k : (c.pair.result.1).0 < length c.args.all.now =
    (c.requires.known c.pair.result (c.loop-i.i, c.pair.ensures)).1 in
    omega arith

pub add_last-requires-clause-absent : goal.add_last-requires-clause-absent
add_last-requires-clause-absent c =
    subst (λ l. IsAbsent l (difference_of c.pair.result)) (sym c.loop-i.invariant)
    (absent_more c.args.all.now c.args.pairs.now c.loop-i.i c.pair.result c.laws.ensures
    c.pair.ensures (c.requires.absent c.pair.result (c.loop-i.i, c.pair.ensures)))

pub loop-i-preserved : goal.loop-i-preserved
loop-i-preserved c =
    put_more c.args.all.now c.loop-i.all c.add_last.new.all c.args.pairs.now
    c.loop-i.i c.pair.result (copied_more c.args.pairs.now c.loop-i.i c.pair.result c.pair.ensures)
    c.loop-i.invariant c.in_ok-add_last.ensures

pub returns : goal.returns
returns c = c.loop-i.invariant ∙ ap (λ ps. c.args.all.now ++ map difference_of ps)
    (taken_all c.args.pairs.now c.loop-i.i (omega (
      arith,
      c.loop-i-test.false,
      c.len-i-end.ensures,
    )))
