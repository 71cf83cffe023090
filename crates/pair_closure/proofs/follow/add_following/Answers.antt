use Rattle.std.proofs.Common.{◌≡◌, sym}
use Rattle.std.proofs.lemmas.Result.{on_ok_weaker}
use Rattle.pair_closure.proofs.Following.{follow_same, follow_apart}
use Rattle.pair_closure.proofs.Ids.{same_ids, apart_ids, same_at}
use Rattle.pair_closure.proofs.follow.add_following.Goals as goal

pub returns-then-eq : goal.returns-then-eq
returns-then-eq c =
    let same : c.args.first ≡ c.args.second =
    same_ids c.args.first c.args.second (sym c.if-eq.ensures) in
    follow_same c.args.dag.now c.args.first c.args.second c.node-node.result
    c.node-node.result c.node-node.ensures.at
    (same_at c.args.dag.now c.args.first c.args.second c.node-node.result
    same c.node-node.ensures.at)
    c.args.pairs.now c.add_rounded.new.pairs same c.in_ok-add_rounded.ensures

pub returns : goal.returns
returns c = on_ok_weaker c.add_operands.result
    (follow_apart c.args.dag.now c.args.first c.args.second c.node-node.result c.node.result
    c.node-node.ensures.at c.node.ensures.at
    c.args.pairs.now c.add_rounded.new.pairs c.add_operands.new.pairs
    (apart_ids c.args.first c.args.second (sym c.if-eq.ensures)) c.in_ok-add_rounded.ensures)
    c.add_operands.ensures
