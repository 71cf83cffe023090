use Rattle.std.proofs.lemmas.Result.{on_ok_weaker}
use Rattle.rule_instances.proofs.Behind.{pair_behind}
use Rattle.rule_instances.proofs.all.add_pair.Goals as goal

pub returns : goal.returns
returns c =
    on_ok_weaker c.add_all_past.result
    (pair_behind c.args.nodes.now c.args.pairs.now
    c.args.x c.args.y c.node.result c.node-2.result (c.node.ensures.read _)
    (c.node-2.ensures.read _) c.beside-row.result.now c.beside-row.ensures.list
    c.args.rows.now c.add_at_pair.new.rows c.add_all_past.new.rows c.in_ok-add_at_pair.ensures)
    c.add_all_past.ensures
