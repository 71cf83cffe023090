use Rattle.std.proofs.lemmas.Result.{on_ok_weaker}
use Rattle.rule_instances.proofs.Behind.{sides_behind}
use Rattle.rule_instances.proofs.all.add_difference.Goals as goal

pub returns : goal.returns
returns c =
    on_ok_weaker c.add_all_right.result
    (sides_behind c.args.nodes.now c.args.pairs.now c.args.x c.args.a c.args.c c.node-m.result
    c.node-n.result (c.node-m.ensures.read _) (c.node-n.ensures.read _) c.beside-left.result.now
    c.beside-right.result.now c.beside-left.ensures.list c.beside-right.ensures.list
    c.args.rows.now c.add_at_error.new.rows c.add_at_terms.new.rows c.add_all_left.new.rows
    c.add_all_right.new.rows
    c.in_ok-add_at_error.ensures c.in_ok-add_at_terms.ensures c.in_ok-add_all_left.ensures)
    c.add_all_right.ensures
