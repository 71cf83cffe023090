use Rattle.std.proofs.Common.{slice_index_or, arith}
use Rattle.std.proofs.lemmas.Option.{slice_get-get_or}
use Rattle.rule_instances.specs.InOrder.{one_right, id_at}
use Rattle.rule_instances.proofs.Each.{start, more, end}
use Rattle.rule_instances.proofs.all.add_all_right.Goals as goal

pub loop-b-init : goal.loop-b-init
loop-b-init c = start (one_right c.args.nodes.now c.args.x c.args.a c.args.c) c.args.rows.now

pub loop-b-preserved : goal.loop-b-preserved
loop-b-preserved c =
    more (one_right c.args.nodes.now c.args.x c.args.a c.args.c)
    c.args.rows.now c.loop-b.rows c.add_one_right.new.rows c.args.row.now c.loop-b.b-index
    (slice_index_or c.args.row.now c.loop-b.b-index (id_at 0))
    (slice_get-get_or c.args.row.now c.loop-b.b-index (id_at 0)
    (omega (arith, c.loop-b-test.true))) c.loop-b.invariant c.in_ok-add_one_right.ensures

pub returns : goal.returns
returns c =
    end (one_right c.args.nodes.now c.args.x c.args.a c.args.c) c.args.rows.now c.loop-b.rows
    c.args.row.now c.loop-b.b-index (omega (arith, c.loop-b-test.false)) c.loop-b.invariant
