use Rattle.std.proofs.Common.{slice_index_or, arith}
use Rattle.std.proofs.lemmas.Option.{slice_get-get_or}
use Rattle.rule_instances.specs.InOrder.{past_of, id_at}
use Rattle.rule_instances.proofs.Each.{start, more, end}
use Rattle.rule_instances.proofs.all.add_all_past.Goals as goal

pub loop-c-init : goal.loop-c-init
loop-c-init c = start (past_of c.args.pairs.now c.args.x c.args.y) c.args.rows.now

pub loop-c-preserved : goal.loop-c-preserved
loop-c-preserved c =
    more (past_of c.args.pairs.now c.args.x c.args.y)
    c.args.rows.now c.loop-c.rows c.add_past_pair.new.rows c.args.row.now c.loop-c.c-index
    (slice_index_or c.args.row.now c.loop-c.c-index (id_at 0))
    (slice_get-get_or c.args.row.now c.loop-c.c-index (id_at 0)
    (omega (arith, c.loop-c-test.true))) c.loop-c.invariant c.in_ok-add_past_pair.ensures

pub returns : goal.returns
returns c = end (past_of c.args.pairs.now c.args.x c.args.y) c.args.rows.now c.loop-c.rows
    c.args.row.now c.loop-c.c-index (omega (arith, c.loop-c-test.false)) c.loop-c.invariant
