use Rattle.std.proofs.Common.{Some, arith, sym, ap, ◌∙◌}
use Rattle.std.proofs.lemmas.Option.{slice_get-get_or}
use Rattle.rule_instances.specs.InOrder.{of_hint}
use Rattle.rule_instances.proofs.Each.{start, more, end}
use Rattle.rule_instances.proofs.all.add_hints.Goals as goal

pub loop-i-init : goal.loop-i-init
loop-i-init c = start of_hint c.args.rows.now

pub loop-i-preserved : goal.loop-i-preserved
loop-i-preserved c =
    more of_hint c.args.rows.now c.loop-i.rows c.add_hint.new.rows c.args.hints.now
    c.loop-i.i c.index-hints-i.result
    (slice_get-get_or c.args.hints.now c.loop-i.i c.index-hints-i.result
    (omega (arith, c.loop-i-test.true))
    ∙ ap Some (sym c.index-hints-i.is)) c.loop-i.invariant c.in_ok-add_hint.ensures

pub returns : goal.returns
returns c = end of_hint c.args.rows.now c.loop-i.rows c.args.hints.now c.loop-i.i
    (omega (arith, c.loop-i-test.false)) c.loop-i.invariant
