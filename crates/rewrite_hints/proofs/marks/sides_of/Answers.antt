use Rattle.std.proofs.Common.{Some, arith, sym, ap, ◌∙◌}
use Rattle.std.proofs.lemmas.Option.{slice_get-get_or}
use Rattle.rewrite_hints.proofs.Sides.{sides_start, sides_more, sides_end}
use Rattle.rewrite_hints.proofs.marks.sides_of.Goals as goal

pub loop-hint-init : goal.loop-hint-init
loop-hint-init c = sides_start c.args.hints.now c.new-sides.result.items c.new-sides.ensures.items

pub loop-hint-preserved : goal.loop-hint-preserved
loop-hint-preserved c =
    sides_more c.args.hints.now c.loop-hint.hint-index c.hint-item.result c.loop-hint.sides.items
    _ _
    (slice_get-get_or c.args.hints.now c.loop-hint.hint-index c.hint-item.result
    (omega (arith, c.loop-hint-test.true)) ∙ ap Some (sym c.hint-item.is))
    c.loop-hint.invariant c.in_ok-push.ensures.items c.in_ok-push-2.ensures.items

pub returns : goal.returns
returns c = sides_end c.args.hints.now c.loop-hint.hint-index c.loop-hint.sides.items
    (omega (arith, c.loop-hint-test.false)) c.loop-hint.invariant
