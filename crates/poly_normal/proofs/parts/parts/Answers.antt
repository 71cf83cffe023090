use Rattle.std.proofs.Common.{arith, sym, ap, ◌∙◌, subst, length, false, refl, ◌≡◌, ◌-◌, replicate}
use Rattle.std.proofs.Common.{slice_index_or}
use Rattle.std.proofs.lemmas.List.{get_or_read}
use Rattle.fx_model.specs.declared.ExprId.{ExprId}
use Rattle.poly_normal.specs.Parts.{marked}
use Rattle.poly_normal.proofs.PartsLaws.{unmarked}
use Rattle.poly_normal.proofs.Marks.{IsMarkedFrom, start, step_marked, marked_parts}
use Rattle.poly_normal.proofs.parts.parts.Goals as goal

pub loop-i-init : goal.loop-i-init
loop-i-init c =
    let blank : c.in_ok-marks.marks.items ≡ replicate (length c.args.nodes.now) false =
    c.in_ok-marks.ensures.items_if_clones_equal (λ y e. e) in
    start c.args.nodes.now c.args.sides.now c.in_ok-marks.marks.items _
    (omega (arith, c.in_ok-marks.ensures.len, c.in_ok-marks.marks.ok.0))
    (λ (x : ExprId). ap (λ m. marked m x) blank
    ∙ unmarked (length c.args.nodes.now) x.0) c.mark_sides.ensures

pub loop-i-preserved-then-index : goal.loop-i-preserved-then-index
loop-i-preserved-then-index c =
    let m = c.loop-i.invariant in let each = m.each in let inside = m.inside in
    let read : c.index.result.now ≡ slice_index_or c.loop-i.marks.items (c.loop-i.i - 1) false =
    get_or_read c.loop-i.marks.items _ _
    (omega (arith, c.loop-i-test.true)) c.index.ensures false in
    step_marked c.args.nodes.now c.args.sides.now c.loop-i.i
    (c.loop-i.i - 1) _ c.loop-i.marks.items _ c.requires.ordered
    (omega (arith, c.loop-i-test.true)) m (sym read ∙ c.if-index.true) refl c.mark_operands.ensures

pub returns : goal.returns
returns c = marked_parts c.args.nodes.now c.args.sides.now c.loop-i.marks.items
    (subst (λ k. IsMarkedFrom c.args.nodes.now c.args.sides.now k c.loop-i.marks.items)
    (omega (arith, c.loop-i-test.false)) c.loop-i.invariant) c.requires.ordered
    c.requires.inside
