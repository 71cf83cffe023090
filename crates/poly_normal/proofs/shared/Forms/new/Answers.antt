use Rattle.std.proofs.Common.{sym, subst, ◌<◌, ◌∙◌, List, length}
use Rattle.fx_model.specs.declared.Node.{Node}
use Rattle.poly_normal.specs.Parts.{AreParts}
use Rattle.poly_normal.proofs.Tables.{closed_parts, side_marked}
use Rattle.poly_normal.proofs.shared.Forms.new.Goals as goal

pub parts-requires-clause-inside : goal.parts-requires-clause-inside
parts-requires-clause-inside c x h = subst (λ (l : List Node). x.0 < length l)
    (sym (c.as_slice.ensures.value ∙ c.in_ok-nodes.ensures)) (c.requires x h)

pub table-requires-clause-closed : goal.table-requires-clause-closed
table-requires-clause-closed c =
    closed_parts c.as_slice-2.result.now c.args.sides.now c.deref.result.now
    (subst (λ (l : List Node). AreParts l c.args.sides.now c.deref.result.now)
    (c.as_slice.ensures.value ∙ sym c.as_slice-2.ensures.value)
    (subst (AreParts c.as_slice.result.now c.args.sides.now) (sym c.deref.ensures.value)
    c.in_ok-marks.ensures))

pub returns-clause-sides : goal.returns-clause-sides
returns-clause-sides c x h = side_marked c.as_slice.result.now c.args.sides.now
    c.in_ok-marks.marks.items c.in_ok-marks.ensures x h
