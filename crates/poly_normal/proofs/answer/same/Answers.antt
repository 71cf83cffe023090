use Rattle.std.proofs.Common.{sym, subst, ◌∷◌, [], List, refl}
use Rattle.fx_model.specs.declared.ExprId.{ExprId}
use Rattle.poly_normal.specs.Parts.{AreParts}
use Rattle.poly_normal.proofs.Quotients.{same_values}
use Rattle.poly_normal.proofs.Tables.{closed_parts, side_marked, read_compares, read_answers}
use Rattle.poly_normal.proofs.Tables.{law_from}
use Rattle.poly_normal.proofs.answer.same.Goals as goal

pub table-requires-clause-closed : goal.table-requires-clause-closed
table-requires-clause-closed c =
    let sides : List ExprId = c.args.a ∷ c.args.b ∷ [] in
    closed_parts c.args.nodes.now sides c.deref.result.now (subst
    (AreParts c.args.nodes.now sides) (sym c.deref.ensures.value) c.in_ok-marks.ensures)

pub compare_at-requires-clause-rows : goal.compare_at-requires-clause-rows
compare_at-requires-clause-rows c =
    let sides : List ExprId = c.args.a ∷ c.args.b ∷ [] in
    let parts : AreParts c.args.nodes.now sides c.deref.result.now =
    subst (AreParts c.args.nodes.now sides) (sym c.deref.ensures.value) c.in_ok-marks.ensures in
    read_compares c.args.nodes.now c.args.a c.args.b c.deref.result.now c.in_ok-forms.forms.items
    c.in_ok-forms.ensures.known c.requires.left c.requires.right
    (side_marked c.args.nodes.now sides c.deref.result.now parts c.args.a (0, refl))
    (side_marked c.args.nodes.now sides c.deref.result.now parts c.args.b (1, refl))
    c.deref-2.result.now c.deref-2.ensures.value

pub returns-clause-answers : goal.returns-clause-answers
returns-clause-answers c =
    let sides : List ExprId = c.args.a ∷ c.args.b ∷ [] in
    let parts : AreParts c.args.nodes.now sides c.deref.result.now =
    subst (AreParts c.args.nodes.now sides) (sym c.deref.ensures.value) c.in_ok-marks.ensures in
    read_answers c.args.nodes.now c.args.a c.args.b c.deref.result.now c.in_ok-forms.forms.items
    c.in_ok-forms.ensures.known c.requires.left c.requires.right
    (side_marked c.args.nodes.now sides c.deref.result.now parts c.args.a (0, refl))
    (side_marked c.args.nodes.now sides c.deref.result.now parts c.args.b (1, refl))
    c.deref-2.result.now c.deref-2.ensures.value c.compare_at.result c.compare_at.ensures

pub returns-clause-law : goal.returns-clause-law
returns-clause-law c e =
    let sides : List ExprId = c.args.a ∷ c.args.b ∷ [] in
    let parts : AreParts c.args.nodes.now sides c.deref.result.now =
    subst (AreParts c.args.nodes.now sides) (sym c.deref.ensures.value) c.in_ok-marks.ensures in
    same_values c.args.nodes.now c.args.a c.args.b c.requires.ordered
    c.requires.left c.requires.right
    (law_from c.args.nodes.now c.args.a c.args.b c.compare_at.result
    (read_answers c.args.nodes.now c.args.a c.args.b c.deref.result.now c.in_ok-forms.forms.items
    c.in_ok-forms.ensures.known c.requires.left c.requires.right
    (side_marked c.args.nodes.now sides c.deref.result.now parts c.args.a (0, refl))
    (side_marked c.args.nodes.now sides c.deref.result.now parts c.args.b (1, refl))
    c.deref-2.result.now c.deref-2.ensures.value c.compare_at.result c.compare_at.ensures) e)
