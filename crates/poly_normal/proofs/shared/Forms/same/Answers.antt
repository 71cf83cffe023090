use Rattle.std.proofs.Common.{length}
use Rattle.poly_normal.proofs.Quotients.{same_values}
use Rattle.poly_normal.proofs.Tables.{marked_below, read_compares, read_answers, law_from}
use Rattle.poly_normal.proofs.shared.Forms.same.Goals as goal

pub compare_at-requires-clause-rows : goal.compare_at-requires-clause-rows
compare_at-requires-clause-rows c =
    read_compares c.args.dag.now c.args.a c.args.b c.args.self.now.marks.items
    c.args.self.now.forms.items c.requires.forms.known
    (marked_below c.args.self.now.marks.items (length c.args.dag.now) c.requires.forms.each
    c.args.a c.requires.left)
    (marked_below c.args.self.now.marks.items (length c.args.dag.now) c.requires.forms.each
    c.args.b c.requires.right)
    c.requires.left c.requires.right c.deref.result.now c.deref.ensures.value

pub returns-clause-answers : goal.returns-clause-answers
returns-clause-answers c =
    read_answers c.args.dag.now c.args.a c.args.b c.args.self.now.marks.items
    c.args.self.now.forms.items c.requires.forms.known
    (marked_below c.args.self.now.marks.items (length c.args.dag.now) c.requires.forms.each
    c.args.a c.requires.left)
    (marked_below c.args.self.now.marks.items (length c.args.dag.now) c.requires.forms.each
    c.args.b c.requires.right)
    c.requires.left c.requires.right c.deref.result.now c.deref.ensures.value
    c.compare_at.result c.compare_at.ensures

pub returns-clause-law : goal.returns-clause-law
returns-clause-law c e =
    let left = marked_below c.args.self.now.marks.items (length c.args.dag.now)
    c.requires.forms.each c.args.a c.requires.left in
    let right = marked_below c.args.self.now.marks.items (length c.args.dag.now)
    c.requires.forms.each c.args.b c.requires.right in
    same_values c.args.dag.now c.args.a c.args.b c.plain.ensures.ordered left right
    (law_from c.args.dag.now c.args.a c.args.b c.compare_at.result
    (read_answers c.args.dag.now c.args.a c.args.b c.args.self.now.marks.items
    c.args.self.now.forms.items c.requires.forms.known left right
    c.requires.left c.requires.right c.deref.result.now c.deref.ensures.value
    c.compare_at.result c.compare_at.ensures) e)
