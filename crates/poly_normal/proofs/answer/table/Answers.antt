use Rattle.std.proofs.Common.{arith, ◌≡◌, ◌≤◌, false, true, slice_index_or, rules}
use Rattle.std.proofs.lemmas.Bool.{not-true, not-false}
use Rattle.fx_model.specs.declared.Node.TheVariants.{Var}
use Rattle.poly_normal.specs.Parts.{is_atom_node}
use Rattle.poly_normal.specs.Places.{places}
use Rattle.poly_normal.proofs.Trues.{width_small, count_small}
use Rattle.poly_normal.proofs.Tables.{table_unmarked, table_before, table_rows, table_place}
use Rattle.poly_normal.proofs.Tables.{table_marked}
use Rattle.poly_normal.proofs.answer.table.Goals as goal

pub loop-i-preserved-then-not-marks-i : goal.loop-i-preserved-then-not-marks-i
loop-i-preserved-then-not-marks-i c =
    let m : slice_index_or c.args.marks.now c.loop-i.i false ≡ false =
    search (rules, not-true, c.if-not-marks-i.true) in
    table_unmarked c.args.nodes.now c.args.marks.now c.loop-i.i c.loop-i.place
    c.loop-i.forms.items _ (omega (arith, c.loop-i-test.true)) c.requires.each c.loop-i.invariant m
    c.in_ok-push.ensures.items

pub next_form-requires-clause-before : goal.next_form-requires-clause-before
next_form-requires-clause-before c =
    let m : slice_index_or c.args.marks.now c.loop-i.i false ≡ true =
    search (rules, not-false, c.if-not-marks-i.false) in
    table_before c.args.nodes.now c.args.marks.now c.requires.ordered c.requires.closed
    c.requires.each c.loop-i.i c.loop-i.place c.width_of-width.result c.loop-i.forms.items
    c.deref.result.now (omega (arith, c.loop-i-test.true)) c.loop-i.invariant m
    c.width_of-width.ensures c.deref.ensures.value

pub next_form-requires-clause-rows : goal.next_form-requires-clause-rows
next_form-requires-clause-rows c =
    let m : slice_index_or c.args.marks.now c.loop-i.i false ≡ true =
    search (rules, not-false, c.if-not-marks-i.false) in
    table_rows c.args.nodes.now c.args.marks.now c.requires.ordered
    c.requires.closed c.requires.each c.loop-i.i c.loop-i.place c.width_of-width.result
    c.loop-i.forms.items c.deref.result.now (omega (arith, c.loop-i-test.true)) c.loop-i.invariant m
    c.width_of-width.ensures c.deref.ensures.value

pub next_form-requires-clause-place : goal.next_form-requires-clause-place
next_form-requires-clause-place c =
    let m : slice_index_or c.args.marks.now c.loop-i.i false ≡ true =
    search (rules, not-false, c.if-not-marks-i.false) in
    table_place c.args.nodes.now c.args.marks.now c.requires.ordered
    c.requires.closed c.requires.each c.loop-i.i c.loop-i.place c.width_of-width.result
    c.loop-i.forms.items c.deref.result.now (omega (arith, c.loop-i-test.true)) c.loop-i.invariant m
    c.width_of-width.ensures c.deref.ensures.value

pub overflow_add-place : goal.overflow_add-place
overflow_add-place c =
    let before : c.loop-i.place ≤ c.loop-i.i = width_small c.loop-i.place
    (places c.args.nodes.now c.args.marks.now) c.loop-i.i c.loop-i.invariant.here in
    let one = count_small c.counted-place.result
    (is_atom_node (slice_index_or c.args.nodes.now c.loop-i.i (Var 0))) c.counted-place.ensures in
    omega (arith, c.loop-i-test.true)

pub loop-i-preserved : goal.loop-i-preserved
loop-i-preserved c =
    let m : slice_index_or c.args.marks.now c.loop-i.i false ≡ true =
    search (rules, not-false, c.if-not-marks-i.false) in
    table_marked c.args.nodes.now c.args.marks.now c.requires.ordered c.requires.closed
    c.requires.each c.loop-i.i c.loop-i.place c.width_of-width.result c.loop-i.forms.items
    c.deref.result.now (omega (arith, c.loop-i-test.true)) c.loop-i.invariant m
    c.width_of-width.ensures c.deref.ensures.value
    c.in_ok-form.form c.counted-place.result _ c.in_ok-form.ensures
    c.counted-place.ensures c.in_ok-push-2.ensures.items
