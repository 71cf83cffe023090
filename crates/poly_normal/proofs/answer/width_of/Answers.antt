use Rattle.std.proofs.Common.{arith, sym, ap, ◌∙◌, ◌+◌, ◌≤◌, take, refl}
use Rattle.std.proofs.lemmas.List.{take_all}
use Rattle.poly_normal.specs.Places.{places, trues}
use Rattle.poly_normal.proofs.Trues.{place_more, length-places, count_small, width_small}
use Rattle.poly_normal.proofs.answer.width_of.Goals as goal

pub overflow_add-width : goal.overflow_add-width
overflow_add-width c =
    let before : c.loop-i.width ≤ c.loop-i.i = width_small c.loop-i.width
    (places c.args.nodes.now c.args.marks.now) c.loop-i.i c.loop-i.invariant in
    let one = count_small _ _ c.counted-width.ensures in omega arith

pub loop-i-preserved : goal.loop-i-preserved
loop-i-preserved c = ap (λ n. n + c.counted-width.result) c.loop-i.invariant
    ∙ ap (λ n. trues (take c.loop-i.i (places c.args.nodes.now c.args.marks.now))
    + n) c.counted-width.ensures ∙ sym (place_more c.args.nodes.now c.args.marks.now c.loop-i.i _
    (omega (arith, c.loop-i-test.true)) c.requires refl)

pub returns : goal.returns
returns c =
    c.loop-i.invariant ∙ ap trues (take_all c.loop-i.i (places c.args.nodes.now c.args.marks.now)
    (let l = length-places c.args.nodes.now c.args.marks.now c.requires in
    omega (arith, c.loop-i-test.false)))
