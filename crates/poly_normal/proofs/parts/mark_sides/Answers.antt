use Rattle.std.proofs.Common.{◌≡◌, ◌<◌, arith, slice_index_or, vec_len, length}
use Rattle.std.proofs.lemmas.Option.{slice_get-get_or}
use Rattle.fx_model.specs.declared.ExprId.{ExprId}
use Rattle.poly_normal.proofs.Marks.{sides_none, sides_more, sides_all}
use Rattle.poly_normal.proofs.parts.mark_sides.Goals as goal

pub loop-k-init : goal.loop-k-init
loop-k-init c = sides_none c.args.sides.now _

pub mark-requires : goal.mark-requires
mark-requires c =
    let x : ExprId = slice_index_or c.args.sides.now c.loop-k.k (record { 0 = 0 }) in
    let below : x.0 < vec_len c.args.marks.now = c.requires x (
      c.loop-k.k,
      slice_get-get_or c.args.sides.now c.loop-k.k (record { 0 = 0 })
          (omega (arith, c.loop-k-test.true)),
    ) in
    let lengths : length c.loop-k.marks.items ≡ length c.args.marks.now.items =
    c.loop-k.invariant.lengths in
    omega (arith, c.loop-k.marks.ok.0, c.args.marks.now.ok.0)

pub loop-k-preserved : goal.loop-k-preserved
loop-k-preserved c = sides_more c.args.sides.now c.loop-k.k _ _ _ _
    (slice_get-get_or c.args.sides.now c.loop-k.k _ (omega (arith, c.loop-k-test.true)))
    c.loop-k.invariant c.mark.ensures

pub returns : goal.returns
returns c = sides_all c.args.sides.now c.loop-k.k _ _
    (omega (arith, c.loop-k-test.false)) c.loop-k.invariant
