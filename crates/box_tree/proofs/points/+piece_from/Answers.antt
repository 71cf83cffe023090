use Rattle.std.proofs.Common.{List, ap, sym, ◌∙◌, arith}
use Rattle.dyadic.specs.declared.number.Dyadic.{Dyadic}
use Rattle.box_tree.specs.Points.{asked_points, piece_of}
use Rattle.box_tree.proofs.Staying.{none_stay, stays, stays_not, first_piece, later_piece}
use Rattle.box_tree.proofs.points.+piece_from.Goals as goal

pub asked_point-p-requires-clause-inside : goal.asked_point-p-requires-clause-inside
asked_point-p-requires-clause-inside t c =
    let n = c.asked_count.ensures.is c.args.range in omega (arith, n)

pub returns-then-k-asked_count : goal.returns-then-k-asked_count
returns-then-k-asked_count t c =
    c.last_piece.ensures
    ∙ ap (λ (ps : List Dyadic). piece_of c.args.rest ps c.args.i)
    (none_stay c.args.rest (asked_points c.args.range c.args.cut.now)
    c.asked_count.result c.args.k (c.asked_count.ensures.is c.args.range) c.if-k-asked_count.true)

pub returns-then-not-has_inside : goal.returns-then-not-has_inside
returns-then-not-has_inside t c =
    c.piece_from.ensures
    ∙ ap (λ (ps : List Dyadic). piece_of c.args.rest ps c.args.i)
    (stays_not c.args.rest (asked_points c.args.range c.args.cut.now)
    c.asked_count.result c.args.k c.asked_point-p.result (c.asked_count.ensures.is c.args.range)
    c.if-k-asked_count.false c.asked_point-p.ensures
    (sym c.has_inside.ensures ∙ c.if-not-has_inside.true))

pub returns-then-i-eq0 : goal.returns-then-i-eq0
returns-then-i-eq0 t c =
    first_piece c.args.rest _ _ c.asked_point-p.result c.args.i c.if-i-eq0.true
    (stays c.args.rest (asked_points c.args.range c.args.cut.now)
    c.asked_count.result c.args.k c.asked_point-p.result (c.asked_count.ensures.is c.args.range)
    c.if-k-asked_count.false c.asked_point-p.ensures
    (sym c.has_inside.ensures ∙ c.if-not-has_inside.false))

pub returns : goal.returns
returns t c =
    c.piece_from-2.ensures
    ∙ later_piece c.args.rest _ _ c.asked_point-p.result c.args.i (omega arith)
    (stays c.args.rest (asked_points c.args.range c.args.cut.now)
    c.asked_count.result c.args.k c.asked_point-p.result (c.asked_count.ensures.is c.args.range)
    c.if-k-asked_count.false c.asked_point-p.ensures
    (sym c.has_inside.ensures ∙ c.if-not-has_inside.false))
