use Rattle.std.proofs.Common.{ap, sym, ◌∙◌, arith}
use Rattle.box_tree.specs.Points.{are_any, asked_points}
use Rattle.box_tree.proofs.Staying.{none_stay, stays, stays_not}
use Rattle.box_tree.proofs.points.+has_from.Goals as goal

pub asked_point-requires-clause-inside : goal.asked_point-requires-clause-inside
asked_point-requires-clause-inside t c =
    let n = c.asked_count.ensures.is c.args.range in omega (arith, n)

pub returns-then-k-asked_count : goal.returns-then-k-asked_count
returns-then-k-asked_count t c =
    ap are_any (none_stay c.args.range (asked_points c.args.range c.args.cut.now)
    c.asked_count.result c.args.k (c.asked_count.ensures.is c.args.range) c.if-k-asked_count.true)

pub returns-then-has_inside : goal.returns-then-has_inside
returns-then-has_inside t c =
    ap are_any (stays c.args.range (asked_points c.args.range c.args.cut.now)
    c.asked_count.result c.args.k c.asked_point.result (c.asked_count.ensures.is c.args.range)
    c.if-k-asked_count.false c.asked_point.ensures
    (sym c.has_inside.ensures ∙ c.if-has_inside.true))

pub returns : goal.returns
returns t c =
    c.has_from.ensures
    ∙ ap are_any (stays_not c.args.range (asked_points c.args.range c.args.cut.now)
    c.asked_count.result c.args.k c.asked_point.result (c.asked_count.ensures.is c.args.range)
    c.if-k-asked_count.false c.asked_point.ensures
    (sym c.has_inside.ensures ∙ c.if-has_inside.false))
