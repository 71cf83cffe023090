use Rattle.std.proofs.Common.{arith}
use Rattle.box_tree.proofs.Staying.{part_asked, part_before, few_parts}
use Rattle.box_tree.proofs.points.asked_point.Goals as goal

pub overflow_add-k : goal.overflow_add-k
overflow_add-k c =
    let n = c.in-Pieces.count in
    let b = part_before c.args.range c.args.cut.now n c.args.k c.in-Pieces.is c.requires.inside in
    let f = few_parts c.args.cut.now n c.in-Pieces.is c.requires.few in
    omega (arith, b, f)

pub part_at-requires-clause-before : goal.part_at-requires-clause-before
part_at-requires-clause-before c =
    part_before c.args.range c.args.cut.now c.in-Pieces.count c.args.k c.in-Pieces.is
    c.requires.inside

pub returns-in-Pieces : goal.returns-in-Pieces
returns-in-Pieces c =
    part_asked c.args.range c.args.cut.now c.in-Pieces.count c.args.k c.part_at.result
    c.in-Pieces.is c.requires.inside c.part_at.ensures
