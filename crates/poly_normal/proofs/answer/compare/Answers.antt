use Rattle.poly_normal.specs.Form.{product}
use Rattle.poly_normal.specs.Limited.{side_of}
use Rattle.poly_normal.proofs.answer.compare.Goals as goal

pub returns : goal.returns
returns c =
    let l = rw c.in-Some.is at c.in_ok-left.ensures in
    let r = rw c.in-Some-2.is at c.in_ok-right.ensures in
    c.compare_sides.ensures (product (side_of c.args.f.now.top) (side_of c.args.g.now.bottom))
    (product (side_of c.args.g.now.top) (side_of c.args.f.now.bottom)) l.1 r.1
