use Rattle.std.proofs.Common.{arith, sym, ◌∙◌, ◌+◌, ◌*◌, ◌<◌, ◌^◌}
use Rattle.std.specs.Prelude.{max}
use Rattle.poly_normal.specs.Form.{sum, product}
use Rattle.poly_normal.specs.Limited.{side_of}
use Rattle.poly_normal.specs.TermsOf.{polynomial_of}
use Rattle.poly_normal.proofs.Limits.{product_joined, sum_joined, joined_as, limited, products_room}
use Rattle.poly_normal.proofs.Limits.{sum_of_products}
use Rattle.poly_normal.proofs.sides.cross_sum.Goals as goal

pub sum-requires-clause-room : goal.sum-requires-clause-room
sum-requires-clause-room c =
    let p = c.args.p.now in let e = c.args.e.now in let q = c.args.q.now in let d = c.args.d.now in
    let below : p.weight * e.weight + q.weight * d.weight < 2 ^ 127 = omega (
      arith,
      c.if-weight-ge-WEIGHT_LIMIT.false,
      c.in-Some.ensures.0,
      c.in-Some-weight_product.ensures.0,
    ) in
    products_room p.weight e.weight _ _ _ _ _ _ _ q.weight d.weight
    c.in_ok-left.ensures.product.size p.joined.size e.joined.size c.in_ok-right.ensures.product.size
    q.joined.size d.joined.size below

pub within-requires-clause-joined : goal.within-requires-clause-joined
within-requires-clause-joined c =
    let p = c.args.p.now in let e = c.args.e.now in let q = c.args.q.now in let d = c.args.d.now in
    let left = c.in_ok-left.ensures in let right = c.in_ok-right.ensures in
    joined_as c.in_ok-terms.terms.width p.terms.width c.max-degree.result (max (p.degree + e.degree)
    (q.degree + d.degree)) (c.in-Some.left_weight + c.in-Some-weight_product.right_weight)
    (p.weight * e.weight + q.weight * d.weight) (polynomial_of c.in_ok-terms.terms)
    (c.in_ok-terms.ensures.width ∙ left.width) (omega (arith, c.max-degree.ensures))
    (omega (arith, c.in-Some.ensures.0, c.in-Some-weight_product.ensures.0))
    (sum_joined p.terms.width q.terms.width (p.degree + e.degree) (q.degree + d.degree)
    (p.weight * e.weight) (q.weight * d.weight) (polynomial_of c.in_ok-left.left)
    (polynomial_of c.in_ok-right.right) (polynomial_of c.in_ok-terms.terms) (sym c.requires.both)
    (product_joined p.terms.width e.terms.width p.degree e.degree p.weight e.weight
    (polynomial_of p.terms) (polynomial_of e.terms) (polynomial_of c.in_ok-left.left)
    (sym c.requires.left) p.joined e.joined left.product)
    (product_joined q.terms.width d.terms.width q.degree d.degree q.weight d.weight
    (polynomial_of q.terms) (polynomial_of d.terms) (polynomial_of c.in_ok-right.right)
    (sym c.requires.right) q.joined d.joined right.product) c.in_ok-terms.ensures.sum)

pub returns : goal.returns
returns c =
    let p = c.args.p.now in let e = c.args.e.now in let q = c.args.q.now in let d = c.args.d.now in
    let left = c.in_ok-left.ensures in let right = c.in_ok-right.ensures in
    let whole = c.in_ok-terms.ensures in
    limited p.terms.width c.max-degree.result
    (c.in-Some.left_weight + c.in-Some-weight_product.right_weight) c.in_ok-terms.terms
    (sum (product (side_of p) (side_of e)) (product (side_of q) (side_of d))) c.within.result
    (whole.width ∙ left.width)
    (whole.sum.rising (left.product.rising p.joined.rising e.joined.rising)
    (right.product.rising q.joined.rising d.joined.rising))
    (sum_of_products (polynomial_of p.terms) (polynomial_of e.terms) (polynomial_of q.terms)
    (polynomial_of d.terms) (polynomial_of c.in_ok-left.left) (polynomial_of c.in_ok-right.right)
    (polynomial_of c.in_ok-terms.terms) left.product.coefficients
    right.product.coefficients whole.sum.coefficients)
    (omega (arith, c.in-Some.ensures.0, c.in-Some-weight_product.ensures.0))
    (omega (arith, c.max-degree.ensures)) c.within.ensures
