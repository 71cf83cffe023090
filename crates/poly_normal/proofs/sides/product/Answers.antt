use Rattle.std.proofs.Common.{sym, refl, ◌+◌, ◌*◌}
use Rattle.poly_normal.specs.Form.{product}
use Rattle.poly_normal.specs.Limited.{side_of}
use Rattle.poly_normal.specs.TermsOf.{polynomial_of}
use Rattle.poly_normal.proofs.Limits.{product_joined, joined_as, limited}
use Rattle.poly_normal.proofs.sides.product.Goals as goal

pub within-requires-clause-joined : goal.within-requires-clause-joined
within-requires-clause-joined c =
    let p = c.args.p.now in let q = c.args.q.now in let r = c.in_ok-terms.ensures in
    joined_as c.in_ok-terms.terms.width p.terms.width _ (p.degree + q.degree) c.in-Some.weight
    (p.weight * q.weight) (polynomial_of c.in_ok-terms.terms) r.width refl c.in-Some.ensures.0
    (product_joined p.terms.width q.terms.width p.degree q.degree p.weight q.weight
    (polynomial_of p.terms) (polynomial_of q.terms) (polynomial_of c.in_ok-terms.terms)
    (sym c.requires) p.joined q.joined r.product)

pub returns : goal.returns
returns c =
    let p = c.args.p.now in let q = c.args.q.now in let r = c.in_ok-terms.ensures in
    limited p.terms.width (p.degree + q.degree) c.in-Some.weight c.in_ok-terms.terms
    (product (side_of p) (side_of q)) c.within.result r.width (r.product.rising p.joined.rising
    q.joined.rising) r.product.coefficients c.in-Some.ensures.0 refl c.within.ensures
