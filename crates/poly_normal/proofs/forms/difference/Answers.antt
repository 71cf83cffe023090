use Rattle.std.proofs.Common.{subst, ℕ}
use Rattle.poly_normal.specs.Form.{sum, difference, product, difference_form}
use Rattle.poly_normal.specs.Limited.{side_of, IsLimited}
use Rattle.poly_normal.specs.Quotients.{quotient_of}
use Rattle.poly_normal.proofs.Placed.{limited-like, like-cross}
use Rattle.poly_normal.proofs.forms.difference.Goals as goal

pub returns : goal.returns
returns c =
    let f = c.args.f.now in let g = c.args.g.now in
    let crossed = product (side_of f.top) (side_of g.bottom) in
    c.both.ensures f.top.terms.width (difference_form (quotient_of f) (quotient_of g))
    (limited-like f.top.terms.width
    (sum crossed (product (side_of c.in_ok-minus.minus) (side_of f.bottom)))
    (difference crossed (product (side_of g.top) (side_of f.bottom))) c.in_ok-top.top
    (like-cross crossed (side_of c.in_ok-minus.minus) (side_of g.top)
    (side_of f.bottom) c.in_ok-minus.ensures.negation) c.in_ok-top.ensures)
    (subst (λ (w : ℕ). IsLimited w (product (side_of f.bottom)
    (side_of g.bottom)) c.in_ok-bottom.bottom) c.requires.left.1 c.in_ok-bottom.ensures)
