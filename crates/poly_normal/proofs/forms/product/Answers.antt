use Rattle.std.proofs.Common.{subst, ℕ}
use Rattle.poly_normal.specs.Form.{product, product_form}
use Rattle.poly_normal.specs.Limited.{side_of, IsLimited}
use Rattle.poly_normal.specs.Quotients.{quotient_of}
use Rattle.poly_normal.proofs.forms.product.Goals as goal

pub returns : goal.returns
returns c = c.both.ensures c.args.f.now.top.terms.width
    (product_form (quotient_of c.args.f.now) (quotient_of c.args.g.now)) c.in_ok-top.ensures
    (subst (λ (w : ℕ). IsLimited w (product (side_of c.args.f.now.bottom)
    (side_of c.args.g.now.bottom)) c.in_ok-bottom.bottom) c.requires.left.1 c.in_ok-bottom.ensures)
