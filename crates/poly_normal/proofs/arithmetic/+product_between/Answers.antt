use Rattle.std.proofs.Common.{arith, sym, subst, map, ◌+◌, ◌-◌, ◌/◌, slice_range, slice_index_or}
use Rattle.std.proofs.lemmas.Result.{IfOk-weaker}
use Rattle.poly_normal.specs.Polynomial.{term_product}
use Rattle.poly_normal.specs.Rows.{no_term, IsRow, IsProductOf, size_of}
use Rattle.poly_normal.specs.TermsOf.{polynomial_of}
use Rattle.poly_normal.specs.declared.terms.Terms.{Terms}
use Rattle.poly_normal.proofs.Products.{row_is_product, sum_of_products, range-one, range-split}
use Rattle.poly_normal.proofs.Products.{range-size, half_room, row_at}
use Rattle.poly_normal.proofs.arithmetic.+product_between.Goals as goal

pub returns-then-high-low-eq1-clause-product : goal.returns-then-high-low-eq1-clause-product
returns-then-high-low-eq1-clause-product t c =
    let p = polynomial_of c.args.p.now in let q = polynomial_of c.args.q.now in
    let w = c.args.p.now.width in
    IfOk-weaker c.row_product.result _ _
    (λ (r : Terms) e. subst (IsProductOf w (slice_range p c.args.low c.args.high) q) (sym e)
    (subst (λ a. IsProductOf w a q (map (term_product (slice_index_or p c.args.low no_term)) q))
    (sym (range-one p c.args.low c.args.high c.if-high-low-eq1.true (omega (
      arith,
      c.requires.inside,
      c.if-high-low-eq1.true,
    ))))
    (row_is_product w 4096 4096 (slice_index_or p c.args.low no_term) q
    (row_at (λ u. IsRow w 4096 u.monomial) p c.args.low (omega (
      arith,
      c.requires.inside,
      c.if-high-low-eq1.true,
    )) c.requires.left) c.requires.right)))
    c.row_product.ensures.terms

pub sum-requires-clause-room : goal.sum-requires-clause-room
sum-requires-clause-room t c =
    let p = polynomial_of c.args.p.now in let q = polynomial_of c.args.q.now in
    let low = c.args.low in let high = c.args.high in
    half_room (size_of (slice_range p low (low + (high - low) / 2)))
    (size_of (slice_range p (low + (high - low) / 2) high)) (size_of p) (size_of q) _ _ _
    (range-size p low (low + (high - low) / 2) high (omega arith) (omega (arith, c.requires.order)))
    c.in_ok-first.ensures.product.size c.in_ok-second.ensures.product.size c.requires.room

pub returns-clause-product : goal.returns-clause-product
returns-clause-product t c =
    let p = polynomial_of c.args.p.now in let q = polynomial_of c.args.q.now in
    let w = c.args.p.now.width in
    let low = c.args.low in let high = c.args.high in
    IfOk-weaker c.sum.result _ _
    (λ (r : Terms) s. subst (λ a. IsProductOf w a q (polynomial_of r)) (sym (range-split p low
    (low + (high - low) / 2) high (omega arith) (omega (arith, c.requires.order))))
    (sum_of_products w (slice_range p low (low + (high - low) / 2))
    (slice_range p (low + (high - low) / 2) high) q _ _
    (polynomial_of r) c.in_ok-first.ensures.product c.in_ok-second.ensures.product s))
    c.sum.ensures.sum
