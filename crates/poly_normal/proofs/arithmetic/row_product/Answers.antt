use mir.Syntax.{w128}
use Rattle.std.proofs.Common.{arith, sym, ◌∙◌, ap, ◌≡◌, length, slice_index_or, FitsSigned, to_z}
use Rattle.std.proofs.Common.{of_z, ◌*ℤ◌}
use Rattle.std.proofs.lemmas.Int.{ints, to_z-of_z}
use Rattle.poly_normal.specs.Polynomial.{term_product, monomial_product}
use Rattle.poly_normal.specs.Rows.{no_term}
use Rattle.poly_normal.specs.TermsOf.{polynomial_of}
use Rattle.poly_normal.proofs.Products.{step_map, product_fits, length-product, term_is}
use Rattle.poly_normal.proofs.arithmetic.row_product.Goals as goal

pub overflow_mul-coefficient : goal.overflow_mul-coefficient
overflow_mul-coefficient c = product_fits (polynomial_of c.args.p.now) (polynomial_of c.args.q.now)
    c.args.i c.loop-j.j (to_z w128 (of_z w128 c.coefficient-coefficient.result))
    (to_z w128 (of_z w128 c.coefficient.result)) c.requires.room
    (omega (arith, ints, c.coefficient-coefficient.ensures))
    (omega (arith, ints, c.coefficient.ensures))

pub push-requires : goal.push-requires
push-requires c = ap length (c.deref.ensures.value ∙ c.in_ok-multiply_monomials.ensures)
    ∙ length-product _ _ (c.monomial-monomial.ensures.width ∙ c.requires.widths
    ∙ sym c.monomial.ensures.width)
    ∙ c.monomial-monomial.ensures.width ∙ sym c.loop-j.invariant.width

pub loop-j-preserved : goal.loop-j-preserved
loop-j-preserved c =
    let p = polynomial_of c.args.p.now in let q = polynomial_of c.args.q.now in
    let t = slice_index_or p c.args.i no_term in
    let fits : FitsSigned w128 (to_z w128 (of_z w128 c.coefficient-coefficient.result)
    *ℤ to_z w128 (of_z w128 c.coefficient.result)) =
    product_fits p q c.args.i c.loop-j.j (to_z w128 (of_z w128 c.coefficient-coefficient.result))
    (to_z w128 (of_z w128 c.coefficient.result)) c.requires.room
    (omega (arith, ints, c.coefficient-coefficient.ensures))
    (omega (arith, ints, c.coefficient.ensures)) in
    let left : to_z w128 (of_z w128 c.coefficient-coefficient.result) ≡ t.coefficient =
    omega (arith, ints, c.coefficient-coefficient.ensures) in
    let right : to_z w128 (of_z w128 c.coefficient.result)
    ≡ (slice_index_or q c.loop-j.j no_term).coefficient =
    omega (arith, ints, c.coefficient.ensures) in
    record {
      width = c.push.ensures.width ∙ c.loop-j.invariant.width;
      done = step_map (term_product t) q (polynomial_of c.loop-j.out) _ _ c.loop-j.j _
          (omega (arith, c.len-j-end.ensures, c.loop-j-test.true))
          (term_is t (slice_index_or q c.loop-j.j no_term) _ _ (to_z-of_z w128 _ fits ∙ ap (λ x. x
          *ℤ to_z w128 (of_z w128 c.coefficient.result)) left ∙ ap (λ x. t.coefficient *ℤ x) right)
          (c.deref.ensures.value ∙ c.in_ok-multiply_monomials.ensures
          ∙ ap (λ x. monomial_product x c.monomial.result.now) c.monomial-monomial.ensures.row
          ∙ ap (monomial_product t.monomial) c.monomial.ensures.row))
          c.in_ok-push.ensures.ok c.loop-j.invariant.done;
    }
