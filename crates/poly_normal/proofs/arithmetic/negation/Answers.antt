use Rattle.std.proofs.Common.{arith, ◌∙◌, neg_ℤ}
use Rattle.std.proofs.lemmas.Int.{ints}
use Rattle.poly_normal.specs.Polynomial.{Term}
use Rattle.poly_normal.specs.TermsOf.{polynomial_of}
use Rattle.poly_normal.proofs.Merge.{coefficient-size}
use Rattle.poly_normal.proofs.Products.{step_map, term_opposite}
use Rattle.poly_normal.proofs.arithmetic.negation.Goals as goal

pub overflow_sub-coefficient : goal.overflow_sub-coefficient
overflow_sub-coefficient c = let e = coefficient-size (polynomial_of c.args.p.now) c.loop-i.i in
    omega (arith, ints, e, c.coefficient.ensures, c.requires)

pub loop-i-preserved : goal.loop-i-preserved
loop-i-preserved c = let p = polynomial_of c.args.p.now in
    let e = coefficient-size p c.loop-i.i in record {
      width = c.push.ensures.width ∙ c.loop-i.invariant.width;
      done =
          step_map (λ (t : Term).
          record { coefficient = neg_ℤ t.coefficient; monomial = t.monomial }) p
          (polynomial_of c.loop-i.out) _ _ c.loop-i.i _
          (omega (arith, c.len-i-end.ensures, c.loop-i-test.true))
          (term_opposite _ _ _ (omega (arith, ints, e, c.coefficient.ensures, c.requires))
          c.monomial.ensures.row) c.in_ok-push.ensures.ok c.loop-i.invariant.done;
    }
