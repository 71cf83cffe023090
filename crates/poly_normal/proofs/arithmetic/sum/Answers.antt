use Rattle.std.proofs.Common.{arith, sym, ◌∙◌, ap, inl, inr, ◌≤◌, ◌⊎◌, length, slice_index_or}
use Rattle.std.proofs.lemmas.Int.{ints}
use Rattle.poly_normal.specs.Rows.{no_term}
use Rattle.poly_normal.specs.TermsOf.{polynomial_of}
use Rattle.poly_normal.proofs.Merge.{order, coefficient-size, step_equal, merge_done, merge_sums}
use Rattle.poly_normal.proofs.arithmetic.sum.Goals as goal
use Rattle.poly_normal.proofs.arithmetic.sum.Goals.{then-loop-i-test+else-j-len, else-loop-i-test}

pub overflow_add-both : goal.overflow_add-both
overflow_add-both c =
    let p = polynomial_of c.args.p.now in let q = polynomial_of c.args.q.now in
    let e = coefficient-size p c.loop-i.i in let f = coefficient-size q c.loop-i.j in
    omega (
      arith,
      ints,
      e,
      f,
      c.coefficient-in-Equal.ensures,
      c.coefficient-in-Equal-2.ensures,
      c.requires.room,
    )

pub loop-i-preserved : goal.loop-i-preserved
loop-i-preserved c =
    let p = polynomial_of c.args.p.now in let q = polynomial_of c.args.q.now in
    record {
      left = omega (arith, c.len.ensures, c.loop-i-test.true);
      right = omega (arith, c.len-in-loop-i.ensures, c.if-j-len.true);
      width = c.push_unless_zero.ensures.width ∙ c.loop-i.invariant.width;
      done = step_equal p q (polynomial_of c.loop-i.out) _ _ c.loop-i.i c.loop-i.j _ _
          (omega (arith, c.len.ensures, c.loop-i-test.true))
          (omega (arith, c.len-in-loop-i.ensures, c.if-j-len.true))
          (let e = coefficient-size p c.loop-i.i in let f = coefficient-size q c.loop-i.j in omega (
            arith,
            ints,
            e,
            f,
            c.coefficient-in-Equal.ensures,
            c.coefficient-in-Equal-2.ensures,
            c.requires.room,
          ))
          c.monomial-in-Equal.ensures.row
          (ap (λ x. order x (slice_index_or q c.loop-i.j no_term).monomial)
          (c.monomial-in-Equal.ensures.row ∙ sym c.monomial.ensures.row)
          ∙ ap (order c.monomial.result.now) (sym c.monomial-in-loop-i.ensures.row)
          ∙ sym c.in-Equal.ensures)
          c.in_ok-push_unless_zero-in-Equal.ensures.ok c.loop-i.invariant.done;
    }

pub returns-clause-sum : goal.returns-clause-sum
returns-clause-sum c =
    let p = polynomial_of c.args.p.now in let q = polynomial_of c.args.q.now in
    let used : (length p ≤ c.loop-i.i) ⊎ (length q ≤ c.loop-i.j) = elim c.loop-i-test.branch [
      | then-loop-i-test+else-j-len w ↦ inr
          (omega (arith, w.len-in-loop-i.ensures, w.if-j-len.false))
      | else-loop-i-test w ↦ inl (omega (arith, c.len.ensures, w.loop-i-test.false))
    ] in
    merge_sums p q _ (merge_done p q (polynomial_of c.loop-i.out) _ _ _ c.loop-i.i c.loop-i.j used
    c.in_ok-push_from.ensures.ok c.in_ok-push_from-2.ensures.ok c.loop-i.invariant.done)
