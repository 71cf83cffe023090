use Rattle.std.proofs.Common.{arith, ap, length}
use Rattle.poly_normal.specs.TermsOf.{polynomial_of}
use Rattle.poly_normal.proofs.Limits.{negation_joined, negation-length}
use Rattle.poly_normal.proofs.sides.negation.Goals as goal

pub invariant_of-result-clause-joined : goal.invariant_of-result-clause-joined
invariant_of-result-clause-joined c = let p = c.args.p.now in
    negation_joined c.in_ok-terms.terms.width p.terms.width p.degree p.weight
    (polynomial_of p.terms) (polynomial_of c.in_ok-terms.terms) c.in_ok-terms.ensures.width
    c.in_ok-terms.ensures.terms p.joined

pub invariant_of-result-clause-few : goal.invariant_of-result-clause-few
invariant_of-result-clause-few c = let p = c.args.p.now in
    let same = ap length c.in_ok-terms.ensures.terms in
    let e = negation-length (polynomial_of p.terms) in let few = p.few in omega arith
