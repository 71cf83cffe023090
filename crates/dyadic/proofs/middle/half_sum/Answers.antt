use Rattle.std.proofs.Common.{arith, subst}
use Rattle.std.proofs.lemmas.Int.{ints}
use Rattle.fx_model.specs.Fraction.{Fraction, ◌+ℚ◌}
use Rattle.fx_model.specs.Grid.{signed}
use Rattle.fx_model.specs.Cut.{Cuts}
use Rattle.dyadic.specs.Values.{value_of}
use Rattle.dyadic.proofs.MiddleLemmas.{halved_cut}
use Rattle.dyadic.proofs.SumLemmas.{terms_are}
use Rattle.dyadic.proofs.middle.half_sum.Goals as goal

pub returns-clause-cuts : goal.returns-clause-cuts
returns-clause-cuts c =
    let size = c.sum-total.result.size in
    c.long.ensures.cuts _ (halved_cut c.sum-total.result.negative
    (value_of c.args.a +ℚ value_of c.args.b) size.digits _ size.two _ size.inexact _
    (omega (arith, ints, c.halved.ensures.two)) c.halved.ensures.digits c.halved.ensures.inexact
    (subst (λ (x : Fraction).
    Cuts (signed c.sum-total.result.negative x) size.digits size.two size.inexact)
    (terms_are c.args.a c.args.b _ _ _ _ c.term_of.ensures.mantissa c.term_of.ensures.exponent
    c.term_of-2.ensures.mantissa c.term_of-2.ensures.exponent) c.sum-total.ensures.cuts))
