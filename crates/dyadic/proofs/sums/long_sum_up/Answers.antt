use Rattle.std.proofs.Common.{subst}
use Rattle.fx_model.specs.Fraction.{◌+ℚ◌, Fraction}
use Rattle.fx_model.specs.Grid.{signed}
use Rattle.fx_model.specs.Cut.{Cuts}
use Rattle.dyadic.specs.Values.{value_of}
use Rattle.dyadic.proofs.SumLemmas.{terms_are}
use Rattle.dyadic.proofs.sums.long_sum_up.Goals as goal

pub returns : goal.returns
returns c =
    let size = c.sum.result.size in
    c.up.ensures (value_of c.args.a +ℚ value_of c.args.b)
    (subst (λ (x : Fraction).
    Cuts (signed c.sum.result.negative x) size.digits size.two size.inexact)
    (terms_are c.args.a c.args.b _ _ _ _ c.term_of.ensures.mantissa c.term_of.ensures.exponent
    c.term_of-2.ensures.mantissa c.term_of-2.ensures.exponent) c.sum.ensures.cuts)
