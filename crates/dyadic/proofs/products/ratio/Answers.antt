use Rattle.std.proofs.Common.{arith}
use Rattle.std.proofs.lemmas.Int.{ints}
use Rattle.fx_model.specs.Grid.{signed}
use Rattle.dyadic.proofs.ProductLemmas.{ratio_cut}
use Rattle.dyadic.proofs.products.ratio.Goals as goal

pub returns-clause-cuts : goal.returns-clause-cuts
returns-clause-cuts c = λ x h.
    c.divided.ensures.cuts (signed _ x) (ratio_cut c.args.n _ c.args.d c.args.two x
    c.exact.result.digits c.exact.result.two c.exact.result.inexact (grind (arith, ints)) h
    (omega (arith, ints, c.exact.ensures.digits, c.unsigned_abs.ensures.value))
    (omega (arith, ints, c.exact.ensures.two)) c.exact.ensures.exact)
