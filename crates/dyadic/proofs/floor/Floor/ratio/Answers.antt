use Rattle.std.proofs.Common.{arith, false, refl}
use Rattle.std.proofs.lemmas.Int.{ints}
use Rattle.dyadic.proofs.ProductLemmas.{ratio_cut}
use Rattle.dyadic.proofs.floor.Floor.ratio.Goals as goal

pub returns-clause-floor : goal.returns-clause-floor
returns-clause-floor c = λ x h. c.short_ratio.ensures.floor x (ratio_cut c.args.n _ c.args.d
    c.args.two x c.unsigned_abs-size.result _ false (grind (arith, ints)) h
    (omega (arith, ints, c.unsigned_abs-size.ensures.value)) (omega (arith, ints)) refl)
