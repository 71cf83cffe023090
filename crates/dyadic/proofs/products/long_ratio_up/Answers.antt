use Rattle.std.proofs.Common.{arith, sym, ◌∙◌}
use Rattle.std.proofs.lemmas.Int.{ints}
use Rattle.dyadic.proofs.GridLemmas.{same_scaled}
use Rattle.dyadic.proofs.products.long_ratio_up.Goals as goal

pub returns : goal.returns
returns c = λ x h. c.up.ensures x (c.ratio.ensures.cuts x (h
    ∙ sym (same_scaled c.args.n c.args.two _ _ (omega (arith, ints)) (omega (arith, ints)))))
