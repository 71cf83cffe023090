use Rattle.dyadic.specs.Values.{value_of}
use Rattle.dyadic.specs.Middle.{part_of}
use Rattle.dyadic.proofs.MiddleLemmas.{part_above, part_cut}
use Rattle.dyadic.proofs.middle.part_down.Goals as goal

pub returns : goal.returns
returns c = let a = c.args.a in let b = c.args.b in let size = c.sum-total.result.size in
    c.down_from.ensures (part_of (value_of a) (value_of b) c.args.i c.args.n)
    (c.long.ensures.cuts _ (c.divided.ensures.cuts _
    (part_cut a.mantissa a.exponent b.mantissa b.exponent _ _ _ _ c.args.i c.args.n
    c.sum-total.result.negative size.digits size.two size.inexact c.requires.before
    c.times.ensures.mantissa c.times.ensures.exponent c.times-2.ensures.mantissa
    c.times-2.ensures.exponent c.sum-total.ensures.cuts)))
    (part_above (value_of a) (value_of b) c.args.i c.args.n c.requires.before c.requires.ordered)
