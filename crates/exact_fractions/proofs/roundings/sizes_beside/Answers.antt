use Rattle.std.specs.Prelude.{refl}
use Rattle.exact_fractions.proofs.Sides.{beside}
use Rattle.exact_fractions.proofs.roundings.sizes_beside.Goals as goal

pub returns : goal.returns
returns c = beside c.args.size c.args.den _ _ _ _ c.requires.positive c.requires.size refl
    c.next_if.ensures c.next_if-2.ensures c.next_if-3.ensures
