use Rattle.std.proofs.Common.{◌∷◌, refl}
use Rattle.worker_tests.proofs.of_saturate.settle_pieces.Goals as goal

pub settle_counted-requires-clause-given : goal.settle_counted-requires-clause-given
settle_counted-requires-clause-given g c =
    let above = c.requires.given in
    ((c.args.x, c.in-Some.part) ∷ above.0, (above.0, refl, above.1))
