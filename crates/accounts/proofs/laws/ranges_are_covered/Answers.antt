use Rattle.accounts.specs.Paths.{child}
use Rattle.accounts.proofs.laws.ranges_are_covered.Goals as goal

pub returns : goal.returns
returns c = λ v inside tells p holds cut.
    let piece = c.covers.ensures.covered v p ((tells p).0 holds) cut in
    (piece.0, piece.1, (tells (child p piece.0)).1 piece.2)
