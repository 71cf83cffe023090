use Rattle.std.proofs.Common.{arith, refl}
use Rattle.std.proofs.lemmas.Int.{ints}
use Rattle.dyadic.proofs.GridLemmas.{zero_grid, size_grid, odd_grid}
use Rattle.dyadic.proofs.number.Dyadic.from_size.Goals as goal

pub canonical-requires : goal.canonical-requires
canonical-requires c = zero_grid 0 _ refl

pub canonical-requires-then-is_on_grid : goal.canonical-requires-then-is_on_grid
canonical-requires-then-is_on_grid c =
    size_grid c.odd_part.result.odd c.odd_part.result.shift c.args.size _ _ c.odd_part.ensures.value
    (omega (arith, ints)) (c.is_on_grid.ensures.0 c.if-is_on_grid.true)

pub returns-else-is_on_grid : goal.returns-else-is_on_grid
returns-else-is_on_grid c =
    λ g. let t = c.is_on_grid.ensures.1 (odd_grid c.odd_part.result.odd c.odd_part.result.shift
    c.args.size c.args.e _ c.odd_part.ensures.value (omega (arith, ints)) g) in
    let f = c.if-is_on_grid.false in cc
