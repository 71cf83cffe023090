use Rattle.dyadic.specs.Values.{value_of}
use Rattle.dyadic.proofs.Values.{on_grid}
use Rattle.dyadic.specs.Middle.{halfway}
use Rattle.dyadic.proofs.MiddleLemmas.{low_half, high_half, lower_middle, upper_middle, no_middle}
use Rattle.dyadic.proofs.MiddleLemmas.{refused}
use Rattle.dyadic.proofs.middle.halve_between.Goals as goal

pub returns-then-is_below : goal.returns-then-is_below
returns-then-is_below c = let a = value_of c.args.a in let b = value_of c.args.b in
    let half = c.half_sum-half.ensures.cuts in
    lower_middle a b c.requires (value_of c.down_from-lower.result) (c.down_from-lower.ensures
    (halfway a b) half (low_half a b c.requires)) (c.is_below.ensures.0 c.if-is_below.true)

pub returns-then-is_below-2 : goal.returns-then-is_below-2
returns-then-is_below-2 c = let a = value_of c.args.a in let b = value_of c.args.b in
    let half = c.half_sum-half.ensures.cuts in
    upper_middle a b c.requires (value_of c.down_from-lower.result) (value_of c.up_to-upper.result)
    (on_grid c.args.a) (c.down_from-lower.ensures (halfway a b) half (low_half a b c.requires))
    (refused c.is_below.result _ c.is_below.ensures.1 c.if-is_below.false)
    (c.up_to-upper.ensures (halfway a b) half (high_half a b c.requires))
    (c.is_below-2.ensures.0 c.if-is_below-2.true)

pub returns-else-is_below-2 : goal.returns-else-is_below-2
returns-else-is_below-2 c = let a = value_of c.args.a in let b = value_of c.args.b in
    let half = c.half_sum-half.ensures.cuts in
    no_middle a b c.requires (value_of c.down_from-lower.result) (value_of c.up_to-upper.result)
    (c.down_from-lower.ensures (halfway a b) half (low_half a b c.requires))
    (refused c.is_below.result _ c.is_below.ensures.1 c.if-is_below.false)
    (c.up_to-upper.ensures (halfway a b) half (high_half a b c.requires))
    (refused c.is_below-2.result _ c.is_below-2.ensures.1 c.if-is_below-2.false)
