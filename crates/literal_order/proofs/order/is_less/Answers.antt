use Rattle.std.proofs.Common.{◌≡◌, ◌+ℤ◌, pos, arith}
use Rattle.std.proofs.lemmas.Int.{ints}
use Rattle.fx_model.specs.Expression.{literal_value}
use Rattle.literal.proofs.Limits.{bounded}
use Rattle.interval.proofs.Written.{two_is}
use Rattle.literal_order.proofs.Ratios.{IsRatio, across_above, across_below}
use Rattle.literal_order.proofs.order.is_less.Goals as goal

pub places_above-requires-clause-high : goal.places_above-requires-clause-high
places_above-requires-clause-high c = let t = two_is c.args.b.now c.requires.second in
    let b = (bounded c.args.b.now c.requires.second).two_high in omega (arith, ints)

pub places_above-requires-else-a-b-clause-high : goal.places_above-requires-else-a-b-clause-high
places_above-requires-else-a-b-clause-high c = let t = two_is c.args.a.now c.requires.first in
    let b = (bounded c.args.a.now c.requires.first).two_high in omega (arith, ints)

pub returns-then-a-b : goal.returns-then-a-b
returns-then-a-b c =
    let a = c.args.a.now in
    let b = c.args.b.now in
    let left = c.ratio_of-left.result in
    let right = c.ratio_of-right.result in
    let x : IsRatio (literal_value a) left.number left.divisor a.two =
    record { value = c.ratio_of-left.ensures.value; some = c.ratio_of-left.ensures.some } in
    let y : IsRatio (literal_value b) right.number right.divisor b.two =
    record { value = c.ratio_of-right.ensures.value; some = c.ratio_of-right.ensures.some } in
    let s = two_is a c.requires.first in
    let t = two_is b c.requires.second in
    let gap : b.two ≡ a.two +ℤ pos c.places_above.result =
    omega (arith, ints, c.places_above.ensures) in
    across_below _ _ left.number left.divisor right.number right.divisor
    a.two b.two x y c.places_above.result gap _ _ c.product-mine.ensures c.product-other.ensures
    c.is_below_raised.result c.is_below_raised.ensures

pub returns-else-a-b : goal.returns-else-a-b
returns-else-a-b c =
    let a = c.args.a.now in
    let b = c.args.b.now in
    let left = c.ratio_of-left.result in
    let right = c.ratio_of-right.result in
    let x : IsRatio (literal_value a) left.number left.divisor a.two =
    record { value = c.ratio_of-left.ensures.value; some = c.ratio_of-left.ensures.some } in
    let y : IsRatio (literal_value b) right.number right.divisor b.two =
    record { value = c.ratio_of-right.ensures.value; some = c.ratio_of-right.ensures.some } in
    let s = two_is a c.requires.first in
    let t = two_is b c.requires.second in
    let gap : a.two ≡ b.two +ℤ pos c.places_above-else-a-b.result =
    omega (arith, ints, c.places_above-else-a-b.ensures) in
    across_above _ _ left.number left.divisor right.number right.divisor a.two b.two x
    y c.places_above-else-a-b.result gap _ _ c.product-mine.ensures c.product-other.ensures
    c.is_raised_below.result c.is_raised_below.ensures
