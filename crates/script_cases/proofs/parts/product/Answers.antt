use Rattle.std.proofs.Common.{arith}
use Rattle.script_cases.proofs.Lengths.{few_product}
use Rattle.script_cases.proofs.parts.product.Goals as goal

pub overflow_mul-product : goal.overflow_mul-product
overflow_mul-product c =
    let kept = c.loop-places.invariant in
    let small = few_product c.loop-places.product c.loop-places.from c.loop-places.places.now
    c.in-len1-up.len_at_least kept.1 (omega (arith, kept.0, c.requires.few)) in
    omega (arith, small)
