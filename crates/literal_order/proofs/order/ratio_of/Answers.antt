use Rattle.std.proofs.Common.{◌^◌, ◌<ℤ◌, ◌≤ℤ◌, pos, arith, ap, ◌∙◌}
use Rattle.std.specs.Int.RustNames.{unsigned_abs}
use Rattle.std.proofs.lemmas.Int.{ints}
use Rattle.literal.proofs.Limits.{bounded}
use Rattle.interval.proofs.Written.{ten_is, power_fits, divisor_some, with_tens_small, value_down}
use Rattle.interval.proofs.Written.{value_up}
use Rattle.literal_order.proofs.order.ratio_of.Goals as goal

pub pow-power-requires : goal.pow-power-requires
pow-power-requires c =
    let b = bounded c.args.lit.now c.requires in
    let low = b.ten_low in
    let high = b.ten_high in
    let f = power_fits c.unsigned_abs.result (omega (arith, ints, c.unsigned_abs.ensures.value)) in
    omega arith

pub overflow_mul-result : goal.overflow_mul-result
overflow_mul-result c =
    let t = ten_is c.args.lit.now c.requires in
    let up : pos 0 ≤ℤ c.args.lit.now.ten = omega (arith, ints) in
    let f = with_tens_small c.args.lit.now c.pow-power.result c.requires up (c.pow-power.ensures
    ∙ ap (λ j. 10 ^ j) (c.unsigned_abs.ensures.value ∙ ap unsigned_abs t)) in
    omega arith

pub returns-then-lit-lt0-clause-value : goal.returns-then-lit-lt0-clause-value
returns-then-lit-lt0-clause-value c =
    let t = ten_is c.args.lit.now c.requires in
    let below : c.args.lit.now.ten <ℤ pos 0 = omega (arith, ints) in
    value_down c.args.lit.now c.pow-power.result below (c.pow-power.ensures
    ∙ ap (λ j. 10 ^ j) (c.unsigned_abs.ensures.value ∙ ap unsigned_abs t))

pub returns-then-lit-lt0-clause-some : goal.returns-then-lit-lt0-clause-some
returns-then-lit-lt0-clause-some c = divisor_some _ _ c.pow-power.ensures

pub returns-else-lit-lt0-clause-value : goal.returns-else-lit-lt0-clause-value
returns-else-lit-lt0-clause-value c =
    let t = ten_is c.args.lit.now c.requires in
    let up : pos 0 ≤ℤ c.args.lit.now.ten = omega (arith, ints) in
    value_up c.args.lit.now c.pow-power.result up (c.pow-power.ensures
    ∙ ap (λ j. 10 ^ j) (c.unsigned_abs.ensures.value ∙ ap unsigned_abs t))
