use Rattle.std.proofs.Common.{◌^◌, ◌<ℤ◌, ◌≤ℤ◌, pos, arith, ap, ◌∙◌}
use Rattle.std.specs.Int.RustNames.{unsigned_abs}
use Rattle.std.proofs.lemmas.Int.{ints}
use Rattle.literal.proofs.Limits.{bounded}
use Rattle.interval.proofs.Written.{ten_is, power_fits, divisor_fits, divisor_some, with_tens_small}
use Rattle.interval.proofs.Written.{value_down, value_up}
use Rattle.exact_fractions.proofs.literals.ratio_of.Goals as goal

pub pow-power-requires : goal.pow-power-requires
pow-power-requires c =
    let b = bounded c.args.literal c.requires in
    let low = b.ten_low in
    let high = b.ten_high in
    let f = power_fits c.unsigned_abs.result (omega (arith, ints, c.unsigned_abs.ensures.value)) in
    omega arith

pub overflow_mul-result : goal.overflow_mul-result
overflow_mul-result c =
    let t = ten_is c.args.literal c.requires in
    let up : pos 0 ≤ℤ c.args.literal.ten = omega (arith, ints) in
    let f = with_tens_small c.args.literal c.pow-power.result c.requires up (c.pow-power.ensures
    ∙ ap (λ j. 10 ^ j) (c.unsigned_abs.ensures.value ∙ ap unsigned_abs t)) in
    omega arith

pub returns-then-literal-lt0-clause-value : goal.returns-then-literal-lt0-clause-value
returns-then-literal-lt0-clause-value c =
    let t = ten_is c.args.literal c.requires in
    let below : c.args.literal.ten <ℤ pos 0 = omega (arith, ints) in
    value_down c.args.literal c.pow-power.result below (c.pow-power.ensures
    ∙ ap (λ j. 10 ^ j) (c.unsigned_abs.ensures.value ∙ ap unsigned_abs t))

pub returns-then-literal-lt0-clause-some : goal.returns-then-literal-lt0-clause-some
returns-then-literal-lt0-clause-some c = divisor_some _ _ c.pow-power.ensures

pub returns-then-literal-lt0-clause-number : goal.returns-then-literal-lt0-clause-number
returns-then-literal-lt0-clause-number c = let b = (bounded c.args.literal c.requires).num in
    omega arith

pub returns-then-literal-lt0-clause-divisor : goal.returns-then-literal-lt0-clause-divisor
returns-then-literal-lt0-clause-divisor c =
    let low = (bounded c.args.literal c.requires).ten_low in
    let f = divisor_fits c.unsigned_abs.result (omega (arith, ints, c.unsigned_abs.ensures.value))
    in
    omega (arith, c.pow-power.ensures)

pub returns-else-literal-lt0-clause-value : goal.returns-else-literal-lt0-clause-value
returns-else-literal-lt0-clause-value c =
    let t = ten_is c.args.literal c.requires in
    let up : pos 0 ≤ℤ c.args.literal.ten = omega (arith, ints) in
    value_up c.args.literal c.pow-power.result up (c.pow-power.ensures
    ∙ ap (λ j. 10 ^ j) (c.unsigned_abs.ensures.value ∙ ap unsigned_abs t))

pub returns-else-literal-lt0-clause-number : goal.returns-else-literal-lt0-clause-number
returns-else-literal-lt0-clause-number c =
    let t = ten_is c.args.literal c.requires in
    let up : pos 0 ≤ℤ c.args.literal.ten = omega (arith, ints) in
    let f = with_tens_small c.args.literal c.pow-power.result c.requires up (c.pow-power.ensures
    ∙ ap (λ j. 10 ^ j) (c.unsigned_abs.ensures.value ∙ ap unsigned_abs t)) in
    omega arith
