use Rattle.std.proofs.Common.{◌≡◌, ap, ◌∙◌, arith, to_z, of_z}
use Rattle.std.specs.Int.{w128}
use Rattle.std.specs.Prelude.{ℤ}
use Rattle.std.proofs.lemmas.Int.{ints}
use Rattle.interval.proofs.Written.{two_is}
use Rattle.exact_fractions.specs.Reduced.{over}
use Rattle.exact_fractions.proofs.Tens.{written_given}
use Rattle.exact_fractions.proofs.exact.Exact.of_written.Goals as goal

pub returns : goal.returns
returns c =
    let s : to_z w128 (of_z w128 c.signed.result) ≡ c.signed.result = omega (arith, ints) in
    written_given c.args.number.negative c.args.number.literal c.ratio_of-ratio.result.number
    c.ratio_of-ratio.result.divisor _ _ _ c.ratio_of-ratio.ensures.value
    c.ratio_of-ratio.ensures.some
    (c.reduced.ensures ∙ ap (λ (z : ℤ). over z c.ratio_of-ratio.result.divisor) (s
    ∙ c.signed.ensures)) (two_is c.args.number.literal c.requires) c.scaled.ensures
