use Rattle.std.proofs.Common.{◌≡◌, ◌<◌, pos, arith, ap, ◌∙◌, inl, rules, to_z, of_z, w64}
use Rattle.std.proofs.lemmas.Int.{ints}
use Rattle.fx_model.specs.Powers.{scaled}
use Rattle.fx_model.specs.Grid.{signed}
use Rattle.dyadic.proofs.FloorLemmas.{long_signed}
use Rattle.dyadic.proofs.RatioLemmas.{zero_ratio, quotient_few, quotient_long, ratio_cuts}
use Rattle.dyadic.proofs.RatioLemmas.{cut_floored}
use Rattle.dyadic.proofs.floor.Floor.short_ratio.Goals as goal

pub returns-then-n-eq0-clause-floor : goal.returns-then-n-eq0-clause-floor
returns-then-n-eq0-clause-floor c = λ x h. record {
  value = inl (zero_ratio c.args.negative c.args.d c.args.two x c.requires.not_zero (h
      ∙ ap (λ n. scaled (pos n) c.args.two) c.if-n-eq0.true));
  low = omega (arith, ints);
  high = omega (arith, ints);
}

pub floor-requires : goal.floor-requires
floor-requires c =
    let top_few : c.of-top.result.digits < 18446744073709551616 = search rules in
    let bottom_few : c.of-bottom.result.digits < 18446744073709551616 = search rules in
    quotient_few c.of-top.result.digits c.of-bottom.result.digits c.divided-parts.result.digits
    c.divided-parts.result.rest c.divided-parts.ensures.value c.divided-parts.ensures.rest
    c.of-top.ensures.long top_few c.of-bottom.ensures.long bottom_few

pub returns-clause-floor : goal.returns-clause-floor
returns-clause-floor c = λ x h.
    let top = c.of-top.result in let bottom = c.of-bottom.result in
    let parts = c.divided-parts.result in
    let top_few : top.digits < 18446744073709551616 = search rules in
    let bottom_few : bottom.digits < 18446744073709551616 = search rules in
    let kept : to_z w64 (of_z w64 c.floor.result) ≡ c.floor.result = omega (arith, ints) in
    record {
      value = cut_floored x parts.digits parts.rest _ _
          (quotient_long top.digits bottom.digits parts.digits parts.rest
          c.divided-parts.ensures.value c.divided-parts.ensures.rest c.of-top.ensures.long top_few
          c.of-bottom.ensures.long bottom_few)
          c.args.negative
          (ratio_cuts c.args.n c.args.d top.places bottom.places top.digits bottom.digits
          parts.digits parts.rest c.args.two _ (signed c.args.negative x)
          c.of-top.ensures.value c.of-bottom.ensures.value c.divided-parts.ensures.rest
          c.divided-parts.ensures.value (omega (arith, ints)) h)
          (λ s. kept ∙ c.floor.ensures.plain s) (λ s e. kept ∙ c.floor.ensures.exact s e)
          (λ s l. kept ∙ c.floor.ensures.below s l);
      low = omega (arith, ints);
      high = omega (arith, ints);
    }

pub returns-clause-long : goal.returns-clause-long
returns-clause-long c =
    let top = c.of-top.result in let bottom = c.of-bottom.result in
    let parts = c.divided-parts.result in
    let top_few : top.digits < 18446744073709551616 = search rules in
    let bottom_few : bottom.digits < 18446744073709551616 = search rules in
    let kept : to_z w64 (of_z w64 c.floor.result) ≡ c.floor.result = omega (arith, ints) in
    long_signed c.args.negative parts.digits parts.rest _
    (quotient_long top.digits bottom.digits parts.digits parts.rest c.divided-parts.ensures.value
    c.divided-parts.ensures.rest c.of-top.ensures.long top_few c.of-bottom.ensures.long bottom_few)
    (quotient_few top.digits bottom.digits parts.digits parts.rest c.divided-parts.ensures.value
    c.divided-parts.ensures.rest c.of-top.ensures.long top_few c.of-bottom.ensures.long bottom_few)
    (λ s. kept ∙ c.floor.ensures.plain s) (λ s e. kept ∙ c.floor.ensures.exact s e)
    (λ s l. kept ∙ c.floor.ensures.below s l)
