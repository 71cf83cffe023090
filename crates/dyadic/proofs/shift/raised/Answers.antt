use Rattle.std.proofs.Common.{◌≡◌, arith, ◌∙◌, pos, ◌*ℤ◌, ◌^◌, to_z, of_z, w64}
use Rattle.std.proofs.lemmas.Int.{ints, to_z-of_z}
use Rattle.dyadic.proofs.ShiftLemmas.{raised_fits}
use Rattle.dyadic.proofs.shift.raised.Goals as goal

pub overflow_mul-result : goal.overflow_mul-result
overflow_mul-result c = raised_fits c.args.mantissa (to_z w64 (of_z w64 c.args.mantissa))
    (to_z w64 (of_z w64 c.long_power_of_two.result)) c.args.places (omega (arith, ints))
    (omega (arith, ints, c.long_power_of_two.ensures)) c.requires.small

pub returns : goal.returns
returns c = to_z-of_z w64 _ (raised_fits c.args.mantissa (to_z w64 (of_z w64 c.args.mantissa))
    (to_z w64 (of_z w64 c.long_power_of_two.result)) c.args.places (omega (arith, ints))
    (omega (arith, ints, c.long_power_of_two.ensures)) c.requires.small)
    ∙ (let m : to_z w64 (of_z w64 c.args.mantissa) ≡ c.args.mantissa = omega (arith, ints) in
    let p : to_z w64 (of_z w64 c.long_power_of_two.result) ≡ pos (2 ^ c.args.places) =
    omega (arith, ints, c.long_power_of_two.ensures) in (λ i. m i *ℤ p i))
