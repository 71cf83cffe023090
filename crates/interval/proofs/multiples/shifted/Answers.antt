use Rattle.std.proofs.Common.{◌≡◌, ◌^◌, arith, to_z, of_z, w64}
use Rattle.std.proofs.lemmas.Int.{ints}
use Rattle.interval.proofs.Shrunk.{shifted_is, shifted_back}
use Rattle.interval.proofs.multiples.shifted.Goals as goal

pub returns-clause-value : goal.returns-clause-value
returns-clause-value c =
    let m : to_z w64 (of_z w64 c.args.mantissa) ≡ c.args.mantissa = omega (arith, ints) in
    shifted_back c.args.mantissa _ (2 ^ c.args.places)
    (shifted_is c.args.mantissa _ c.args.places c.min.result m c.requires c.min.ensures) c.requires
