use Rattle.std.proofs.Common.{◌≡◌, ◌≤◌, arith, ap, ◌∙◌, ℤ, refl, lit≤, to_z, of_z, w32, w64}
use Rattle.std.specs.Prelude.{◌^◌}
use Rattle.std.proofs.lemmas.Int.{ints}
use Rattle.std.proofs.lemmas.Nat.{pow_pos}
use Rattle.std.proofs.Math.Nat.{pow-le-pow_right}
use Rattle.fx_model.specs.Powers.{scaled}
use Rattle.rounding.proofs.Largest.{near_gap}
use Rattle.rounding.proofs.bounds.gap.Goals as goal

pub number-requires : goal.number-requires
number-requires c =
    let value = c.places_below.ensures.value in
    let few : c.places_below.result ≤ 60 = omega (arith, ints) in
    let most : 2 ^ c.places_below.result ≤ 2 ^ 60 =
    pow-le-pow_right {n = 2} (lit≤ tt) {i = c.places_below.result} {j = 60} few in
    let least = pow_pos c.places_below.result in
    let ones = c.ones.ensures in
    record {
      mantissa = _;
      exponent = _;
      above = omega (arith, ints);
      below = omega (arith, ints);
      lowest = omega (arith, ints);
      highest = omega (arith, ints);
      is = refl;
    }

pub returns : goal.returns
returns c =
    let value = c.places_below.ensures.value in
    let mantissa : to_z w64 (of_z w64 c.ones.result) ≡ c.ones.result = omega (arith, ints) in
    let place : to_z w32 (of_z w32 c.args.place) ≡ c.args.place = omega (arith, ints) in
    c.number.ensures ∙ ap (λ (m : ℤ). scaled m (to_z w32 (of_z w32 c.args.place))) mantissa
    ∙ ap (scaled c.ones.result) place
    ∙ near_gap c.args.lsb c.args.place c.ones.result c.places_below.result
    (omega (arith, ints)) c.ones.ensures
