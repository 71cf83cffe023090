use lib.IntN.{neg_ℤ}
use Rattle.std.proofs.Common.{◌≡◌, arith, ap, ◌∙◌, ℤ, pos, to_z, of_z, w64}
use Rattle.std.proofs.lemmas.Int.{ints}
use Rattle.fx_model.specs.Powers.{scaled}
use Rattle.fx_model.specs.Rounded.{floor, near_high}
use Rattle.rounding.proofs.Shifts.{ceiling_by, near_low_by}
use Rattle.rounding.proofs.neighbours.Neighbours.of.Goals as goal

pub returns : goal.returns
returns c =
    let kept : to_z w64 (of_z w64 c.args.m) ≡ c.args.m = omega (arith, ints) in
    let floor_small = c.floor_of-2.ensures.small in
    let near_small = c.near_high_of.ensures.small in
    record {
      floor_is = omega (arith, ints) ∙ c.floor_of.ensures.value
          ∙ ap (λ (m : ℤ). floor (scaled m (neg_ℤ (pos c.args.places)))) kept;
      ceiling_is = omega (arith, ints) ∙ ceiling_by c.args.m _ c.floor_of-2.result _
          (omega (arith, ints)) c.floor_of-2.ensures.value;
      near_low_is = omega (arith, ints) ∙ near_low_by c.args.m _ c.near_high_of.result _
          (omega (arith, ints)) c.near_high_of.ensures.value;
      near_high_is = omega (arith, ints) ∙ c.near_high_of-2.ensures.value
          ∙ ap (λ (m : ℤ). near_high (scaled m (neg_ℤ (pos c.args.places)))) kept;
    }
