use lib.IntN.{neg_ℤ}
use Rattle.std.proofs.Common.{◌≡◌, arith, ap, sym, ◌∙◌, ℤ, pos, to_z, of_z, w64, lit<}
use Rattle.std.specs.Prelude.{◌+ℤ◌, ◌-◌, ◌<◌}
use Rattle.std.specs.Int.Signed.{shr_z}
use Rattle.std.specs.Int.RustNames.{unsigned_abs}
use Rattle.std.proofs.lemmas.Int.{ints}
use Rattle.fx_model.specs.Powers.{scaled}
use Rattle.fx_model.specs.Rounded.{floor}
use Rattle.rounding.proofs.Shifts.{shr_low, shr_high, near_by, scaled-twice}
use Rattle.rounding.proofs.neighbours.near_high_of.Goals as goal

pub overflow_add-result : goal.overflow_add-result
overflow_add-result c = let s = c.floor_of.ensures.small in omega (arith, ints)

pub returns : goal.returns
returns c =
    let g : ℤ = c.floor_of.result in
    let kept : to_z w64 (of_z w64 c.args.m) ≡ c.args.m = omega (arith, ints) in
    let small = c.floor_of.ensures.small in
    let next : to_z w64 (of_z w64 (to_z w64 (of_z w64 c.floor_of.result) +ℤ pos 1))
    ≡ c.floor_of.result +ℤ pos 1 = omega (arith, ints) in
    let low = shr_low (c.floor_of.result +ℤ pos 1) 2 (lit< tt) in
    let high = shr_high (c.floor_of.result +ℤ pos 1) 2 (lit< tt) in
    let size : unsigned_abs (shr_z (c.floor_of.result +ℤ pos 1) 2)
    < 1152921504606846976 = omega (arith, ints) in
    let value : to_z w64 (of_z w64
    (shr_z (to_z w64 (of_z w64 (to_z w64 (of_z w64 c.floor_of.result) +ℤ pos 1))) 2))
    ≡ shr_z (c.floor_of.result +ℤ pos 1) 2
    = ap (λ (m : ℤ). to_z w64 (of_z w64 (shr_z m 2))) next ∙ omega (arith, ints) in
    record {
      small = rw value size;
      value = value ∙ sym (near_by (scaled c.args.m (neg_ℤ (pos c.args.places))) c.floor_of.result
          (shr_z (c.floor_of.result +ℤ pos 1) 2)
          (ap floor (scaled-twice c.args.m (c.args.places - 1) c.args.places (omega arith))
          ∙ ap (λ (m : ℤ). floor (scaled m (neg_ℤ (pos (c.args.places - 1))))) (sym kept)
          ∙ sym c.floor_of.ensures.value)
          low high);
    }
