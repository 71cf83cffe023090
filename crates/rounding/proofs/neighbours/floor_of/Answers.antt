use Rattle.std.proofs.Common.{◌≡◌, arith, ap, ◌∙◌, ℤ, to_z, of_z, w64}
use Rattle.std.specs.Prelude.{◌^◌}
use Rattle.std.specs.Int.Signed.{shr_z}
use Rattle.std.proofs.lemmas.Int.{ints}
use Rattle.std.proofs.lemmas.Nat.{pow_pos}
use Rattle.rounding.proofs.Shifts.{floor_shift, shr_size}
use Rattle.rounding.proofs.neighbours.floor_of.Goals as goal

pub returns : goal.returns
returns c =
    let kept : to_z w64 (of_z w64 c.args.m) ≡ c.args.m = omega (arith, ints) in
    let small = shr_size c.args.m (2 ^ c.min.result) (pow_pos c.min.result) in
    let value : to_z w64 (of_z w64 (shr_z (to_z w64 (of_z w64 c.args.m)) (2 ^ c.min.result)))
    ≡ shr_z c.args.m (2 ^ c.min.result) =
    ap (λ (m : ℤ). to_z w64 (of_z w64 (shr_z m (2 ^ c.min.result)))) kept ∙ omega (arith, ints) in
    record {
      small = rw value small;
      value = value ∙ floor_shift c.args.m c.args.places c.min.result c.min.ensures c.requires;
    }
