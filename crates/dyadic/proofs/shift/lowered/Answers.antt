use Rattle.std.proofs.Common.{◌≡◌, arith, ap, ◌∙◌, ℤ, ◌^◌, to_z, of_z, w64, rules}
use Rattle.std.specs.Int.RustNames.{FitsSigned}
use Rattle.std.specs.Int.Signed.{shr_z}
use Rattle.std.proofs.lemmas.Int.{ints, to_z-of_z}
use Rattle.dyadic.proofs.ShiftLemmas.{shr_size, shr_fits}
use Rattle.dyadic.proofs.shift.lowered.Goals as goal

pub returns : goal.returns
returns c =
    let kept : to_z w64 (of_z w64 c.args.number) ≡ c.args.number = omega (arith, ints) in
    let fits : FitsSigned w64 c.args.number = search rules in
    let small = shr_size c.args.number (2 ^ c.args.places) in
    let value : to_z w64 (of_z w64 (shr_z (to_z w64 (of_z w64 c.args.number)) (2 ^ c.args.places)))
    ≡ shr_z c.args.number (2 ^ c.args.places)
    = ap (λ (m : ℤ). to_z w64 (of_z w64 (shr_z m (2 ^ c.args.places)))) kept
    ∙ to_z-of_z w64 _ (shr_fits c.args.number (2 ^ c.args.places) fits) in
    record { value = value; size = rw value small }
