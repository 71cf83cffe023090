use Rattle.std.proofs.Common.{◌≡◌, ◌^◌, ◌<◌, ◌≤ℤ◌, ◌+ℤ◌, pos, negsuc, arith, ap, ◌∙◌, to_z, of_z}
use Rattle.std.proofs.Common.{w32, w64}
use Rattle.std.specs.Int.RustNames.{unsigned_abs}
use Rattle.std.specs.Int.Signed.{shr_z}
use Rattle.std.proofs.lemmas.Int.{ints}
use Rattle.fx_model.specs.Cut.Gaps.{gap_le}
use Rattle.interval.proofs.Shrunk.{down_self, multiple_above, moved_down, shifted_grid}
use Rattle.interval.proofs.multiples.multiple_down.Goals as goal

pub returns-then-exponent-k : goal.returns-then-exponent-k
returns-then-exponent-k c =
    let h : c.args.k ≤ℤ c.args.x.exponent = omega (arith, ints, c.exponent.ensures.value) in
    let g = gap_le c.args.k c.args.x.exponent h in
    down_self c.args.k _ (multiple_above c.args.x.mantissa c.args.k c.args.x.exponent g.0 g.1)

pub returns-in-Some : goal.returns-in-Some
returns-in-Some c =
    let k : to_z w32 (of_z w32 c.args.k) ≡ c.args.k = omega (arith, ints) in
    let e : to_z w32 (of_z w32 c.exponent-2.result) ≡ c.args.x.exponent =
    omega (arith, ints, c.exponent-2.ensures.value) in
    let gap : c.args.k ≡ c.args.x.exponent +ℤ pos c.places_above-places.result =
    omega (arith, ints, c.places_above-places.ensures) in
    let digits : to_z w64 (of_z w64 c.shifted.result) ≡ c.shifted.result =
    omega (arith, ints, c.shifted.ensures.size) in
    let m : to_z w64 (of_z w64 c.mantissa.result) ≡ c.args.x.mantissa =
    omega (arith, ints, c.mantissa.ensures.value, c.mantissa.ensures.size) in
    moved_down c.args.x.mantissa c.args.x.exponent c.args.k c.places_above-places.result _ _ _ gap
    (digits ∙ c.shifted.ensures.value
    ∙ ap (λ z. shr_z z (2 ^ c.places_above-places.result)) m) k c.in-Some.ensures

pub returns-in-None : goal.returns-in-None
returns-in-None c =
    let digits : to_z w64 (of_z w64 c.shifted.result) ≡ c.shifted.result =
    omega (arith, ints, c.shifted.ensures.size) in
    let size : unsigned_abs (to_z w64 (of_z w64 c.shifted.result)) < 1152921504606846976 =
    omega (arith, ints, c.shifted.ensures.size) in
    let low : negsuc 511 ≤ℤ to_z w32 (of_z w32 c.args.k) =
    omega (arith, ints, c.exponent.ensures.low) in
    let high : to_z w32 (of_z w32 c.args.k) ≤ℤ pos 512 = omega (arith, ints, c.requires.high) in
    absurd (c.in-None.ensures (shifted_grid _ _ size low high))
