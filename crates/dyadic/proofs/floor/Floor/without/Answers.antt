use Rattle.std.specs.Int.RustNames.{unsigned_abs}
use Rattle.std.proofs.Common.{◌≡◌, ◌⊎◌, ◌<◌, ◌≤◌, ◌*◌, ◌^◌, arith, subst, sym, ◌∙◌, to_z, of_z, w64}
use Rattle.std.proofs.lemmas.Int.{ints}
use Rattle.fx_model.specs.Grid.{IsDown, At}
use Rattle.fx_model.specs.Powers.{scaled}
use Rattle.dyadic.specs.Floors.{Floored}
use Rattle.dyadic.specs.Values.{value_of}
use Rattle.dyadic.proofs.FloorLemmas.{floor_down, whole_down, whole_grid}
use Rattle.dyadic.proofs.floor.Floor.without.Goals as goal

pub reduced-requires : goal.reduced-requires
reduced-requires c =
    let k = to_z w64 (of_z w64 c.args.self.digits) in
    let d : k ≡ c.args.self.digits = omega (arith, ints) in
    let r : to_z w64 (of_z w64 c.lowered.result) ≡ c.lowered.result = omega (arith, ints) in
    whole_grid k c.args.self.two (to_z w64 (of_z w64 c.lowered.result)) _ c.args.lost
    (omega (arith, ints)) (r ∙ c.lowered.ensures.value)
    (subst (λ k. unsigned_abs k < 1152921504606846976 * 2 ^ c.args.lost) (sym d) c.requires.below)
    (subst (λ k. (c.args.lost ≡ 0) ⊎ (576460752303423488 * 2 ^ c.args.lost ≤ unsigned_abs k))
    (sym d) c.requires.above) c.requires.low (omega (arith, ints))

pub returns : goal.returns
returns c = λ x h.
    let k = to_z w64 (of_z w64 c.args.self.digits) in
    let d : k ≡ c.args.self.digits = omega (arith, ints) in
    let r : to_z w64 (of_z w64 c.lowered.result) ≡ c.lowered.result = omega (arith, ints) in
    floor_down x (value_of c.reduced.result) k c.args.self.two
    (subst (λ k. Floored x k c.args.self.two) (sym d) h.value)
    (subst (λ y. IsDown (scaled k c.args.self.two) (At y)) (sym c.reduced.ensures)
    (whole_down k c.args.self.two (to_z w64 (of_z w64 c.lowered.result)) _ c.args.lost
    (omega (arith, ints)) (r ∙ c.lowered.ensures.value)
    (subst (λ k. unsigned_abs k < 1152921504606846976 * 2 ^ c.args.lost) (sym d) c.requires.below)
    (subst (λ k. (c.args.lost ≡ 0) ⊎ (576460752303423488 * 2 ^ c.args.lost ≤ unsigned_abs k))
    (sym d) c.requires.above) c.requires.low (omega (arith, ints))))
