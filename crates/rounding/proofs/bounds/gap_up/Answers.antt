use Rattle.std.proofs.Common.{◌≡◌, arith, ap, sym, ◌∙◌, subst, ℤ, pos, inl, inr, to_z, of_z, w32}
use Rattle.std.specs.Prelude.{negsuc, ◌+ℤ◌, ◌<ℤ◌}
use Rattle.std.proofs.lemmas.Int.{ints}
use Rattle.fx_model.specs.Fraction.{Fraction, ◌-ℚ◌}
use Rattle.fx_model.specs.Powers.{two_to}
use Rattle.fx_model.specs.Grid.{At, IsUp}
use Rattle.dyadic.specs.Values.{value_of}
use Rattle.dyadic.proofs.Values.{on_grid}
use Rattle.rounding.proofs.Outward.{up_grid}
use Rattle.rounding.proofs.Largest.{far_gap}
use Rattle.rounding.proofs.bounds.gap_up.Goals as goal

pub returns-then-place-ltminus512 : goal.returns-then-place-ltminus512
returns-then-place-ltminus512 c =
    let same : to_z w32 (of_z w32 c.args.lsb) ≡ c.args.lsb = omega (arith, ints) in
    let far : c.args.place <ℤ negsuc 511 =
    (let test = c.if-place-ltminus512.true in omega (arith, ints)) in
    subst (λ (v : Fraction). IsUp (two_to c.args.lsb -ℚ two_to c.args.place) (At v))
    (sym (c.power.ensures ∙ ap two_to same))
    (far_gap c.args.lsb c.args.place c.requires.low c.requires.high c.requires.below (inl far))

pub returns-then-place-lsb : goal.returns-then-place-lsb
returns-then-place-lsb c =
    let same : to_z w32 (of_z w32 c.args.lsb) ≡ c.args.lsb = omega (arith, ints) in
    let far : (c.args.place +ℤ pos 60) <ℤ c.args.lsb =
    (let test = c.if-place-lsb.true in omega (arith, ints)) in
    subst (λ (v : Fraction). IsUp (two_to c.args.lsb -ℚ two_to c.args.place) (At v))
    (sym (c.power-then-place-lsb.ensures ∙ ap two_to same))
    (far_gap c.args.lsb c.args.place c.requires.low c.requires.high c.requires.below (inr far))

pub returns : goal.returns
returns c =
    let lsb : to_z w32 (of_z w32 c.args.lsb) ≡ c.args.lsb = omega (arith, ints) in
    let place : to_z w32 (of_z w32 c.args.place) ≡ c.args.place = omega (arith, ints) in
    subst (λ (v : Fraction). IsUp v (At (value_of c.gap.result)))
    (c.gap.ensures ∙ ap (λ (l : ℤ). two_to l -ℚ two_to (to_z w32 (of_z w32 c.args.place))) lsb
    ∙ ap (λ (k : ℤ). two_to c.args.lsb -ℚ two_to k) place)
    (up_grid (value_of c.gap.result) (on_grid c.gap.result))
