use Rattle.std.proofs.Common.{arith, sym, ◌∙◌, subst, refl}
use Rattle.std.specs.Prelude.{◌≤ℤ◌}
use Rattle.std.proofs.lemmas.Int.{ints}
use Rattle.fx_model.specs.Grid.{IsOnGrid}
use Rattle.dyadic.specs.Values.{value_of}
use Rattle.dyadic.proofs.Values.{on_grid}
use Rattle.rounding.proofs.Rounded.{rounded-finer}
use Rattle.rounding.proofs.OnGrid.{rounded_on_grid}
use Rattle.rounding.proofs.Chosen.{rounded_by}
use Rattle.rounding.proofs.round.round_grid.Goals as goal

pub returns-then-lsb-exponent : goal.returns-then-lsb-exponent
returns-then-lsb-exponent c = let below : c.args.r.lsb ≤ℤ c.args.x.exponent = grind (arith, ints) in
    sym (rounded-finer c.args.r.dir c.args.x.exponent c.args.r.lsb (value_of c.args.x) below
    (c.args.x.mantissa, refl))

pub number-requires : goal.number-requires
number-requires c =
    subst IsOnGrid (sym (rounded_by c.args.r.dir c.args.r.lsb c.args.x.mantissa c.args.x.exponent
    _ c.of.result _ _ _ (omega (arith, ints)) (let v = c.places_below-places.ensures.value in omega
    (arith, ints)) c.of.ensures (omega (arith, ints) ∙ c.chosen.ensures) (omega (arith, ints))))
    (rounded_on_grid c.args.r.dir c.args.r.lsb
    (value_of c.args.x) c.requires.low c.requires.high (on_grid c.args.x))

pub returns : goal.returns
returns c = c.number.ensures
    ∙ rounded_by c.args.r.dir c.args.r.lsb c.args.x.mantissa c.args.x.exponent _ c.of.result _ _ _
    (omega (arith, ints)) (let v = c.places_below-places.ensures.value in
    omega (arith, ints)) c.of.ensures (omega (arith, ints) ∙ c.chosen.ensures) (omega (arith, ints))
