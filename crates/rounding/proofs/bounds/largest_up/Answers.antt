use Rattle.std.proofs.Common.{◌≡◌, arith, ap, sym, ◌∙◌, subst, ℤ, to_z, of_z, w32}
use Rattle.std.specs.Prelude.{Option, false}
use Rattle.std.proofs.lemmas.Int.{ints}
use Rattle.fx_model.specs.Fraction.{Fraction}
use Rattle.fx_model.specs.Powers.{two_to}
use Rattle.fx_model.specs.Grid.{At, IsUp}
use Rattle.dyadic.specs.Values.{value_of}
use Rattle.rounding.specs.Errors.{largest_error, keeps}
use Rattle.rounding.proofs.Outward.{up_grid}
use Rattle.rounding.proofs.Enclosed.{not_kept}
use Rattle.rounding.proofs.Largest.{power_on_grid}
use Rattle.rounding.proofs.bounds.largest_up.Goals as goal

pub gap_up-requires-clause-below : goal.gap_up-requires-clause-below
gap_up-requires-clause-below c = let below = not_kept c.args.lsb c.in-Some.place
    (subst (λ (f : Option ℤ). keeps c.args.lsb f ≡ false) c.in-Some.is c.requires.below) in
    omega (arith, ints)

pub returns-in-None : goal.returns-in-None
returns-in-None c = let same : to_z w32 (of_z w32 c.args.lsb) ≡ c.args.lsb = omega (arith, ints) in
    subst (λ (f : Option ℤ). IsUp (largest_error c.args.lsb f) (At (value_of c.power.result)))
    (sym c.in-None.is)
    (subst (λ (v : Fraction). IsUp (two_to c.args.lsb) (At v))
    (sym (c.power.ensures ∙ ap two_to same))
    (up_grid (two_to c.args.lsb) (power_on_grid c.args.lsb c.requires.low c.requires.high)))
