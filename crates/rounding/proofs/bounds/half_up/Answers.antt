use Rattle.std.proofs.Common.{◌≡◌, arith, ap, sym, ◌∙◌, subst, to_z, of_z, w32}
use Rattle.std.proofs.lemmas.Int.{ints}
use Rattle.fx_model.specs.Fraction.{Fraction}
use Rattle.fx_model.specs.Powers.{two_to}
use Rattle.fx_model.specs.Grid.{At, IsUp}
use Rattle.rounding.specs.Errors.{half_of}
use Rattle.rounding.proofs.Largest.{half_is, last_half_is}
use Rattle.rounding.proofs.bounds.half_up.Goals as goal

pub returns-then-lsb-gtminus512 : goal.returns-then-lsb-gtminus512
returns-then-lsb-gtminus512 c = let test = c.if-lsb-gtminus512.true in
    subst (λ (v : Fraction). IsUp (half_of c.args.lsb) (At v)) (sym c.power.ensures)
    (half_is c.args.lsb _ (omega (arith, ints)) c.requires.high (omega (arith, ints)))

pub returns-else-lsb-gtminus512 : goal.returns-else-lsb-gtminus512
returns-else-lsb-gtminus512 c = let test = c.if-lsb-gtminus512.false in
    let same : to_z w32 (of_z w32 c.args.lsb) ≡ c.args.lsb = omega (arith, ints) in
    subst (λ (v : Fraction). IsUp (half_of c.args.lsb) (At v))
    (sym (c.power-else-lsb-gtminus512.ensures ∙ ap two_to same))
    (last_half_is c.args.lsb (omega (arith, ints)))
