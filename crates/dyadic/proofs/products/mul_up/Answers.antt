use Rattle.std.proofs.Common.{◌≡◌, subst, sym, ◌∙◌, ap, refl, true}
use Rattle.fx_model.specs.Fraction.{◌*ℚ◌, neg_ℚ, neg-mul}
use Rattle.fx_model.specs.Grid.{IsDown, IsUp, At}
use Rattle.dyadic.specs.Ends.{bound_of}
use Rattle.dyadic.specs.Values.{value_of}
use Rattle.dyadic.proofs.NumberLemmas.{up_signed}
use Rattle.dyadic.proofs.products.mul_up.Goals as goal

pub returns-in-Some : goal.returns-in-Some
returns-in-Some c =
    let opposite : value_of c.neg-opposite.result *ℚ value_of c.args.b ≡ neg_ℚ (value_of c.args.a
    *ℚ value_of c.args.b) = ap (λ x. x *ℚ value_of c.args.b) c.neg-opposite.ensures
    ∙ neg-mul (value_of c.args.a) (value_of c.args.b) in
    up_signed true (value_of c.args.a *ℚ value_of c.args.b) (value_of c.long_rounded.result)
    (value_of c.neg.result) refl
    (subst (λ x. IsDown x (At (value_of c.long_rounded.result))) opposite (c.long_rounded.ensures
    (value_of c.neg-opposite.result *ℚ value_of c.args.b) c.in-Some.ensures.floor)) c.neg.ensures

pub returns-in-None : goal.returns-in-None
returns-in-None c = subst (λ e. IsUp (value_of c.args.a *ℚ value_of c.args.b) (bound_of e))
    (sym c.again.ensures) c.long_product_up.ensures
