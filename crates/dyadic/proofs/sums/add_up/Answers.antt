use Rattle.std.proofs.Common.{◌≡◌, subst, sym, ◌∙◌, refl, true}
use Rattle.fx_model.specs.Fraction.{◌+ℚ◌, neg_ℚ, neg-add}
use Rattle.fx_model.specs.Grid.{IsDown, IsUp, At}
use Rattle.dyadic.specs.Values.{value_of}
use Rattle.dyadic.specs.Ends.{bound_of}
use Rattle.dyadic.proofs.NumberLemmas.{up_signed}
use Rattle.dyadic.proofs.sums.add_up.Goals as goal

pub returns-in-Some : goal.returns-in-Some
returns-in-Some c =
    let opposite : value_of c.neg-left.result +ℚ value_of c.neg-right.result
    ≡ neg_ℚ (value_of c.args.a +ℚ value_of c.args.b) = (λ i. c.neg-left.ensures i
    +ℚ c.neg-right.ensures i) ∙ sym (neg-add (value_of c.args.a) (value_of c.args.b)) in
    up_signed true (value_of c.args.a +ℚ value_of c.args.b) (value_of c.rounded.result)
    (value_of c.neg.result) refl
    (subst (λ x. IsDown x (At (value_of c.rounded.result))) opposite (c.rounded.ensures
    (value_of c.neg-left.result +ℚ value_of c.neg-right.result) c.in-Some.ensures)) c.neg.ensures

pub returns-in-None : goal.returns-in-None
returns-in-None c = subst (λ e. IsUp (value_of c.args.a +ℚ value_of c.args.b) (bound_of e))
    (sym c.again.ensures) c.long_sum_up.ensures
