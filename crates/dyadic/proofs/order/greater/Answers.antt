use Rattle.std.specs.Prelude.{◌≡◌}
use Rattle.std.proofs.Common.{subst, sym, ◌∙◌, refl, inl, inr}
use Rattle.fx_model.specs.Enclosure.{BoundLe}
use Rattle.dyadic.specs.Ends.{bound_of}
use Rattle.dyadic.specs.Extremes.{greater_end, greater_above}
use Rattle.dyadic.specs.declared.number.End.{End}
use Rattle.dyadic.proofs.OrderLemmas.{taken_then, taken_else}
use Rattle.dyadic.proofs.order.greater.Goals as goal

pub returns-then-is_at_most : goal.returns-then-is_at_most
returns-then-is_at_most c = let a = c.args.a in let b = c.args.b in
    let is : b ≡ greater_end a b =
    taken_then _ b a (sym c.is_at_most.ensures.is ∙ c.if-is_at_most.true) in
    let above = greater_above a b in
    record {
      one = inr refl;
      first = subst (λ (r : End). BoundLe (bound_of a) (bound_of r)) (sym is) above.0;
      second = subst (λ (r : End). BoundLe (bound_of b) (bound_of r)) (sym is) above.1;
      is = is;
    }

pub returns-else-is_at_most : goal.returns-else-is_at_most
returns-else-is_at_most c = let a = c.args.a in let b = c.args.b in
    let is : a ≡ greater_end a b =
    taken_else _ b a (sym c.is_at_most.ensures.is ∙ c.if-is_at_most.false) in
    let above = greater_above a b in
    record {
      one = inl refl;
      first = subst (λ (r : End). BoundLe (bound_of a) (bound_of r)) (sym is) above.0;
      second = subst (λ (r : End). BoundLe (bound_of b) (bound_of r)) (sym is) above.1;
      is = is;
    }
