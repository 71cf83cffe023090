use Rattle.std.specs.Prelude.{◌≡◌}
use Rattle.std.proofs.Common.{subst, sym, ◌∙◌, refl, inl, inr}
use Rattle.fx_model.specs.Enclosure.{BoundLe}
use Rattle.dyadic.specs.Ends.{bound_of}
use Rattle.dyadic.specs.Extremes.{lesser_end, lesser_below}
use Rattle.dyadic.specs.declared.number.End.{End}
use Rattle.dyadic.proofs.OrderLemmas.{taken_then, taken_else}
use Rattle.dyadic.proofs.order.lesser.Goals as goal

pub returns-then-is_at_most : goal.returns-then-is_at_most
returns-then-is_at_most c = let a = c.args.a in let b = c.args.b in
    let is : a ≡ lesser_end a b =
    taken_then _ a b (sym c.is_at_most.ensures.is ∙ c.if-is_at_most.true) in
    let below = lesser_below a b in
    record {
      one = inl refl;
      first = subst (λ (r : End). BoundLe (bound_of r) (bound_of a)) (sym is) below.0;
      second = subst (λ (r : End). BoundLe (bound_of r) (bound_of b)) (sym is) below.1;
      is = is;
    }

pub returns-else-is_at_most : goal.returns-else-is_at_most
returns-else-is_at_most c = let a = c.args.a in let b = c.args.b in
    let is : b ≡ lesser_end a b =
    taken_else _ a b (sym c.is_at_most.ensures.is ∙ c.if-is_at_most.false) in
    let below = lesser_below a b in
    record {
      one = inr refl;
      first = subst (λ (r : End). BoundLe (bound_of r) (bound_of a)) (sym is) below.0;
      second = subst (λ (r : End). BoundLe (bound_of r) (bound_of b)) (sym is) below.1;
      is = is;
    }
