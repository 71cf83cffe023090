use Rattle.std.proofs.Common.{subst}
use Rattle.rule_universe.specs.Ordered.{AreNumbersOf}
use Rattle.rule_universe.proofs.universe.Universe.put_in_order.Goals as goal

pub invariant_of-self : goal.invariant_of-self
invariant_of-self c = (
  c.self.invariant.0,
  c.self.invariant.1,
  c.self.invariant.2,
  c.self.invariant.3,
  c.self.invariant.4,
  c.self.invariant.5,
  subst (λ l. AreNumbersOf l c.in_ok-order.order.items) c.deref.ensures.value
      c.in_ok-order.ensures,
)
