use Rattle.std.proofs.Common.{sym, subst}
use Rattle.rule_universe.specs.Ordered.{AreNumbersOf}
use Rattle.rule_universe.proofs.order.in_order.Goals as goal

pub by_level-requires : goal.by_level-requires
by_level-requires c = subst (λ l. AreNumbersOf c.args.instances.now l)
    (sym c.deref-2.ensures.value) c.in_ok-numbers.ensures

pub by_level-requires-2 : goal.by_level-requires-2
by_level-requires-2 c = subst (λ l. AreNumbersOf c.args.instances.now l)
    (sym c.deref-5.ensures.value) c.in_ok-sorted.ensures
