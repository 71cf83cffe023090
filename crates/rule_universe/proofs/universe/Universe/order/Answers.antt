use Rattle.std.proofs.Common.{sym, subst}
use Rattle.rule_universe.specs.Worlds.{World}
use Rattle.rule_universe.specs.Ordered.{AreNumbersOf}
use Rattle.rule_universe.proofs.universe.Universe.order.Goals as goal

pub returns : goal.returns
returns c =
    subst (λ l. AreNumbersOf c.args.self.now.instances l) (sym c.deref.ensures.value)
    (subst (λ (u : World). AreNumbersOf u.instances c.self.inside.order.items) c.self.view_is
    c.self.invariant.6)
