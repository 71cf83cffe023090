use Rattle.std.proofs.Common.{sym, subst}
use Rattle.rule_universe.specs.Assumed.{HaveSlots}
use Rattle.universe.proofs.Built.{hypotheses_slots}
use Rattle.universe.proofs.world.assume.Goals as goal

pub assume-requires : goal.assume-requires
assume-requires c =
    let u = c.args.universe.now in
    subst (HaveSlots u) (sym c.in_ok-facts.ensures) (hypotheses_slots c.args.script.now u
    c.laws.ensures.names c.args.claims.now c.requires.claims c.requires.universe.1.closure)
