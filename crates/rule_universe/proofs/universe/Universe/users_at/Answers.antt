use Rattle.std.proofs.Common.{length, arith, ap, subst}
use Rattle.facts.specs.declared.fact.Slot.{Slot}
use Rattle.rule_universe.specs.Worlds.{World}
use Rattle.rule_universe.specs.Places.{IsPlace, place_count}
use Rattle.rule_universe.specs.Users.{AreUsers}
use Rattle.rule_universe.proofs.OnePlace.{place_within}
use Rattle.rule_universe.proofs.Filled.{row_users}
use Rattle.rule_universe.proofs.universe.Universe.users_at.Goals as goal

pub returns-then-place-len : goal.returns-then-place-len
returns-then-place-len c =
    subst (λ (u : World). (s : Slot) → IsPlace (length u.nodes) u.pairs s c.args.place
    → AreUsers u.instances s c.row.result.now) c.self.view_is
    (λ s at.
    row_users (length c.self.inside.nodes) c.self.inside.index c.self.inside.instances.items
    c.self.inside.users c.self.invariant.2 s c.args.place at c.row.result.now c.row.ensures)

pub returns-else-place-len : goal.returns-else-place-len
returns-else-place-len c = λ s at.
    absurd
    (let within =
    place_within (length c.args.self.now.nodes) c.args.self.now.pairs s c.args.place at in
    let same = ap (λ (u : World). place_count (length u.nodes) u.pairs) c.self.view_is in
    omega (arith, within, same, c.self.invariant.2.count, c.if-place-len.false, c.len.ensures))
