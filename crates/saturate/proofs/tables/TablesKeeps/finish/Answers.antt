use Rattle.std.proofs.Common.{true, false, length, subst, sym, ◌∙◌, refl}
use Rattle.std.specs.List.{Contains}
use Rattle.facts.specs.declared.fact.Slot.TheVariants as slot
use Rattle.saturate.specs.Universes.{setting_by}
use Rattle.saturate.specs.Tables.{fact_at}
use Rattle.saturate.proofs.Slots.{room_place, room_found, placed_slot}
use Rattle.saturate.proofs.Working.{placed_all, void_said, come_swapped, come_caught}
use Rattle.saturate.proofs.tables.TablesKeeps.finish.Goals as goal

pub returns-then-self-clause-came : goal.returns-then-self-clause-came
returns-then-self-clause-came g c = λ first gathered.
    let u = c.args.uni.now in
    come_swapped (setting_by g.C.Concludes.rules u) u first c.args.self.now
    c.args.changed.now.items gathered (record { now = c.swap.new.x; next = c.swap.new.y })
    c.if-self.true c.swap.ensures.x_after c.swap.ensures.y_after

pub catch_up-requires-clause-there : goal.catch_up-requires-clause-there
catch_up-requires-clause-there g c = λ p w.
    let u = c.args.uni.now in
    let t = c.args.self.now in
    let r = c.requires.3 in
    let at = placed_all u c.args.changed.now.items (fact_at t.now) (fact_at t.next) r.no_void
    (rw c.if-self.false refl) r.known r.risen p
    (subst (λ l. Contains l p) c.deref.ensures.value w) in
    room_place (length u.nodes) u.pairs t.now r.places p.slot
    (placed_slot (length u.nodes) u.pairs p.slot p.place at)

pub catch_up-requires-clause-found : goal.catch_up-requires-clause-found
catch_up-requires-clause-found g c = λ p w.
    let u = c.args.uni.now in
    let n = length u.nodes in
    let once = c.laws.ensures.universe.once in
    let t = c.args.self.now in
    let r = c.requires.3 in
    let at = placed_all u c.args.changed.now.items (fact_at t.now) (fact_at t.next) r.no_void
    (rw c.if-self.false refl) r.known r.risen p
    (subst (λ l. Contains l p) c.deref.ensures.value w) in (
      room_found n u.pairs t.now once r.places p.slot p.place at,
      room_found n u.pairs t.next once r.places_next p.slot p.place at,
    )

pub returns-clause-said : goal.returns-clause-said
returns-clause-said g c =
    sym (c.catch_up.ensures.same slot.Void) ∙ void_said c.args.self.now.next false c.if-self.false

pub returns-clause-came : goal.returns-clause-came
returns-clause-came g c = λ first gathered.
    let u = c.args.uni.now in
    come_caught (setting_by g.C.Concludes.rules u) u first c.args.self.now
    c.args.changed.now.items gathered
    (record { now = c.catch_up.new.now; next = c.args.self.now.next })
    c.catch_up.ensures.same c.catch_up.ensures.shape refl
