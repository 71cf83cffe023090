use Rattle.std.proofs.Common.{◌+◌, length, subst, sym, inl, inr}
use Rattle.rule_universe.specs.Places.{IsPlace}
use Rattle.saturate.specs.Universes.{setting_by}
use Rattle.saturate.specs.Tables.{fact_at}
use Rattle.saturate.proofs.Slots.{room_place, room_found, placed_slot}
use Rattle.saturate.proofs.Visits.{conclusion_place, conclusion_found, changed_slot}
use Rattle.saturate.proofs.Working.{work_same, work_more, turned}
use Rattle.saturate.proofs.tables.TablesKeeps.take.Goals as goal
use Rattle.saturate.proofs.tables.TablesKeeps.take.Goals.{in-Some+in_ok-push, in_default}

pub improve-requires-clause-there : goal.improve-requires-clause-there
improve-requires-clause-there g c =
    let u = c.args.uni.now in
    let w = c.requires.concluded in
    let rules = g.C.Concludes.rules u.nodes u.hints in
    let t = c.args.self.now in
    conclusion_place rules (c.rules_are_lawful.ensures u.nodes u.hints).on_target
    (fact_at t.now) w.0 c.args.c t.next w.2
    (room_place (length u.nodes) u.pairs t.next (c.requires.going.1.0).places_next (w.0).target
    (placed_slot (length u.nodes) u.pairs (w.0).target c.args.place w.3))

pub improve-requires-clause-found : goal.improve-requires-clause-found
improve-requires-clause-found g c =
    let u = c.args.uni.now in
    let w = c.requires.concluded in
    let rules = g.C.Concludes.rules u.nodes u.hints in
    let t = c.args.self.now in
    conclusion_found rules (c.rules_are_lawful.ensures u.nodes u.hints).on_target
    (fact_at t.now) w.0 c.args.c t.next c.args.place w.2
    (room_found (length u.nodes) u.pairs t.next c.laws.ensures.universe.once
    (c.requires.going.1.0).places_next (w.0).target c.args.place w.3)

pub returns : goal.returns
returns g c = λ first going.
    let u = c.args.uni.now in
    let w = c.requires.concluded in
    let s = setting_by g.C.Concludes.rules u in
    let t = c.args.self.now in
    let k = c.args.k in
    let before = c.args.changed.now.items in
    let next = c.improve.new.table in
    let come = c.improve.ensures.improves in
    elim c.match-improve.branch [
      | in-Some+in_ok-push b ↦
          (let x = b.in-Some.s in
          rw b.changed-is (
          turned s u first (record { now = t.now; next = next }) b.push.new.self.items (k + 1)
          (work_more s u first t before k going w.0 w.1 c.args.c come.0 w.2 next come.1
          b.push.new.self.items x c.args.place b.in_ok-push.ensures.items
          (elim (changed_slot s.rules (c.rules_are_lawful.ensures u.nodes u.hints).on_target
          (fact_at t.now) w.0 c.args.c x w.2 b.in-Some.ensures.slot) [
            | inl e ↦ inl (subst (λ y. IsPlace (length u.nodes) u.pairs y c.args.place) (sym e) w.3)
            | inr v ↦ inr v
          ])
          c.improve.ensures.shape b.in-Some.ensures.others (b.in-Some.ensures.risen going.1))))
      | in_default b ↦
          rw b.changed-is (
          turned s u first (record { now = t.now; next = next }) before (k + 1)
          (work_same s u first t before k going w.0 w.1 c.args.c come.0 w.2 next come.1
          b.in_default.ensures.same))
    ]
