use Rattle.std.proofs.Common.{true, false, length, ap}
use Rattle.saturate.specs.Tables.{fact_at}
use Rattle.saturate.proofs.Slots.{room_place, room_found, placed_slot, shaped_room}
use Rattle.saturate.proofs.Visits.{conclusion_place, conclusion_found}
use Rattle.saturate.proofs.Working.{void_said}
use Rattle.saturate.proofs.table_sweep.TableSweeps.take.Goals as goal

pub improve-requires-clause-there : goal.improve-requires-clause-there
improve-requires-clause-there g c =
    let u = c.args.uni.now in
    let w = c.requires.concluded in
    let t = c.args.self.now in
    conclusion_place (g.C.Concludes.rules u.nodes u.hints)
    (c.rules_are_lawful.ensures u.nodes u.hints).on_target (fact_at t) w.0 c.args.c t w.2
    (room_place (length u.nodes) u.pairs t c.requires.fits (w.0).target
    (placed_slot (length u.nodes) u.pairs (w.0).target c.args.place w.3))

pub improve-requires-clause-found : goal.improve-requires-clause-found
improve-requires-clause-found g c =
    let u = c.args.uni.now in
    let w = c.requires.concluded in
    let t = c.args.self.now in
    conclusion_found (g.C.Concludes.rules u.nodes u.hints)
    (c.rules_are_lawful.ensures u.nodes u.hints).on_target (fact_at t) w.0 c.args.c t c.args.place
    w.2
    (room_found (length u.nodes) u.pairs t c.laws.ensures.universe.once c.requires.fits
    (w.0).target c.args.place w.3)

pub returns-in_default-clause-taken : goal.returns-in_default-clause-taken
returns-in_default-clause-taken g c =
    let e = ap fact_at c.in_default.ensures.same in
    (e, c.in_default.ensures.improves)
