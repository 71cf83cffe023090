use Rattle.std.proofs.Common.{◌≡◌, ◌-◌, true, false, refl, sym, length, arith, ◌∙◌, ap}
use Rattle.std.proofs.lemmas.Option.{slice_get_within}
use Rattle.std.proofs.lemmas.List.{length-map}
use Rattle.rule_universe.specs.declared.placed.Placed.{Placed}
use Rattle.box_trace.specs.Tables.{known_at}
use Rattle.box_trace.proofs.Came.{not_void}
use Rattle.box_trace.proofs.Taken.{of_slot}
use Rattle.box_trace.proofs.Sweeps.{beaten_improves, swept_step}
use Rattle.box_trace.proofs.sweeping.SweepingSweepsSteps.take.Goals as goal

pub place_of-here-requires : goal.place_of-here-requires
place_of-here-requires g c = λ d.
    let u = c.args.uni.now in
    of_slot u c.laws.ensures.universe.once
    (c.rules_are_lawful.ensures u.nodes u.hints).on_target c.args.self.now.log.known c.args.k
    c.args.place c.args.c c.requires.concluded d

-- what is known is as strong
pub returns-then-has_as_strong-clause-taken : goal.returns-then-has_as_strong-clause-taken
returns-then-has_as_strong-clause-taken g c =
    let u = c.args.uni.now in (
      refl,
      beaten_improves u c.laws.ensures.universe.once c.args.self.now.log
          c.requires.fits.0.proper c.place_of-here.result c.args.c c.place_of-here.ensures
          c.if-has_as_strong.ensures,
    )

pub premises-requires : goal.premises-requires
premises-requires g c =
    let w = c.requires.concluded in
    slice_get_within c.args.uni.now.instances c.args.k w.0 w.1

pub come_now-requires-clause-conclusion : goal.come_now-requires-clause-conclusion
come_now-requires-clause-conclusion g c =
    let w = c.requires.concluded in (w.0, w.1, w.2)

-- a step came, and VOID by it
pub returns-then-is_void-clause-taken : goal.returns-then-is_void-clause-taken
returns-then-is_void-clause-taken g c =
    (c.is_void.ensures.0 c.if-is_void.true, c.in_ok-come_now.ensures.improves)

pub returns-then-is_void-clause-fits : goal.returns-then-is_void-clause-fits
returns-then-is_void-clause-fits g c =
    let w = c.in_ok-come_now.ensures in
    let few = w.few in
    let first = w.first in
    let room = c.requires.fits.1 in
    (w.rows, omega (arith, few, first, room, c.room_of-room.ensures, c.if-room-self.false))

pub returns-then-is_void-clause-came : goal.returns-then-is_void-clause-came
returns-then-is_void-clause-came g c = λ first came.
    let w = c.requires.concluded in
    let u = c.args.uni.now in
    let new = record c.args.self.now {
      log = c.come_now.new.log;
      room = c.args.self.now.room - c.room_of-room.result;
    } in
    swept_step u first c.args.self.now new _ w.0 w.1 came c.in_ok-come_now.ensures
    (let placed = c.premises.ensures w.0 w.1 in
    let same = ap length placed.slots in
    let long = length-map c.premises.result.now (λ (p : Placed). p.slot) in
    omega (arith, same, long, c.room_of-room.ensures, c.if-room-self.false))

-- VOID isn't known
pub returns-clause-taken : goal.returns-clause-taken
returns-clause-taken g c =
    let u = c.args.uni.now in
    let w = c.in_ok-come_now.ensures in (
      not_void (known_at u c.come_now.new.log.known) w.rows.proper
          (λ h. (let z : false ≡ true = sym c.if-is_void.false ∙ c.is_void.ensures.1 h in cc)),
      w.improves,
    )

pub returns-clause-fits : goal.returns-clause-fits
returns-clause-fits g c =
    let w = c.in_ok-come_now.ensures in
    let few = w.few in
    let first = w.first in
    let room = c.requires.fits.1 in
    (w.rows, omega (arith, few, first, room, c.room_of-room.ensures, c.if-room-self.false))

pub returns-clause-came : goal.returns-clause-came
returns-clause-came g c = λ first came.
    let w = c.requires.concluded in
    let u = c.args.uni.now in
    let new = record c.args.self.now {
      log = c.come_now.new.log;
      room = c.args.self.now.room - c.room_of-room.result;
    } in
    swept_step u first c.args.self.now new _ w.0 w.1 came c.in_ok-come_now.ensures
    (let placed = c.premises.ensures w.0 w.1 in
    let same = ap length placed.slots in
    let long = length-map c.premises.result.now (λ (p : Placed). p.slot) in
    omega (arith, same, long, c.room_of-room.ensures, c.if-room-self.false))
