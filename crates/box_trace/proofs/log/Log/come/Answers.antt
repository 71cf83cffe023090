use Rattle.std.specs.Prelude.{length}
use Rattle.std.proofs.Common.{sym, subst, arith, refl}
use Rattle.rule_universe.specs.Worlds.{HasSlot}
use Rattle.rule_universe.specs.Places.{IsPlace}
use Rattle.box_trace.proofs.Stepped.{found_slot, stays_done, kept_known, kept_within, step_done}
use Rattle.box_trace.proofs.log.Log.come.Goals as goal

pub kept-requires : goal.kept-requires
kept-requires c = found_slot c.args.uni.now c.laws.ensures.universe.once c.args.self.now c.args.c
    c.args.place c.requires.place c.requires.rows c.at-found.result c.at-found.ensures

pub returns-in_default : goal.returns-in_default
returns-in_default c =
    stays_done c.args.uni.now c.laws.ensures.universe.once c.args.self.now c.args.c c.args.place
    c.requires.place c.requires.rows c.at-found.result c.at-found.ensures
    c.args.source.rule c.args.source.arg c.args.source.premises c.in_default.ensures.none

pub place-here-requires : goal.place-here-requires
place-here-requires c =
    subst (HasSlot c.args.uni.now) (sym c.slot.ensures)
    (kept_known c.args.uni.now c.laws.ensures.universe.once c.args.self.now
    c.args.c c.args.place c.requires.place c.requires.rows c.at-found.result c.at-found.ensures
    c.in-Some.fact c.in-Some.ensures.some)

pub put-requires : goal.put-requires
put-requires c =
    kept_within c.args.uni.now c.laws.ensures.universe.once c.args.self.now
    c.args.c c.args.place c.requires.place c.requires.rows c.at-found.result c.at-found.ensures
    c.in-Some.fact c.in-Some.ensures.some
    c.place-here.result (subst (λ s. IsPlace (length c.args.uni.now.nodes) c.args.uni.now.pairs s
    c.place-here.result) c.slot.ensures c.place-here.ensures)

pub returns : goal.returns
returns c =
    step_done c.args.uni.now c.laws.ensures.universe.once c.args.self.now c.args.c
    c.args.place c.requires.place c.requires.rows c.at-found.result c.at-found.ensures
    c.in-Some.fact c.in-Some.ensures.some
    c.place-here.result (subst (λ s. IsPlace (length c.args.uni.now.nodes) c.args.uni.now.pairs s
    c.place-here.result) c.slot.ensures c.place-here.ensures)
    (record c.args.self.now { steps = c.push.new.self; known = c.put.new.self }) c.args.source.rule
    c.args.source.arg c.args.source.premises _ _
    c.in-Some.ensures.with c.met_number-with.ensures c.in_ok-push.ensures.items
    c.put.ensures.rows c.put.ensures.unsaid
    (omega (arith, c.len.ensures, c.args.self.now.steps.ok.0)) refl
