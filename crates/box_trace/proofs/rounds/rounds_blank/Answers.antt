use Rattle.std.specs.Prelude.{◌^◌}
use Rattle.std.proofs.Common.{◌≡◌, ◌<◌, ◌+◌, ◌*◌, None, true, false, length, subst, sym, ◌∙◌, arith}
use Rattle.facts.specs.declared.fact.Fact.TheVariants as fact
use Rattle.facts.specs.declared.fact.Slot.TheVariants as slot
use Rattle.derivation.specs.Rounds.{InTable, IsBestFrom}
use Rattle.derivation.proofs.Heights.{best_start, best_void}
use Rattle.saturate.specs.Universes.{setting_of}
use Rattle.box_trace.specs.declared.log.Log.{Log}
use Rattle.box_trace.specs.Tables.{known_at, HasRows}
use Rattle.box_trace.specs.Logs.{IsLonger, IsQuietApart}
use Rattle.box_trace.specs.Rounds.{HasRounds}
use Rattle.box_trace.proofs.Came.{not_void, longer_none, longer_slack}
use Rattle.box_trace.proofs.Added.{rounds_none, rounds_slack}
use Rattle.box_trace.proofs.Gathered.{come_longer, come_rounds}
use Rattle.box_trace.proofs.Said.{said_longer, said_rounds, if_some}
use Rattle.box_trace.proofs.rounds.rounds_blank.Goals as goal

pub returns-then-begun-clause-best : goal.returns-then-begun-clause-best
returns-then-begun-clause-best g c =
    let u = setting_of c.args.uni.now in
    let start = known_at c.args.uni.now c.args.log.known in
    best_void u (InTable start) 0 c.args.height start fact.Void
    (best_start u start c.requires.rows.proper)
    (c.is_void-begun.ensures.0 c.if-begun.true) (omega arith)

pub returns-then-begun-clause-longer : goal.returns-then-begun-clause-longer
returns-then-begun-clause-longer g c =
    longer_none c.args.uni.now (c.args.height * 8192) c.args.log c.requires.rows

pub returns-then-begun-clause-rounds : goal.returns-then-begun-clause-rounds
returns-then-begun-clause-rounds g c =
    let u = c.args.uni.now in
    rounds_slack u 0 c.args.height c.args.log c.args.log (omega arith) (rounds_none u c.args.log)

pub run-requires-clause-fits : goal.run-requires-clause-fits
run-requires-clause-fits g c =
    subst (λ (l : Log). HasRows c.args.uni.now l.known
    × (l.first + length l.steps.items + c.args.height * 8192 < 2 ^ 64))
    (sym c.over-gathering.ensures) (c.requires.rows, c.requires.room)

pub run-requires-clause-no_void : goal.run-requires-clause-no_void
run-requires-clause-no_void g c =
    subst (λ (l : Log). known_at c.args.uni.now l.known slot.Void ≡ None)
    (sym c.over-gathering.ensures)
    (not_void (known_at c.args.uni.now c.args.log.known) c.requires.rows.proper
    (λ h. (let z : false ≡ true = sym c.if-begun.false ∙ c.is_void-begun.ensures.1 h in cc)))

pub run-requires-clause-quiet : goal.run-requires-clause-quiet
run-requires-clause-quiet g c =
    let u = c.args.uni.now in
    if_some c.args.changed (λ x e. subst (λ (l : Log). IsQuietApart u (known_at u l.known) x)
    (sym c.over-gathering.ensures) (c.requires.quiet
    (not_void (known_at u c.args.log.known) c.requires.rows.proper
    (λ h. (let z : false ≡ true = sym c.if-begun.false ∙ c.is_void-begun.ensures.1 h in cc))) x e))

pub returns-clause-best : goal.returns-clause-best
returns-clause-best g c =
    let u = c.args.uni.now in
    subst (λ (l : Log). IsBestFrom (setting_of u) (known_at u l.known) c.args.height
    (known_at u c.run.new.gathering.log.known)) c.over-gathering.ensures
    c.in_ok-closed.ensures.best

pub returns-clause-longer : goal.returns-clause-longer
returns-clause-longer g c =
    let u = c.args.uni.now in
    let w = c.in_ok-closed.ensures.come in
    let e = c.over-gathering.ensures in
    let last = c.run.new.gathering in
    let rows = subst (λ (l : Log). HasRows u l.known) (sym e) c.requires.rows in
    said_longer u (c.args.height * 8192) c.in_ok-closed.closed c.args.log last.log
    (λ said v. c.in_ok-closed.ensures.closed said)
    (subst (λ (l : Log). IsLonger u (c.args.height * 8192) l last.log) e
    (longer_slack u (w.0 * 8192) (c.args.height * 8192) c.over-gathering.result.log last.log
    (let l = w.1 in omega (arith, l))
    (come_longer u c.over-gathering.result rows w.0 last w.2)))

pub returns-clause-rounds : goal.returns-clause-rounds
returns-clause-rounds g c =
    let u = c.args.uni.now in
    let w = c.in_ok-closed.ensures.come in
    let e = c.over-gathering.ensures in
    let last = c.run.new.gathering in
    let rows = subst (λ (l : Log). HasRows u l.known) (sym e) c.requires.rows in
    said_rounds u c.args.height c.in_ok-closed.closed c.args.log last.log
    (subst (λ (l : Log). HasRounds u c.args.height l last.log) e
    (rounds_slack u w.0 c.args.height c.over-gathering.result.log last.log w.1
    (come_rounds u c.over-gathering.result rows w.0 last w.2)))
