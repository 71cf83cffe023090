use Rattle.std.specs.Prelude.{◌^◌, ◌*◌}
use Rattle.std.proofs.Common.{◌≡◌, ◌<◌, ◌+◌, Some, None, true, false, IsTrue, refl, length, subst}
use Rattle.std.proofs.Common.{sym, ◌∙◌, arith, rules}
use Rattle.facts.specs.declared.fact.Slot.TheVariants as slot
use Rattle.derivation.specs.Rounds.{IsBestFrom}
use Rattle.saturate.specs.Closed.{IsQuietBut}
use Rattle.saturate.specs.Universes.{setting_of}
use Rattle.box_trace.specs.declared.log.Log.{Log}
use Rattle.box_trace.specs.Tables.{known_at, HasRows}
use Rattle.box_trace.specs.Logs.{IsLonger}
use Rattle.box_trace.specs.Rounds.{HasRounds}
use Rattle.box_trace.proofs.Came.{not_void}
use Rattle.box_trace.proofs.Said.{said_longer, said_rounds}
use Rattle.box_trace.proofs.Sweeps.{swept_longer, swept_rounds}
use Rattle.box_trace.proofs.swept.swept_blank.Goals as goal

pub sweep_below-requires-clause-fits : goal.sweep_below-requires-clause-fits
sweep_below-requires-clause-fits g c =
    let u = c.args.uni.now in
    let room = c.over-sweeping.result.room in
    subst (λ (l : Log). HasRows u l.known
    × (4 * (l.first + length l.steps.items) + room < 4 * 2 ^ 64))
    (sym c.over-sweeping.ensures.log) (
      c.requires.rows,
      omega (arith, c.requires.room, c.over-sweeping.ensures.room, c.if-height-eq0.false),
    )

pub sweep_below-requires-clause-no_void : goal.sweep_below-requires-clause-no_void
sweep_below-requires-clause-no_void g c =
    subst (λ (l : Log). known_at c.args.uni.now l.known slot.Void ≡ None)
    (sym c.over-sweeping.ensures.log)
    (not_void (known_at c.args.uni.now c.args.log.known) c.requires.rows.proper
    (λ h. (let z : false ≡ true = sym c.if-begun.false ∙ c.is_void-begun.ensures.1 h in cc)))

pub sweep_below-requires-clause-placed : goal.sweep_below-requires-clause-placed
sweep_below-requires-clause-placed g c = (
  (c.requires.quiet (not_void (known_at c.args.uni.now c.args.log.known) c.requires.rows.proper
      (λ h. (let z : false ≡ true = sym c.if-begun.false ∙ c.is_void-begun.ensures.1 h in cc)))).0,
  refl,
)

pub sweep_below-requires-clause-quiet : goal.sweep_below-requires-clause-quiet
sweep_below-requires-clause-quiet g c =
    let u = c.args.uni.now in
    subst (λ (l : Log). IsQuietBut (setting_of u) (Some (slot.Bnd c.args.x)) (known_at u l.known))
    (sym c.over-sweeping.ensures.log)
    (c.requires.quiet (not_void (known_at u c.args.log.known) c.requires.rows.proper
    (λ h. (let z : false ≡ true = sym c.if-begun.false ∙ c.is_void-begun.ensures.1 h in cc)))).1

pub returns-clause-best : goal.returns-clause-best
returns-clause-best g c =
    let u = c.args.uni.now in
    let best : IsTrue c.in_ok-best.best = search rules in
    subst (λ (l : Log). IsBestFrom (setting_of u) (known_at u l.known) c.args.height
    (known_at u c.sweep_below.new.kept.log.known)) c.over-sweeping.ensures.log
    (c.in_ok-best.ensures.best best)

pub returns-clause-longer : goal.returns-clause-longer
returns-clause-longer g c =
    let u = c.args.uni.now in
    let best : IsTrue c.in_ok-best.best = search rules in
    let first = c.over-sweeping.result in
    let last = c.sweep_below.new.kept in
    said_longer u (c.args.height * 8192) true c.args.log last.log
    (λ said v. c.in_ok-best.ensures.closed best v)
    (subst (λ (l : Log). IsLonger u (c.args.height * 8192) l last.log) c.over-sweeping.ensures.log
    (swept_longer u c.args.height first last (omega (arith, c.if-height-eq0.false))
    (omega (arith, c.over-sweeping.ensures.room)) c.in_ok-best.ensures.fits.0
    c.in_ok-best.ensures.came))

pub returns-clause-rounds : goal.returns-clause-rounds
returns-clause-rounds g c =
    let u = c.args.uni.now in
    let first = c.over-sweeping.result in
    let last = c.sweep_below.new.kept in
    said_rounds u c.args.height true c.args.log last.log
    (subst (λ (l : Log). HasRounds u c.args.height l last.log) c.over-sweeping.ensures.log
    (swept_rounds u c.args.height first last (omega (arith, c.if-height-eq0.false))
    (omega (arith, c.over-sweeping.ensures.room)) c.in_ok-best.ensures.came))
