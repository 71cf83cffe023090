use Rattle.std.proofs.Common.{sym, subst, IsTrue, count_by}
use Rattle.derivation.specs.Rounds.{IsBestFrom}
use Rattle.derivation.specs.Changes.{IsQuiet}
use Rattle.saturate.specs.declared.kept.Table.{Table}
use Rattle.saturate.specs.Tables.{fact_at}
use Rattle.saturate.specs.Universes.{setting_by}
use Rattle.saturate.specs.Closed.{IsClosedUnder}
use Rattle.saturate.specs.Sweeping.{IsWithinFew}
use Rattle.saturate.proofs.Closed.{said_at}
use Rattle.saturate.proofs.Working.{said_marked}
use Rattle.saturate.proofs.rounds.rounds_due.Goals as goal

pub returns-clause-best : goal.returns-clause-best
returns-clause-best g c =
    let u = setting_by g.C.Concludes.rules c.args.uni.now in
    let h = c.args.height in
    let t = c.swap.new.y in
    subst (IsBestFrom u (fact_at c.args.start) h) (said_at t c.in_ok-closed.closed)
    (subst (λ (x : Table). IsBestFrom u (fact_at c.args.start) h (fact_at x))
    (sym c.swap.ensures.y_after)
    (subst (λ (x : Table). IsBestFrom u (fact_at x) h (fact_at c.rounds_in.new.kept.now))
    c.in_ok-start.ensures.0 c.in_ok-closed.ensures.best))

pub returns-clause-marked : goal.returns-clause-marked
returns-clause-marked g c =
    let u = setting_by g.C.Concludes.rules c.args.uni.now in
    said_marked u c.swap.new.y c.in_ok-closed.closed
    (subst (λ (x : Table). IsTrue c.in_ok-closed.closed → IsClosedUnder u (fact_at x))
    (sym c.swap.ensures.y_after) c.in_ok-closed.ensures.closed)

pub returns-clause-cost : goal.returns-clause-cost
returns-clause-cost g c =
    let u = setting_by g.C.Concludes.rules c.args.uni.now in
    let asked = g.C.Concludes.asked in
    subst (λ (x : Table). IsWithinFew u (fact_at x) c.args.height
    (count_by (λ b. b) c.args.area.now.work.due.items) (asked c.args.steps.now)
    (asked c.rounds_in.new.steps)) c.in_ok-start.ensures.0
    (c.rounds_in.ensures.cost (λ first last changed came v. came.risen))

pub returns-in_err-closed-clause-cost : goal.returns-in_err-closed-clause-cost
returns-in_err-closed-clause-cost g c =
    let u = setting_by g.C.Concludes.rules c.args.uni.now in
    let asked = g.C.Concludes.asked in
    subst (λ (x : Table). IsWithinFew u (fact_at x) c.args.height
    (count_by (λ b. b) c.args.area.now.work.due.items) (asked c.args.steps.now)
    (asked c.rounds_in.new.steps)) c.in_ok-start.ensures.0
    (c.rounds_in.ensures.cost (λ first last changed came v. came.risen))

pub rounds_in-requires-clause-quiet : goal.rounds_in-requires-clause-quiet
rounds_in-requires-clause-quiet g c =
    let u = setting_by g.C.Concludes.rules c.args.uni.now in
    subst (λ (t : Table). IsQuiet u c.args.area.now.work.due.items (fact_at t))
    (sym c.in_ok-start.ensures.0) c.requires.quiet
