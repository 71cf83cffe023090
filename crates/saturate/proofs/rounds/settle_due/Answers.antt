use Rattle.std.proofs.Common.{◌≡◌, None, true, IsTrue, rules, arith, ap, sym, subst, count_by}
use Rattle.std.proofs.Common.{length, ◌∙◌}
use Rattle.std.proofs.lemmas.List.Sums.{count_by-le-length}
use Rattle.facts.specs.declared.fact.Slot.TheVariants as slot
use Rattle.derivation.specs.Rounds.{IsBestFrom}
use Rattle.derivation.specs.Changes.{IsQuiet}
use Rattle.saturate.specs.declared.kept.Table.{Table}
use Rattle.saturate.specs.declared.work.Work.{Work}
use Rattle.saturate.specs.Tables.{fact_at}
use Rattle.saturate.specs.Universes.{setting_by}
use Rattle.saturate.specs.Closed.{IsClosedUnder}
use Rattle.saturate.proofs.Closed.{said_at}
use Rattle.saturate.proofs.Working.{said_unless}
use Rattle.saturate.proofs.rounds.settle_due.Goals as goal

pub rounds_due-requires-clause-due : goal.rounds_due-requires-clause-due
rounds_due-requires-clause-due g c =
    ap (λ (w : Work). length w.due.items) c.sweep_from.ensures.work ∙ c.requires.due

pub rounds_due-requires-clause-quiet : goal.rounds_due-requires-clause-quiet
rounds_due-requires-clause-quiet g c =
    let s = setting_by g.C.Concludes.rules c.args.uni.now in
    subst (λ (w : Work). IsQuiet s w.due.items (fact_at c.args.start))
    (sym c.sweep_from.ensures.work) c.requires.quiet

-- the sweep has the steps that the first round leaves
pub returns-then-not-is_best-clause-cost : goal.returns-then-not-is_best-clause-cost
returns-then-not-is_best-clause-cost g c = λ best b.
    let due = c.args.area.now.work.due in
    let first = ap (count_by (λ b. b)) c.deref.ensures.value in
    let all = count_by-le-length (λ b. b) due.items in
    let rounds = c.rounds_due.ensures.cost best b in
    let same = ap (λ (w : Work). count_by (λ b. b) w.due.items) c.sweep_from.ensures.work in
    omega (
      arith,
      rounds,
      c.sweep_from.ensures.cost,
      c.count_due.ensures,
      same,
      first,
      all,
      c.requires.due,
      c.len.ensures,
      due.ok.0,
    )

pub returns-clause-best : goal.returns-clause-best
returns-clause-best g c =
    let s = setting_by g.C.Concludes.rules c.args.uni.now in
    let t = c.swap.new.y in
    let best : IsTrue c.in_ok-is_best.is_best = search rules in
    subst (IsBestFrom s (fact_at c.args.start) c.args.height) (said_at t true)
    (subst (λ (x : Table). IsBestFrom s (fact_at c.args.start) c.args.height (fact_at x))
    (sym c.swap.ensures.y_after) (c.in_ok-is_best.ensures.best best))

pub returns-clause-marked : goal.returns-clause-marked
returns-clause-marked g c =
    let s = setting_by g.C.Concludes.rules c.args.uni.now in
    let best : IsTrue c.in_ok-is_best.is_best = search rules in
    said_unless s c.swap.new.y true
    (λ said. subst (λ (x : Table). fact_at x slot.Void ≡ None → IsClosedUnder s (fact_at x))
    (sym c.swap.ensures.y_after) (c.in_ok-is_best.ensures.closed best))
