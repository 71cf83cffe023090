use Rattle.std.proofs.Common.{sym, subst, ◌∙◌, ap}
use Rattle.derivation.specs.Known.{IsTableAt}
use Rattle.derivation.specs.Settled.{IsState}
use Rattle.derivation.specs.Decided.{state_in}
use Rattle.saturate.specs.Tables.{fact_at}
use Rattle.saturate.specs.Universes.{setting_by}
use Rattle.saturate.specs.Closed.{IsMarked}
use Rattle.saturate.proofs.boxes.settle_counted.Goals as goal

pub returns-clause-table : goal.returns-clause-table
returns-clause-table g c = λ pieces b.
    subst (λ t. IsTableAt (setting_by g.C.Concludes.rules c.args.uni.now) c.args.rounds pieces
    (fact_at t)) (sym c.judge.ensures.table) (c.in_ok-table.ensures.table pieces b)

pub returns-clause-state : goal.returns-clause-state
returns-clause-state g c = λ pieces b.
    let u = setting_by g.C.Concludes.rules c.args.uni.now in
    let at = fact_at c.in_ok-table.table in
    subst (IsState u c.args.uni.now.goals c.args.rounds pieces)
    (sym (c.judge.ensures.state ∙ ap (state_in at) c.goals.ensures))
    (c.boxes_come_to_one_state.ensures.decided u c.args.uni.now.goals c.args.rounds pieces at
    (c.in_ok-table.ensures.table pieces b))

pub returns-clause-marked : goal.returns-clause-marked
returns-clause-marked g c =
    subst (IsMarked (setting_by g.C.Concludes.rules c.args.uni.now)) (sym c.judge.ensures.table)
    c.in_ok-table.ensures.marked
