use Rattle.std.proofs.Common.{◌≡◌, sym, ◌∙◌, ap, subst}
use Rattle.derivation.specs.Derivations.{IsClosed}
use Rattle.derivation.specs.Known.{IsTableAt}
use Rattle.rule_universe.specs.Worlds.{World}
use Rattle.saturate.specs.Tables.{fact_at}
use Rattle.saturate.specs.Universes.{setting_of}
use Rattle.saturate.specs.Closed.{IsMarked}
use Rattle.saturate.specs.Boxes.{table_of, state_of}
use Rattle.box_tree.specs.Plans.{pieces_at}
use Rattle.settler.specs.Decided.{goal_facts, state_with}
use Rattle.settler.proofs.Stands.{stands_as_decided}
use Rattle.settler.proofs.boxes.Boxes.verdict.Goals as goal

pub new-requires-clause-right : goal.new-requires-clause-right
new-requires-clause-right g c =
    subst (λ t. IsTableAt (setting_of g.F.Frame.universe) g.F.Frame.rounds
    (pieces_at g.F.Frame.plan c.args.path) (fact_at t)) (sym c.into_table.ensures) c.requires.table

pub new-requires-clause-marked : goal.new-requires-clause-marked
new-requires-clause-marked g c =
    subst (IsMarked (setting_of g.F.Frame.universe)) (sym c.into_table.ensures) c.requires.marked

pub returns-clause-state : goal.returns-clause-state
returns-clause-state g c =
    let v = g.F.Frame.universe in
    let at = fact_at (table_of c.args.settled) in
    let goals : c.goals.result.now ≡ v.goals =
    c.goals.ensures ∙ ap (λ (w : World). w.goals) c.self.invariant.0 in
    let closed =
    subst (λ (w : World). IsClosed w.instances) c.self.invariant.0 c.laws.ensures.universe.closed in
    c.in_ok-state.ensures
    ∙ (ap (λ gs. state_with (state_of c.args.settled) (goal_facts at gs)) goals
    ∙ stands_as_decided c.best_tables_exist.ensures.exist
    c.boxes_come_to_one_state.ensures c.settling_facts.ensures.stronger (setting_of v)
    (c.rules_are_lawful.ensures v.nodes v.hints) closed v.goals
    g.F.Frame.rounds (pieces_at g.F.Frame.plan c.args.path) at c.requires.table
    (state_of c.args.settled) c.requires.state)
