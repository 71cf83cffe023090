use Rattle.std.proofs.Common.{inl, inr}
use Rattle.derivation.specs.Known.{IsTableAt}
use Rattle.saturate.specs.Universes.{setting_of}
use Rattle.saturate.proofs.Answered.{ok_map}
use Rattle.box_trace.specs.Tables.{known_at}
use Rattle.box_trace.proofs.Answered.{ok_both}
use Rattle.box_trace.proofs.Given.{child_box, root_box}
use Rattle.box_trace.proofs.Steps.{own_root_steps, own_steps_below, own_rounds, own_rounds_below}
use Rattle.box_trace.proofs.tracing.log_at.Goals as goal
use Rattle.box_trace.proofs.tracing.log_at.Goals.{in_default-via-in-Some+in_default}
use Rattle.box_trace.proofs.tracing.log_at.Goals.{in_default-via-in_default}

pub returns-in-Some-Some-clause-table : goal.returns-in-Some-Some-clause-table
returns-in-Some-Some-clause-table c =
    ok_both c.trace_child.result c.trace_child.ensures.table c.trace_child.ensures.rows
    (λ l known rows. record {
      best = child_box c.args.uni.now c.args.height c.args.piece c.args.parent (λ pieces.
          IsTableAt (setting_of c.args.uni.now) c.args.height pieces
          (known_at c.args.uni.now l.known)) c.in-Some-Some.piece c.in-Some-Some.parent
          c.in-Some-Some.is-0 c.in-Some-Some.is-1 known;
      rows = rows;
    })

pub returns-in-Some-Some-clause-steps : goal.returns-in-Some-Some-clause-steps
returns-in-Some-Some-clause-steps c =
    ok_map c.trace_child.result c.trace_child.ensures.steps
    (λ l steps. own_steps_below c.args.uni.now c.args.first l c.args.piece c.args.parent
    c.in-Some-Some.piece c.in-Some-Some.parent c.in-Some-Some.is-0 c.in-Some-Some.is-1 steps)

pub returns-in_default-clause-table : goal.returns-in_default-clause-table
returns-in_default-clause-table c =
    ok_both c.trace_root.result c.trace_root.ensures.table c.trace_root.ensures.rows
    (λ l known rows. record {
      best = root_box c.args.uni.now c.args.height c.args.piece c.args.parent (λ pieces.
          IsTableAt (setting_of c.args.uni.now) c.args.height pieces
          (known_at c.args.uni.now l.known))
          (elim c.in_default.branch [
            | in_default-via-in-Some+in_default w ↦ inr w.in_default.is-1
            | in_default-via-in_default w ↦ inl w.in_default.is-0
          ]) known;
      rows = rows;
    })

pub returns-in_default-clause-steps : goal.returns-in_default-clause-steps
returns-in_default-clause-steps c =
    ok_map c.trace_root.result c.trace_root.ensures.steps
    (λ l steps. own_root_steps c.args.uni.now c.args.first l c.args.piece c.args.parent
    (elim c.in_default.branch [
      | in_default-via-in-Some+in_default w ↦ inr w.in_default.is-1
      | in_default-via-in_default w ↦ inl w.in_default.is-0
    ]) steps)

pub returns-in-Some-Some-clause-rounds : goal.returns-in-Some-Some-clause-rounds
returns-in-Some-Some-clause-rounds c =
    ok_map c.trace_child.result c.trace_child.ensures.rounds
    (λ l rounds. own_rounds_below c.args.uni.now c.args.height c.args.first l.steps.items
    c.args.parent c.in-Some-Some.parent c.in-Some-Some.is-1 rounds)

pub returns-in_default-clause-rounds : goal.returns-in_default-clause-rounds
returns-in_default-clause-rounds c =
    ok_map c.trace_root.result c.trace_root.ensures.rounds
    (λ l rounds. own_rounds c.args.uni.now c.args.height c.args.first l.steps.items c.args.piece
    c.args.parent
    (elim c.in_default.branch [
      | in_default-via-in-Some+in_default w ↦ inr w.in_default.is-1
      | in_default-via-in_default w ↦ inl w.in_default.is-0
    ]) c.requires.given rounds)
