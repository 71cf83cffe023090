use Rattle.std.proofs.Common.{◌≡◌, ◌*◌, IsTrue, refl, sym, subst, arith}
use Rattle.fx_model.specs.declared.ExprId.{ExprId}
use Rattle.derivation.specs.Rounds.{IsBestFrom}
use Rattle.derivation.proofs.Begun.{child_table}
use Rattle.saturate.specs.Universes.{setting_of}
use Rattle.box_trace.specs.declared.log.Log.{Log}
use Rattle.box_trace.specs.Logs.{IsQuietApart, IsLonger}
use Rattle.box_trace.proofs.Said.{some_is, quiet_child}
use Rattle.box_trace.specs.Tables.{known_at}
use Rattle.box_trace.proofs.Steps.{steps_below}
use Rattle.box_trace.specs.Rounds.{IsStepIn, HasRounds}
use Rattle.box_trace.proofs.Added.{by_rounds}
use Rattle.box_trace.proofs.tracing.trace_child.Goals as goal

pub rounds-requires-clause-quiet : goal.rounds-requires-clause-quiet
rounds-requires-clause-quiet c = λ v x e.
    let u = c.args.uni.now in
    let told = some_is (λ y. (y ≡ c.args.piece.0) × IsTrue c.args.parent.now.closed)
    c.changed_below-changed.result x e c.changed_below-changed.ensures in
    let P : ExprId → Type 0 = λ y. IsQuietApart u (known_at u c.in_ok-log.log.known) y in
    let w = c.in_ok-log.ensures.improves in
    subst P (sym told.0) (
      c.requires.variable,
      quiet_child (setting_of u) c.args.piece.0
          c.args.piece.1 (known_at u c.args.parent.now) (known_at u c.in_ok-log.log.known) w.0
          (c.requires.rows.marked told.1) w.1 v,
    )

-- ---- by a sweep
pub swept-requires-clause-quiet : goal.swept-requires-clause-quiet
swept-requires-clause-quiet c = λ v.
    let u = c.args.uni.now in
    let w = c.in_ok-begun.ensures.improves in (
      c.requires.variable,
      quiet_child (setting_of u) c.args.piece.0 c.args.piece.1
          (known_at u c.args.parent.now) (known_at u c.in_ok-begun.begun.known) w.0
          (c.requires.rows.marked c.if-parent.true) w.1 v,
    )

pub returns-in-Some-clause-table : goal.returns-in-Some-clause-table
returns-in-Some-clause-table c = λ above b.
    let u = c.args.uni.now in
    let at = known_at u c.args.parent.now in
    let start = known_at u c.in_ok-begun.begun.known in
    child_table (setting_of u) c.args.height above (c.args.piece.0, c.args.piece.1) at at
    start c.in_ok-begun.ensures.improves.0 b
    (λ s. refl) c.in_ok-begun.ensures.improves.1
    (c.rules_are_lawful.ensures u.nodes u.hints) c.laws.ensures.universe.closed
    (known_at u c.in-Some.last.known)
    (some_is (λ (l : Log). IsBestFrom (setting_of u) start c.args.height (known_at u l.known))
    c.in_ok-by_sweep.by_sweep c.in-Some.last c.in-Some.is c.in_ok-by_sweep.ensures.best)

pub returns-in-Some-clause-rows : goal.returns-in-Some-clause-rows
returns-in-Some-clause-rows c =
    let u = c.args.uni.now in
    (some_is (IsLonger u (c.args.height * 8192) c.in_ok-begun.begun) c.in_ok-by_sweep.by_sweep
    c.in-Some.last c.in-Some.is c.in_ok-by_sweep.ensures.longer).rows

pub returns-in-Some-clause-steps : goal.returns-in-Some-clause-steps
returns-in-Some-clause-steps c =
    let u = c.args.uni.now in
    steps_below u c.args.first 1 _ c.in_ok-begun.begun c.in-Some.last
    (some_is (IsLonger u (c.args.height * 8192) c.in_ok-begun.begun) c.in_ok-by_sweep.by_sweep
    c.in-Some.last c.in-Some.is c.in_ok-by_sweep.ensures.longer)
    (c.args.piece.0, c.args.piece.1) c.args.parent.now c.in_ok-begun.ensures.begins

pub returns-in-Some-clause-few : goal.returns-in-Some-clause-few
returns-in-Some-clause-few c =
    let u = c.args.uni.now in
    let few = (some_is (IsLonger u (c.args.height * 8192) c.in_ok-begun.begun)
    c.in_ok-by_sweep.by_sweep c.in-Some.last c.in-Some.is c.in_ok-by_sweep.ensures.longer).few in
    let begun = c.in_ok-begun.ensures.begins.few in
    omega (arith, few, begun)

pub returns-in-Some-clause-rounds : goal.returns-in-Some-clause-rounds
returns-in-Some-clause-rounds c =
    let u = c.args.uni.now in
    by_rounds u (IsStepIn u c.args.parent.now) 1 c.args.height c.args.first c.in_ok-begun.begun
    c.in-Some.last c.in_ok-begun.ensures.begins.first_is c.in_ok-begun.ensures.gives
    (some_is (HasRounds u c.args.height c.in_ok-begun.begun) c.in_ok-by_sweep.by_sweep
    c.in-Some.last c.in-Some.is c.in_ok-by_sweep.ensures.rounds)

-- ---- by rounds
pub returns-clause-table : goal.returns-clause-table
returns-clause-table c = λ above b.
    let u = c.args.uni.now in
    let at = known_at u c.args.parent.now in
    child_table (setting_of u) c.args.height above (c.args.piece.0, c.args.piece.1) at at
    (known_at u c.in_ok-log.log.known) c.in_ok-log.ensures.improves.0 b
    (λ s. refl) c.in_ok-log.ensures.improves.1
    (c.rules_are_lawful.ensures u.nodes u.hints) c.laws.ensures.universe.closed
    (known_at u c.in_ok-done.done.known) c.in_ok-done.ensures.best

pub returns-clause-steps : goal.returns-clause-steps
returns-clause-steps c =
    steps_below c.args.uni.now c.args.first 1 _ c.in_ok-log.log
    c.in_ok-done.done c.in_ok-done.ensures.longer
    (c.args.piece.0, c.args.piece.1) c.args.parent.now c.in_ok-log.ensures.begins

pub returns-clause-rounds : goal.returns-clause-rounds
returns-clause-rounds c =
    let u = c.args.uni.now in
    by_rounds u (IsStepIn u c.args.parent.now) 1 c.args.height c.args.first c.in_ok-log.log
    c.in_ok-done.done c.in_ok-log.ensures.begins.first_is c.in_ok-log.ensures.gives
    c.in_ok-done.ensures.rounds
