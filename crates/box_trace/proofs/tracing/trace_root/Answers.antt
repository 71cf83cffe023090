use Rattle.std.proofs.Common.{length, ◌+◌, None}
use Rattle.derivation.proofs.Begun.{root_table}
use Rattle.saturate.specs.Universes.{setting_of}
use Rattle.box_trace.specs.Tables.{known_at}
use Rattle.box_trace.proofs.Steps.{root_steps}
use Rattle.box_trace.specs.Rounds.{IsOfParent, most_given}
use Rattle.box_trace.proofs.Added.{by_rounds}
use Rattle.box_trace.proofs.tracing.trace_root.Goals as goal

pub returns-clause-table : goal.returns-clause-table
returns-clause-table c =
    let u = c.args.uni.now in
    root_table (setting_of u)
    (c.rules_are_lawful.ensures u.nodes u.hints) c.laws.ensures.universe.closed c.args.height
    (known_at u c.in_ok-log.log.known) (known_at u c.in_ok-done.done.known)
    c.in_ok-log.ensures.gathered c.in_ok-done.ensures.best

pub returns-clause-steps : goal.returns-clause-steps
returns-clause-steps c =
    let u = c.args.uni.now in
    root_steps u c.args.first (length u.hypotheses + length u.nodes) _ c.in_ok-log.log
    c.in_ok-done.done c.in_ok-done.ensures.longer c.in_ok-log.ensures.begins

pub returns-clause-rounds : goal.returns-clause-rounds
returns-clause-rounds c =
    let u = c.args.uni.now in
    by_rounds u (IsOfParent u None) (most_given u None) c.args.height c.args.first c.in_ok-log.log
    c.in_ok-done.done c.in_ok-log.ensures.begins.first_is c.in_ok-log.ensures.gives
    c.in_ok-done.ensures.rounds
