use Rattle.std.proofs.Common.{IfOk}
use Rattle.settler.specs.Answers.{ComesTo, options_from}
use Rattle.settler.specs.Held.{ProvedHolds}
use Rattle.settler.proofs.Jobs.{on_new, on_old}
use Rattle.script_answers.specs.Answers.{IsFound}
use Rattle.script_answers.proofs.found.prove_job_alone.Goals as goal

pub found_of-requires-clause-comes : goal.found_of-requires-clause-comes
found_of-requires-clause-comes c =
    on_new c.args.job.now c.answer_alone.new.self c.in_ok-outcome.ensures.same
    (λ s o. ComesTo s (options_from o) c.in_ok-outcome.outcome) c.in_ok-outcome.ensures.comes

pub found_of-requires-clause-holds : goal.found_of-requires-clause-holds
found_of-requires-clause-holds c =
    on_new c.args.job.now c.answer_alone.new.self c.in_ok-outcome.ensures.same
    (λ s o. ProvedHolds s (options_from o)) c.in_ok-outcome.ensures.holds

pub returns-clause-found : goal.returns-clause-found
returns-clause-found c =
    on_old c.args.job.now c.answer_alone.new.self c.in_ok-outcome.ensures.same
    (λ s o. IfOk c.found_of.result (IsFound (options_from o) s)) c.found_of.ensures
