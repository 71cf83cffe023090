use Rattle.std.proofs.Common.{Err, IfOk, ap, subst}
use Rattle.proof_options.specs.declared.options.Options.{Options}
use Rattle.script_grammar.specs.Spells.{View}
use Rattle.settler.specs.Answers.{options_from}
use Rattle.script_answers.specs.Answers.{ProvePrints}
use Rattle.script_answers.proofs.answers.script_answer.Goals as goal

pub job_answer-requires : goal.job_answer-requires
job_answer-requires c = c.in-Ok.ensures.job

pub unbuilt_line-requires : goal.unbuilt_line-requires
unbuilt_line-requires c = λ e. c.in-Err.ensures.many (ap Err e)

pub returns-in-Ok : goal.returns-in-Ok
returns-in-Ok c =
    subst (λ (v : View). IfOk c.job_answer.result
    (λ r. ProvePrints (options_from c.args.options) v.text r.0 r.1.items)) c.in-Ok.ensures.script
    (subst (λ (o : Options). IfOk c.job_answer.result
    (λ r. ProvePrints (options_from o) c.in-Ok.job.script.now.text r.0 r.1.items))
    c.in-Ok.ensures.options c.job_answer.ensures)

pub returns-in_ok-unbuilt_line-in-Err : goal.returns-in_ok-unbuilt_line-in-Err
returns-in_ok-unbuilt_line-in-Err c =
    c.in_ok-unbuilt_line-in-Err.ensures (options_from c.args.options)
