use Rattle.std.proofs.Common.{Err, List, ap, ◌∙◌, arith, subst, sym, ℕ}
use Rattle.proof_options.specs.Ranges.{AreAllowed}
use Rattle.script_grammar.specs.Spells.{View}
use Rattle.command_runs.specs.declared.status.Status.TheVariants as status
use Rattle.settler.specs.Answers.{options_from}
use Rattle.script_answers.specs.Answers.{ProvePrints, made_options}
use Rattle.script_answers.proofs.made.made_script_answer.Goals as goal

pub new-requires : goal.new-requires
new-requires g c = subst AreAllowed (sym c.made_options.ensures) (record {
  rounds = (omega arith, omega arith);
  depth = omega arith;
  boxes = (omega arith, omega arith);
  workers = (omega arith, omega arith);
})

pub made_job_answer-requires-clause-text : goal.made_job_answer-requires-clause-text
made_job_answer-requires-clause-text g c κs within =
    ap (λ (v : View). v.text) c.in-Ok.ensures.script ∙ c.requires

pub made_job_answer-requires-clause-options : goal.made_job_answer-requires-clause-options
made_job_answer-requires-clause-options g c κs within =
    ap options_from (c.in-Ok.ensures.options ∙ c.made_options.ensures)

pub unbuilt_line-requires : goal.unbuilt_line-requires
unbuilt_line-requires g c = λ e. c.in-Err.ensures.many (ap Err e)

pub returns-in_ok-line-in-Err : goal.returns-in_ok-line-in-Err
returns-in_ok-line-in-Err g c =
    subst (λ (text : List ℕ). ProvePrints made_options text status.Limit
    c.in_ok-line-in-Err.line.items) c.requires
    (c.in_ok-line-in-Err.ensures made_options)
