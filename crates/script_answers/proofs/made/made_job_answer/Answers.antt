use Rattle.std.proofs.Common.{ap, ◌∙◌, subst, sym}
use Rattle.script_grammar.specs.Spells.{View}
use Rattle.settler.specs.Answers.{Options}
use Rattle.script_answers.specs.Answers.{IsFound, made_options}
use Rattle.script_answers.proofs.made.made_job_answer.Goals as goal

pub made_lines-requires-clause-text : goal.made_lines-requires-clause-text
made_lines-requires-clause-text g c =
    ap (λ (v : View). v.text) c.in_ok-found.ensures.same.script ∙ c.requires.text

pub made_lines-requires-clause-found : goal.made_lines-requires-clause-found
made_lines-requires-clause-found g c =
    subst (λ (v : View). IsFound made_options v c.in_ok-found.found)
    (sym c.in_ok-found.ensures.same.script)
    (subst (λ (o : Options). IsFound o c.args.job.now.script.now c.in_ok-found.found)
    c.requires.options c.in_ok-found.ensures.found)
