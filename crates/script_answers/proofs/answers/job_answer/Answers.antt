use Rattle.std.proofs.Common.{IfOk, subst, sym}
use Rattle.saturate.proofs.Answered.{ok_map}
use Rattle.script_grammar.specs.Spells.{View}
use Rattle.settler.specs.Answers.{Options, options_from}
use Rattle.script_answers.specs.Answers.{IsFound, ProvePrints}
use Rattle.script_answers.proofs.answers.job_answer.Goals as goal

pub returns : goal.returns
returns c =
    let o : Options = options_from c.args.job.now.options in
    let same = c.in_ok-found.ensures.same.script in
    subst (λ (v : View). IfOk c.lines_for.result (λ r. ProvePrints o v.text r.0 r.1.items)) same
    (ok_map c.lines_for.result c.lines_for.ensures
    (λ r prints. prints o (subst (λ (v : View). IsFound o v c.in_ok-found.found) (sym same)
    c.in_ok-found.ensures.found)))
