use Rattle.std.proofs.lemmas.Result.{err_from_is_err_and}
use Rattle.cert_bytes.specs.Pieces.{cursor_of}
use Rattle.cert_bytes.proofs.Calls.{told_behind}
use Rattle.cert_bytes.proofs.Rows.{step_err}
use Rattle.cert_bytes.proofs.section.StepRowField.read.Goals as goal

pub returns-in_err-with-clause-gives : goal.returns-in_err-with-clause-gives
returns-in_err-with-clause-gives g c = λ all h.
    let p = err_from_is_err_and c.from_residual-in_err-with.result
    c.from_residual-in_err-with.ensures.1 in
    let known = told_behind c.in_ok-rule.ensures.only_reads c.in_ok-rule.ensures.reads_on h in
    rw (p.1, p.2) (λ f q. step_err (cursor_of all c.args.source.now)
    (cursor_of all c.read.new.source) ((c.in_ok-rule.rule, c.in_ok-rule.arg), c.in_ok-rule.fact) f
    (c.in_ok-rule.ensures.gives all h) (c.in_err-with.ensures.gives all known f q))
