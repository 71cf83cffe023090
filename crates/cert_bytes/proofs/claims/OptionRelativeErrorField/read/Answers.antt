use Rattle.std.proofs.lemmas.Result.{err_from_is_err_and}
use Rattle.cert_bytes.specs.Pieces.{cursor_of}
use Rattle.cert_bytes.proofs.Calls.{told_behind}
use Rattle.cert_bytes.proofs.Behind.{error_err}
use Rattle.cert_bytes.proofs.claims.OptionRelativeErrorField.read.Goals as goal

pub returns-in_err-read-in-0-clause-gives : goal.returns-in_err-read-in-0-clause-gives
returns-in_err-read-in-0-clause-gives g c = λ all h.
    let p = err_from_is_err_and c.from_residual-in_err-read-in-0.result
    c.from_residual-in_err-read-in-0.ensures.1 in
    let known = told_behind c.in_ok-read.ensures.only_reads c.in_ok-read.ensures.reads_on h in
    rw (p.1, p.2) (λ f q. error_err (cursor_of all c.args.source.now)
    (cursor_of all c.read.new.source) c.in_ok-read.field-0 f c.in-0.is
    (c.in_ok-read.ensures.gives all h) (c.in_err-read-in-0.ensures.gives all known f q))
