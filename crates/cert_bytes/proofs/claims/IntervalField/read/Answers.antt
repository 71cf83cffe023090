use Rattle.std.proofs.lemmas.Result.{err_from_is_err_and}
use Rattle.cert_bytes.specs.Pieces.{cursor_of}
use Rattle.cert_bytes.proofs.Calls.{told_behind}
use Rattle.cert_bytes.proofs.Behind.{high_err}
use Rattle.cert_bytes.proofs.claims.IntervalField.read.Goals as goal

pub returns-in_err-high-clause-gives : goal.returns-in_err-high-clause-gives
returns-in_err-high-clause-gives g c = λ all h.
    let e = c.from_residual-in_err-high in
    let p = err_from_is_err_and e.result e.ensures.1 in
    let low = c.in_ok-low.ensures in
    let known = told_behind low.only_reads low.reads_on h in
    let old = cursor_of all c.args.source.now in
    rw (p.1, p.2) (λ f q. high_err old (cursor_of all c.read.new.source) c.in_ok-low.low f
    (low.gives all h) (c.in_err-high.ensures.gives all known f q))
