use Rattle.std.proofs.lemmas.Result.{err_from_is_err_and}
use Rattle.cert_bytes.specs.Pieces.{cursor_of}
use Rattle.cert_bytes.proofs.Calls.{told_behind}
use Rattle.cert_bytes.proofs.Behind.{tag_err, bnd_err, abs_err, rel_err, fix_err, nzr_err}
use Rattle.cert_bytes.proofs.claims.FactField.read.Goals as goal

pub returns-in_err-read-clause-gives : goal.returns-in_err-read-clause-gives
returns-in_err-read-clause-gives g c = λ all h.
    let p = err_from_is_err_and c.from_residual.result c.from_residual.ensures.1 in
    rw (p.1, p.2)
    (λ f q. tag_err (cursor_of all c.args.source.now) f (c.in_err-read.ensures.gives all h f q))

pub returns-in_err-parts-in-1-clause-gives : goal.returns-in_err-parts-in-1-clause-gives
returns-in_err-parts-in-1-clause-gives g c = λ all h.
    let p = err_from_is_err_and c.from_residual-in_err-parts-in-1.result
    c.from_residual-in_err-parts-in-1.ensures.1 in
    let known = told_behind c.in_ok-read.ensures.only_reads c.in_ok-read.ensures.reads_on h in
    rw (p.1, p.2) (λ f q. bnd_err (cursor_of all c.args.source.now)
    (cursor_of all c.read.new.source) c.in_ok-read.field-0 f c.in-1.is
    (c.in_ok-read.ensures.gives all h) (c.in_err-parts-in-1.ensures.gives all known f q))

pub returns-in_err-parts-in-2-clause-gives : goal.returns-in_err-parts-in-2-clause-gives
returns-in_err-parts-in-2-clause-gives g c = λ all h.
    let p = err_from_is_err_and c.from_residual-in_err-parts-in-2.result
    c.from_residual-in_err-parts-in-2.ensures.1 in
    let known = told_behind c.in_ok-read.ensures.only_reads c.in_ok-read.ensures.reads_on h in
    rw (p.1, p.2) (λ f q. abs_err (cursor_of all c.args.source.now)
    (cursor_of all c.read.new.source) c.in_ok-read.field-0 f c.in-2.is
    (c.in_ok-read.ensures.gives all h) (c.in_err-parts-in-2.ensures.gives all known f q))

pub returns-in_err-parts-in-3-clause-gives : goal.returns-in_err-parts-in-3-clause-gives
returns-in_err-parts-in-3-clause-gives g c = λ all h.
    let p = err_from_is_err_and c.from_residual-in_err-parts-in-3.result
    c.from_residual-in_err-parts-in-3.ensures.1 in
    let known = told_behind c.in_ok-read.ensures.only_reads c.in_ok-read.ensures.reads_on h in
    rw (p.1, p.2) (λ f q. rel_err (cursor_of all c.args.source.now)
    (cursor_of all c.read.new.source) c.in_ok-read.field-0 f c.in-3.is
    (c.in_ok-read.ensures.gives all h) (c.in_err-parts-in-3.ensures.gives all known f q))

pub returns-in_err-parts-in-4-clause-gives : goal.returns-in_err-parts-in-4-clause-gives
returns-in_err-parts-in-4-clause-gives g c = λ all h.
    let p = err_from_is_err_and c.from_residual-in_err-parts-in-4.result
    c.from_residual-in_err-parts-in-4.ensures.1 in
    let known = told_behind c.in_ok-read.ensures.only_reads c.in_ok-read.ensures.reads_on h in
    rw (p.1, p.2) (λ f q. fix_err (cursor_of all c.args.source.now)
    (cursor_of all c.read.new.source) c.in_ok-read.field-0 f c.in-4.is
    (c.in_ok-read.ensures.gives all h) (c.in_err-parts-in-4.ensures.gives all known f q))

pub returns-in_err-read-in-5-clause-gives : goal.returns-in_err-read-in-5-clause-gives
returns-in_err-read-in-5-clause-gives g c = λ all h.
    let p = err_from_is_err_and c.from_residual-in_err-read-in-5.result
    c.from_residual-in_err-read-in-5.ensures.1 in
    let known = told_behind c.in_ok-read.ensures.only_reads c.in_ok-read.ensures.reads_on h in
    rw (p.1, p.2) (λ f q. nzr_err (cursor_of all c.args.source.now)
    (cursor_of all c.read.new.source) c.in_ok-read.field-0 f c.in-5.is
    (c.in_ok-read.ensures.gives all h) (c.in_err-read-in-5.ensures.gives all known f q))
