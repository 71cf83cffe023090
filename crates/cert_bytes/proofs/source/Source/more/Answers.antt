use Rattle.cert_bytes.proofs.Calls.{told_behind}
use Rattle.cert_bytes.proofs.Told.{agrees_for}
use Rattle.cert_bytes.proofs.Rows.{more_is}
use Rattle.cert_bytes.proofs.source.Source.more.Goals as goal

pub returns-clause-gives : goal.returns-clause-gives
returns-clause-gives g c = λ all h.
    let r = c.in_ok-ready.ensures in
    let agrees = agrees_for _ c.ready.new.self r.reads_on.agrees all
    (told_behind r.only_reads r.reads_on h) in
    more_is all c.args.self.now c.ready.new.self c.in_ok-ready.field-0 r.at r.reads_on.kept agrees
    r.ready (r.end all h)
