use Rattle.std.proofs.lemmas.Result.{err_from_is_err_and}
use Rattle.cert_bytes.proofs.Fronts.{front_then}
use Rattle.cert_bytes.proofs.writing.put_points.Goals as goal

pub returns-in_err-put_point-clause-err : goal.returns-in_err-put_point-clause-err
returns-in_err-put_point-clause-err c =
    let p = err_from_is_err_and c.from_residual.result c.from_residual.ensures.1 in
    rw p.1 (front_then c.args.out.now.items _ c.loop-i.out.items c.put_point.new.out.items
    c.loop-i.invariant c.in_err-put_point.ensures.err)
