use Rattle.std.proofs.Common.{Some, arith, sym, ap, ◌∙◌}
use Rattle.std.proofs.lemmas.Option.{slice_get-get_or}
use Rattle.pair_closure.proofs.RowsPut.{put_row}
use Rattle.pair_closure.proofs.index.put.Goals as goal

pub returns-clause-put : goal.returns-clause-put
returns-clause-put c pairs k =
    put_row (λ row. row.items) c.args.rows.now.items pairs c.args.a c.args.b
    c.index_mut.result.now c.push.new.self
    (slice_get-get_or c.args.rows.now.items c.args.a.0 c.index_mut.result.now
    (omega (arith, c.requires, c.args.rows.now.ok.0)) ∙ ap Some (sym c.index_mut.ensures.value))
    c.in_ok-push.ensures.items k
