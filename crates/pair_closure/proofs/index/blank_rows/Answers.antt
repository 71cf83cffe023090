use Rattle.pair_closure.proofs.RowsPut.{blank_indexed}
use Rattle.pair_closure.proofs.index.blank_rows.Goals as goal

pub returns-clause-blank : goal.returns-clause-blank
returns-clause-blank c = blank_indexed (λ row. row.items) c.loop.rows.items c.loop.invariant.1
