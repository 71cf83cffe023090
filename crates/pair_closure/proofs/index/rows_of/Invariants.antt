use Rattle.std.specs.Prelude.{◌≡◌, map, take, vec_len}
use Rattle.pair_closure.specs.Rows.{IsIndexed}
use Rattle.pair_closure.proofs.index.rows_of.Given as goal

abbrev pub invariant-loop-i : goal.invariant-loop-i
invariant-loop-i l =
    (vec_len l.rows ≡ l.fn.n) × IsIndexed (take l.i l.pairs) (map (λ row. row.items) l.rows.items)
