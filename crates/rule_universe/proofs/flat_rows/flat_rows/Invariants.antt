use Rattle.std.specs.Prelude.{◌≡◌, length, map, take}
use Rattle.rule_universe.specs.Flat.{rows_in}
use Rattle.rule_universe.proofs.Cuts.{IsFull}
use Rattle.rule_universe.proofs.flat_rows.flat_rows.Given as goal

abbrev pub invariant-loop-row : goal.invariant-loop-row
invariant-loop-row l = record {
  full : IsFull (length l.items.items) l.starts.items;
  rows : rows_in l.items.items l.starts.items ≡ map (λ row. row.items) (take l.row-index l.rows);
}
