use Rattle.std.proofs.Common.{◌≡◌, ◌+◌, length}
use Rattle.std.specs.Prelude.{map, ◌++◌, Some}
use Rattle.std.specs.List.{AllByRecursion}
use Rattle.point_values.specs.Rows.{IsRow}
use Rattle.point_text.specs.Points.{IsSetRow}
use Rattle.point_text.proofs.reading.all_rows.Given as goal

abbrev pub invariant-loop-rest : goal.invariant-loop-rest
invariant-loop-rest l = record {
  count : length l.all.items + length l.rest ≡ length l.fn.rows;
  all : l.fn.rows ≡ map (λ r. Some r) l.all.items ++ l.rest;
  normal : AllByRecursion IsRow l.all.items;
  left : AllByRecursion IsSetRow l.rest;
}

abbrev pub decreases-loop-rest : goal.decreases-loop-rest
decreases-loop-rest l = length l.rest
