use Rattle.std.proofs.Common.{◌≡◌, length}
use Rattle.std.specs.List.{AllByRecursion}
use Rattle.point_text.specs.Points.{IsSetRow}
use Rattle.point_text.specs.Gathered.{IsUnset}
use Rattle.point_text.proofs.reading.no_rows.Given as goal

abbrev pub invariant-loop : goal.invariant-loop
invariant-loop l = record {
  count : length l.rows.items ≡ l.counter;
  unset : AllByRecursion IsUnset l.rows.items;
  normal : AllByRecursion IsSetRow l.rows.items;
}
