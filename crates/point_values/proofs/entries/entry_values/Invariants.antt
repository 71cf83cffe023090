use Rattle.std.proofs.Common.{◌≡◌, ◌+◌, ◌++◌, length, map}
use Rattle.std.specs.List.{AllByRecursion}
use Rattle.exact_fractions.specs.Exact.{value_of}
use Rattle.point_values.specs.Rows.{IsRow, row_value}
use Rattle.point_values.specs.Numbers.{entry_numbers, wide_from}
use Rattle.point_values.specs.declared.place.Place.TheVariants as place
use Rattle.point_values.proofs.entries.entry_values.Given as goal

abbrev pub invariant-loop-rest : goal.invariant-loop-rest
invariant-loop-rest l = record {
  rows : AllByRecursion IsRow l.rest;
  count : l.number + length l.rest ≡ length l.fn.rows;
  values : map value_of l.values.items ++ map row_value l.rest ≡ map row_value l.fn.rows;
  narrow : wide_from place.Entry entry_numbers l.number l.rest
      ≡ wide_from place.Entry entry_numbers 0 l.fn.rows;
}

abbrev pub decreases-loop-rest : goal.decreases-loop-rest
decreases-loop-rest l = length l.rest
