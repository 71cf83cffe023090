use Rattle.std.proofs.Common.{◌≡◌, length}
use Rattle.std.specs.Prelude.{All}
use Rattle.std.specs.List.{AllByRecursion}
use Rattle.script_words.specs.Lex.{IsWithin}
use Rattle.point_text.specs.Points.{IsSetRow}
use Rattle.point_text.specs.Gathered.{Gathered}
use Rattle.point_text.proofs.reading.rows_of.Given as goal

abbrev pub invariant-loop-rest : goal.invariant-loop-rest
invariant-loop-rest l = record {
  count : length l.rows.items ≡ length l.script.variables;
  normal : AllByRecursion IsSetRow l.rows.items;
  within : All (IsWithin l.text) l.rest;
  gathered : Gathered l.script.variables l.text l.tokens l.rest l.rows.items;
}

abbrev pub decreases-loop-rest : goal.decreases-loop-rest
decreases-loop-rest l = length l.rest
