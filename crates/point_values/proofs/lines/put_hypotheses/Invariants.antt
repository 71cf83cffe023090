use Rattle.std.proofs.Common.{◌≡◌, ◌+◌, ◌++◌, length}
use Rattle.std.specs.Prelude.{All}
use Rattle.script_claims.specs.Facts.{HasNormalBounds}
use Rattle.point_values.specs.Known.{values_of}
use Rattle.point_values.specs.Numbers.{claim_numbers, wide_from}
use Rattle.point_values.specs.Text.{hypothesis_line, lines_from}
use Rattle.point_values.specs.declared.place.Place.TheVariants as place
use Rattle.point_values.proofs.lines.put_hypotheses.Given as goal

abbrev pub invariant-loop-rest : goal.invariant-loop-rest
invariant-loop-rest l = record {
  normal : All HasNormalBounds l.rest;
  count : l.number + length l.rest ≡ length l.fn.claims;
  lines : l.out.items ++ lines_from (hypothesis_line (values_of l.values)) l.number l.rest
      ≡ l.fn.out.items ++ lines_from (hypothesis_line (values_of l.values)) 0 l.fn.claims;
  narrow : wide_from place.Hypothesis (claim_numbers (values_of l.values)) l.number l.rest
      ≡ wide_from place.Hypothesis (claim_numbers (values_of l.values)) 0 l.fn.claims;
}

abbrev pub decreases-loop-rest : goal.decreases-loop-rest
decreases-loop-rest l = length l.rest
