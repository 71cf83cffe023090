use Rattle.std.proofs.Common.{◌≡◌, length}
use Rattle.std.specs.List.{AllByRecursion}
use Rattle.script_claims.specs.Facts.{HasNormalBounds}
use Rattle.script_judge.proofs.CaseRanges.{range_among}
use Rattle.script_judge.proofs.splits.range_in.Given as goal

abbrev pub invariant-loop-claims : goal.invariant-loop-claims
invariant-loop-claims l = record {
  ranged : range_among l.x l.fn.conjunctions ≡ range_among l.x l.conjunctions;
  normal : AllByRecursion (AllByRecursion HasNormalBounds) l.conjunctions;
}

abbrev pub decreases-loop-claims : goal.decreases-loop-claims
decreases-loop-claims l = length l.conjunctions
