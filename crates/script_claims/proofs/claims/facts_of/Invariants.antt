use Rattle.std.proofs.Common.{◌≡◌, ◌++◌, length}
use Rattle.std.specs.List.{AllByRecursion}
use Rattle.script_claims.specs.Facts as spec
use Rattle.script_claims.specs.Facts.{HasNormalBounds}
use Rattle.script_claims.proofs.claims.facts_of.Given as goal

abbrev pub invariant-loop-claims : goal.invariant-loop-claims
invariant-loop-claims l = record {
  normal : AllByRecursion HasNormalBounds l.claims;
  all : l.facts.items ++ spec.facts_of l.claims ≡ spec.facts_of l.fn.claims;
}

abbrev pub decreases-loop-claims : goal.decreases-loop-claims
decreases-loop-claims l = length l.claims
