use Rattle.std.proofs.Common.{◌≡◌, ◌++◌, map, length}
use Rattle.std.specs.List.{AllByRecursion}
use Rattle.script_claims.specs.Facts as spec
use Rattle.script_claims.specs.Facts.{HasNormalBounds}
use Rattle.script_claims.proofs.claims.goals_of.Given as goal

abbrev pub invariant-loop-claims : goal.invariant-loop-claims
invariant-loop-claims l = record {
  normal : AllByRecursion HasNormalBounds l.claims;
  all : l.goals.items ++ map spec.goal_of l.claims ≡ map spec.goal_of l.fn.claims;
}

abbrev pub decreases-loop-claims : goal.decreases-loop-claims
decreases-loop-claims l = length l.claims
