use Rattle.std.proofs.Common.{◌≡◌, length}
use Rattle.std.specs.Prelude.{All}
use Rattle.std.specs.List.{AllByRecursion, list_all}
use Rattle.script_claims.specs.Facts.{HasNormalBounds}
use Rattle.point_values.specs.Known.{values_of}
use Rattle.point_values.specs.Among.{IsNarrowClaim}
use Rattle.point_values.specs.Truth.{claim_holds}
use Rattle.point_values.proofs.cases.are_met.Given as goal

abbrev pub invariant-loop-rest : goal.invariant-loop-rest
invariant-loop-rest l = record {
  normal : All HasNormalBounds l.rest;
  narrow : AllByRecursion (IsNarrowClaim (values_of l.values)) l.rest;
  holds : list_all (claim_holds (values_of l.values)) l.rest
      ≡ list_all (claim_holds (values_of l.values)) l.fn.claims;
}

abbrev pub decreases-loop-rest : goal.decreases-loop-rest
decreases-loop-rest l = length l.rest
