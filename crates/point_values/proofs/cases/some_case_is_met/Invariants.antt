use Rattle.std.proofs.Common.{◌≡◌, length}
use Rattle.std.specs.Prelude.{All, map}
use Rattle.std.specs.List.{AllByRecursion, list_all, list_any}
use Rattle.script_claims.specs.Facts.{HasNormalBounds}
use Rattle.point_values.specs.Known.{values_of}
use Rattle.point_values.specs.Among.{IsNarrowClaim}
use Rattle.point_values.specs.Truth.{claim_holds}
use Rattle.point_values.proofs.cases.some_case_is_met.Given as goal

abbrev pub invariant-loop-rest : goal.invariant-loop-rest
invariant-loop-rest l = record {
  normal : AllByRecursion (All HasNormalBounds) (map (λ case. case.items) l.rest);
  narrow : AllByRecursion (AllByRecursion (IsNarrowClaim (values_of l.values)))
      (map (λ case. case.items) l.rest);
  holds : list_any (list_all (claim_holds (values_of l.values))) (map (λ case. case.items) l.rest)
      ≡ list_any (list_all (claim_holds (values_of l.values)))
      (map (λ case. case.items) l.fn.cases);
}

abbrev pub decreases-loop-rest : goal.decreases-loop-rest
decreases-loop-rest l = length l.rest
