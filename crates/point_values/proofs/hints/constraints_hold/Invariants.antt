use Rattle.std.proofs.Common.{◌≡◌, length}
use Rattle.std.specs.Prelude.{All, ◌&&◌}
use Rattle.std.specs.List.{flat_map, list_all}
use Rattle.exact_fractions.specs.Wide.{are_narrow}
use Rattle.script_hints.specs.Needs.{HasNormalBound}
use Rattle.point_values.specs.Known.{values_of}
use Rattle.point_values.specs.Numbers.{constraint_numbers}
use Rattle.point_values.specs.Truth.{constraint_holds}
use Rattle.point_values.proofs.hints.constraints_hold.Given as goal

abbrev pub invariant-loop-rest : goal.invariant-loop-rest
invariant-loop-rest l = record {
  normal : All HasNormalBound l.rest;
  narrow : are_narrow (flat_map (constraint_numbers (values_of l.values)) l.rest)
      ≡ are_narrow (flat_map (constraint_numbers (values_of l.values)) l.fn.constraints);
  holds : (l.hold && list_all (constraint_holds (values_of l.values)) l.rest)
      ≡ list_all (constraint_holds (values_of l.values)) l.fn.constraints;
}

abbrev pub decreases-loop-rest : goal.decreases-loop-rest
decreases-loop-rest l = length l.rest
