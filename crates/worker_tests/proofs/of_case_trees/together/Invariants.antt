use Rattle.std.specs.Prelude.{◌≤◌}
use Rattle.worker_tests.proofs.of_case_trees.together.Given as goal

abbrev pub invariant-loop-i : goal.invariant-loop-i
invariant-loop-i l = l.gathered.cases ≤ l.i
