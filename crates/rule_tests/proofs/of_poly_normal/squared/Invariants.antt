use Rattle.std.proofs.Common.{◌<◌, ◌≤◌, length}
use Rattle.rule_tests.proofs.of_poly_normal.squared.Given as goal

abbrev pub invariant-loop : goal.invariant-loop
invariant-loop l = record {
  there : l.last.0 < length l.dag;
  longer : length l.initial.dag ≤ length l.dag;
}
