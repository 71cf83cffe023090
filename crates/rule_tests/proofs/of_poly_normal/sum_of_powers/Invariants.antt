use Rattle.std.proofs.Common.{◌<◌, ◌≤◌, length}
use Rattle.rule_tests.proofs.of_poly_normal.sum_of_powers.Given as goal

abbrev pub invariant-loop-k : goal.invariant-loop-k
invariant-loop-k l = record {
  there : l.last.0 < length l.dag;
  one : l.one.0 < length l.dag;
  base : l.x.0 < length l.dag;
  longer : length l.initial.dag ≤ length l.dag;
}
