use Rattle.std.proofs.Common.{◌<◌, length}
use Rattle.number_tests.proofs.of_expr_dag.fill.Given as goal

abbrev pub invariant-loop : goal.invariant-loop
invariant-loop l = l.last.0 < length l.dag
