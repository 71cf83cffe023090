use Rattle.std.proofs.Common.{◌≡◌, length}
use Rattle.cert_checker.specs.After.{lines_with}
use Rattle.cert_checker.proofs.Leaves.{so_far}
use Rattle.cert_checker.proofs.lines.add_leaf.Given as goal

abbrev pub invariant-loop-k : goal.invariant-loop-k
invariant-loop-k l = record {
  lines : so_far l.steps.rows l.lines.items l.refs l.k
      ≡ lines_with l.steps.rows l.initial.lines.items l.refs;
  same : length l.lines.items ≡ length l.initial.lines.items;
}
