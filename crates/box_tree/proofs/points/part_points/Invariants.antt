use Rattle.std.proofs.Common.{◌≡◌, ◌<◌, ◌-◌, [], length}
use Rattle.box_tree.specs.Points as spec
use Rattle.box_tree.proofs.points.part_points.Given as goal

abbrev pub invariant-loop-i : goal.invariant-loop-i
invariant-loop-i l = record {
  few : length l.points < l.i;
  is : spec.with_points l.range l.points (spec.parts_from l.range l.n l.i (l.n - l.i))
      ≡ spec.with_points l.range [] (spec.parts_from l.range l.n 1 (l.n - 1));
}
