use Rattle.std.proofs.Common.{◌≡◌, ◌≤◌, ◌+◌, ◌++◌, take, length}
use Rattle.std.specs.List.{AllByRecursion}
use Rattle.script_claims.specs.Ranges.{IsOrdered}
use Rattle.box_tree.specs.Root.{split_ranges}
use Rattle.box_tree.proofs.root.put_ranges.Given as goal

abbrev pub invariant-loop-order : goal.invariant-loop-order
invariant-loop-order l = record {
  few : l.count + length l.order ≤ 8;
  room : length l.entries ≡ 8;
  is : take l.count l.entries ++ split_ranges l.claims l.order ≡ split_ranges l.claims l.fn.order;
  ordered : AllByRecursion IsOrdered (take l.count l.entries);
}

abbrev pub decreases-loop-order : goal.decreases-loop-order
decreases-loop-order l = length l.order
