use Rattle.std.specs.Prelude.{[]}
use Rattle.bisect.specs.Trees.{tree_of}
use Rattle.bisect.specs.Walks.{boxes_from}
use Rattle.case_trees.proofs.Onward.{within, starts, goes_on, over, at_none, at_end}
use Rattle.case_trees.proofs.laws.trees_are_gathered.Goals as goal

pub returns : goal.returns
returns c = record {
  within = within;
  starts = starts;
  goes_on = goes_on;
  over = over;
  none = at_none;
  end = at_end;
  boxes = λ cuts states h.
      (boxes_from (tree_of cuts states) 36 [], (c.boxes_are_listed.ensures cuts states h).boxes);
}
