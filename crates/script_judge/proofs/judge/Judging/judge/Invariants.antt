use Rattle.std.specs.Option.{option_copied}
use Rattle.script_words.specs.Kept.{words_in}
use Rattle.script_shape.specs.Roles.{leaves_of}
use Rattle.script_judge.specs.SplitViews.{said_if, AreKept}
use Rattle.script_judge.specs.Judging.{JudgedAt}
use Rattle.script_judge.proofs.judge.Judging.judge.Given as goal

abbrev pub invariant-loop-number : goal.invariant-loop-number
invariant-loop-number l = record {
  judged : JudgedAt (leaves_of l.roles (words_in l.words)) l.number l.self.seen l.self.splits
      l.self.arrows;
  kept : AreKept (said_if (option_copied l.formula)) l.self.splits.ranges.items;
}
