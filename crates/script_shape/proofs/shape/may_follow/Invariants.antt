use Rattle.std.proofs.Common.{◌≡◌, reverse, take, Some}
use Rattle.script_words.specs.Kept.{words_in}
use Rattle.script_shape.specs.Shape.{run, start}
use Rattle.script_shape.proofs.shape.may_follow.Given as goal

abbrev pub invariant-loop-number : goal.invariant-loop-number
invariant-loop-number l =
    run (take l.number (words_in l.words)) start ≡ Some (reverse l.stack.items)
