use Rattle.std.proofs.Common.{reverse}
use Rattle.script_words.specs.Kept.{words_in}
use Rattle.script_shape.proofs.Shaped.{RunTo}
use Rattle.script_shape.proofs.shape.shape_of.Given as goal

abbrev pub invariant-loop-number : goal.invariant-loop-number
invariant-loop-number l = RunTo (words_in l.words) l.number (reverse l.stack.items) l.roles.items
