use Rattle.std.proofs.Common.{◌-◌, length}
use Rattle.script_words.proofs.ReadTo.{ReadTo}
use Rattle.script_words.proofs.words.read_words.Given as goal

abbrev pub invariant-loop-at : goal.invariant-loop-at
invariant-loop-at l = ReadTo l.text l.at l.placed.items l.naming l.operators

abbrev pub decreases-loop-at : goal.decreases-loop-at
decreases-loop-at l = length l.text - l.at
