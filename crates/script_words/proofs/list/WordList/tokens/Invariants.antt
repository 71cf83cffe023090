use Rattle.std.proofs.Common.{◌≡◌, take}
use Rattle.script_words.specs.Placed.{tokens_of}
use Rattle.script_words.proofs.list.WordList.tokens.Given as goal

abbrev pub invariant-loop-placed : goal.invariant-loop-placed
invariant-loop-placed l = l.tokens.items ≡ tokens_of (take l.placed-index l.words)
