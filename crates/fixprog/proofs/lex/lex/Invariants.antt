use Rattle.std.proofs.Common.{◌-◌, length}
use Rattle.fixprog.proofs.Lexing.{LexedTo}
use Rattle.fixprog.proofs.lex.lex.Given as goal

abbrev pub invariant-loop-at : goal.invariant-loop-at
invariant-loop-at l = LexedTo l.text l.at l.tokens.items

abbrev pub decreases-loop-at : goal.decreases-loop-at
decreases-loop-at l = length l.text - l.at
