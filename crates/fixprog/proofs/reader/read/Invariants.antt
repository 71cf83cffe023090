use Rattle.fixprog.proofs.Runs.{RunsTo}
use Rattle.fixprog.proofs.reader.read.Given as goal

abbrev pub invariant-loop-i : goal.invariant-loop-i
invariant-loop-i l = RunsTo l.text l.lexed.tokens.items l.reader l.i
