use Rattle.fixprog.proofs.AloneWords.{words_are_alone}
use Rattle.fixprog.proofs.turn.words_are_alone.Goals as goal

pub returns : goal.returns
returns c = words_are_alone
