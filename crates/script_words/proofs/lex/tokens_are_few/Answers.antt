use Rattle.script_words.proofs.LexedAll.{tokens_few}
use Rattle.script_words.proofs.lex.tokens_are_few.Goals as goal

pub returns : goal.returns
returns c = tokens_few
