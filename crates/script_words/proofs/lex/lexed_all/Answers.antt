use Rattle.script_words.proofs.LexedAll.{lexed_all}
use Rattle.script_words.proofs.lex.lexed_all.Goals as goal

pub returns : goal.returns
returns c = lexed_all
