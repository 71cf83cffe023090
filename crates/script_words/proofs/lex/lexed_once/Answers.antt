use Rattle.script_words.proofs.LexedOnce.{lexed_once}
use Rattle.script_words.proofs.lex.lexed_once.Goals as goal

pub returns : goal.returns
returns c = λ text ts us a b h k. lexed_once h k
