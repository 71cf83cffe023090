use Rattle.std.proofs.Common.{ap, sym, ◌∙◌}
use Rattle.script_words.specs.Named.{words_of}
use Rattle.script_words.proofs.LexedOnce.{lexed_once}
use Rattle.script_words.proofs.words.words_once.Goals as goal

pub returns : goal.returns
returns c =
    λ text ws vs h k. sym h.words ∙ ap (words_of text) (lexed_once h.lexed k.lexed).tokens ∙ k.words
