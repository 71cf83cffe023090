-- The code's lists of words as those that definitions speak of.
use Rattle.std.specs.Prelude.{List}
use Rattle.script_words.specs.declared.lex.Token.{Token}
use Rattle.script_words.specs.declared.list.WordList.{WordList}
use Rattle.script_words.specs.declared.list.Words.{Words}
use Rattle.script_words.specs.Words.{Word}
use Rattle.script_words.specs.Placed.{words_at, tokens_of}

-- the words of a list, and their tokens
abbrev pub words_in : WordList → List Word
words_in w = words_at w.text.now w.placed.now

-- The tokens of a list's words in order, with their places in the text.
abbrev pub tokens_in : WordList → List Token
tokens_in w = tokens_of w.placed.now

-- those of a text that was read
abbrev pub all_words : Words → List Word
all_words w = words_at w.text.now w.placed.items

-- The tokens of all words of a text that was read, in order.
abbrev pub all_tokens : Words → List Token
all_tokens w = tokens_of w.placed.items
