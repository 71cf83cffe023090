-- Words kept by class and place, with the words and the tokens that they stand for.
use Rattle.std.specs.Prelude.{ℕ, List, map, slice_range}
use Rattle.script_words.specs.declared.class.Class.{Class}
use Rattle.script_words.specs.declared.class.Class.TheVariants as class
use Rattle.script_words.specs.declared.lex.Token.{Token}
use Rattle.script_words.specs.declared.lex.TokenKind.{TokenKind}
use Rattle.script_words.specs.declared.lex.TokenKind.TheVariants as kind
use Rattle.script_words.specs.declared.list.PlacedWord.{PlacedWord}
use Rattle.script_words.specs.Lex.{IsWithin}
use Rattle.script_words.specs.Words.{Word, name, rounding, literal, sign}

-- the word of this class with this text
abbrev pub word_with : Class → List ℕ → Word
word_with (class.Name k) text = name k text
word_with (class.Rounding k) text = rounding k text
word_with (class.Literal k) text = literal k text
word_with (class.Sign g) text = sign g

-- the kind of the token of a word of this class
abbrev pub kind_of : Class → TokenKind
kind_of (class.Name k) = kind.Name
kind_of (class.Rounding k) = kind.Name
kind_of (class.Literal k) = kind.Literal
kind_of (class.Sign g) = kind.Sign g

-- the word, and its text, from the text that it is in
abbrev pub word_text : List ℕ → PlacedWord → List ℕ
word_text text p = slice_range text p.start p.end

-- The word that was kept by class and place, with its text cut from the whole text.
abbrev pub word_at : List ℕ → PlacedWord → Word
word_at text p = word_with p.class (word_text text p)

-- The words that were kept by class and place in this text, in order.
abbrev pub words_at : List ℕ → List PlacedWord → List Word
words_at text ps = map (word_at text) ps

-- the token of the word
abbrev pub token_of : PlacedWord → Token
token_of p = record { kind = kind_of p.class; start = p.start; end = p.end }

-- The tokens of kept words, in order, each with its place in the text.
abbrev pub tokens_of : List PlacedWord → List Token
tokens_of ps = map token_of ps

-- the word lies within the text
abbrev pub IsPlacedIn : List ℕ → PlacedWord → Type 0
IsPlacedIn text p = IsWithin text (token_of p)
