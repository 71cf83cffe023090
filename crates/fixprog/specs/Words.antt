-- A program's text as a list of words: its tokens without blanks, comments and places.
use Rattle.std.specs.Prelude.{ℕ, codes, List, if◌then◌else◌}
use Rattle.std.specs.Str.{bytes_eq}
use Rattle.script_words.specs.declared.class.Symbol.{Symbol}
use Rattle.script_words.specs.declared.lex.TokenKind.{TokenKind}
use Rattle.script_words.specs.declared.lex.TokenKind.TheVariants as script
use Rattle.fixprog.specs.declared.token.Kind.{Kind}
use Rattle.fixprog.specs.declared.token.Kind.TheVariants as kind

-- the bytes of a name
abbrev pub Name : Type 0
Name = List ℕ

-- `sign` is one of the signs and reserved words of scripts. `right` is `>>`, `left` is `<<`.
pub data Word : Type 0 where
  name : Name → Word
  literal : (text : List ℕ) → Word
  format : (text : List ℕ) → Word
  sign : Symbol → Word
  colon : Word
  right : Word
  left : Word
  out : Word

-- `out` is reserved in programs, beside the reserved words of scripts
abbrev pub name_kind : List ℕ → Kind
name_kind text = if bytes_eq text (codes "out") then kind.Out else kind.Name

-- what a token of scripts is in a program
abbrev pub kind_of : TokenKind → List ℕ → Kind
kind_of script.Name text = name_kind text
kind_of script.Literal text = kind.Literal
kind_of (script.Sign g) text = kind.Sign g

-- the word of a token with this text
abbrev pub kind_word : Kind → List ℕ → Word
kind_word kind.Name text = name text
kind_word kind.Literal text = literal text
kind_word kind.Format text = format text
kind_word (kind.Sign g) text = sign g
kind_word kind.Colon text = colon
kind_word kind.Right text = right
kind_word kind.Left text = left
kind_word kind.Out text = out
