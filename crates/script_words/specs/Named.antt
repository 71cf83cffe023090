-- The words of a text: its tokens by class, with the names of rounding operators marked.
use Rattle.std.specs.Prelude.{◌≡◌, ℕ, ◌||◌, codes, List, [], ◌∷◌, ◌++◌, length, slice_range, Option}
use Rattle.std.specs.Prelude.{Some, None, option_to_list, Bool, if◌then◌else◌}
use Rattle.std.specs.List.{list_all, list_any}
use Rattle.std.specs.Str.{bytes_eq}
use Rattle.std.specs.Char.{is_ascii_digit}
use Rattle.std.specs.BTreeSet.{BTreeSet, contains}
use Rattle.std.specs.Cmp.Lexicographic.{slice_cmp}
use Rattle.std.specs.Ordering.{nat_cmp}
use Rattle.std.specs.declared.cmp.Ordering.{Ordering}
use Rattle.std.specs.Borrow.{Bor}
use Rattle.script_words.specs.declared.class.Symbol.TheVariants as s
use Rattle.script_words.specs.declared.class.Spelled.{Spelled}
use Rattle.script_words.specs.declared.class.Spelled.TheVariants as spelled
use Rattle.script_words.specs.declared.class.Number.{Number}
use Rattle.script_words.specs.declared.class.Number.TheVariants as digits_kind
use Rattle.script_words.specs.declared.lex.Token.{Token}
use Rattle.script_words.specs.declared.lex.TokenKind.{TokenKind}
use Rattle.script_words.specs.declared.lex.TokenKind.TheVariants as kind
use Rattle.script_words.specs.declared.words.Word.{Word as CodeWord}
use Rattle.script_words.specs.declared.words.Word.TheVariants as code
use Rattle.script_words.specs.declared.words.Naming.{Naming as CodeNaming}
use Rattle.script_words.specs.declared.words.Naming.TheVariants as code_naming
use Rattle.script_words.specs.Lex.{front, Lexes}
use Rattle.script_words.specs.Words.{Word, name, rounding, literal, sign}

-- the word that the code's value stands for
abbrev pub word_of : CodeWord → Word
word_of (code.Name k text) = name k text.now
word_of (code.Rounding k text) = rounding k text.now
word_of (code.Literal k text) = literal k text.now
word_of (code.Sign g) = sign g

-- ---- classes

-- the names of directions: `zr aw dn up od ne no nz na nd nu`
abbrev pub is_direction : List ℕ → Bool
is_direction w =
    bytes_eq w (codes "zr") || bytes_eq w (codes "aw") || bytes_eq w (codes "dn")
    || bytes_eq w (codes "up")
    || bytes_eq w (codes "od") || bytes_eq w (codes "ne") || bytes_eq w (codes "no")
    || bytes_eq w (codes "nz")
    || bytes_eq w (codes "na") || bytes_eq w (codes "nd") || bytes_eq w (codes "nu")

-- what a name means where a direction or `FIX` is wanted
abbrev pub spelled_of : List ℕ → Spelled
spelled_of w =
    if bytes_eq w (codes "FIX") then spelled.Fix
    else if is_direction w then spelled.Direction
    else spelled.Plain

-- the class of a literal: the digit 0 alone, other decimal digits alone, any other spelling
abbrev pub number_of : List ℕ → Number
number_of text =
    if bytes_eq text (codes "0") then digits_kind.Zero
    else if list_all is_ascii_digit text then digits_kind.Digits
    else digits_kind.Other

-- ---- words

-- a name that is among the operators' is `rounding`
abbrev pub name_word : List (List ℕ) → List ℕ → Word
name_word operators text =
    if list_any (λ n. bytes_eq n text) operators then rounding (spelled_of text) text
    else name (spelled_of text) text

-- the word of a token with this text, where these names are operators'
abbrev pub kind_word : List (List ℕ) → TokenKind → List ℕ → Word
kind_word operators kind.Name text = name_word operators text
kind_word operators kind.Literal text = literal (number_of text) text
kind_word operators (kind.Sign g) text = sign g

-- the part of the text that is the token
abbrev pub token_text : List ℕ → Token → List ℕ
token_text text t = slice_range text t.start t.end

-- The word that a token of the text stands for, where these names are operators'.
abbrev pub token_word : List ℕ → List (List ℕ) → Token → Word
token_word text operators t = kind_word operators t.kind (token_text text t)

-- How far the words so far have come with the definition of an operator, `@ name = .. ;`.
pub data Naming : Type 0 where
  nothing : Naming
  after_at : Naming
  after_name : List ℕ → Naming
  pending : List ℕ → Naming

-- the code's value as such
abbrev pub naming_of : CodeNaming → Naming
naming_of code_naming.Nothing = nothing
naming_of code_naming.AfterAt = after_at
naming_of (code_naming.AfterName n) = after_name n.now
naming_of (code_naming.Pending n) = pending n.now

-- what an `@` makes of it, a name, an `=`, and any other word
abbrev pub naming_after : Naming → Word → Naming
naming_after (pending n) (sign s.Semicolon) = nothing
naming_after (pending n) w = pending n
naming_after n (sign s.At) = after_at
naming_after after_at (name k text) = after_name text
naming_after after_at (rounding k text) = after_name text
naming_after (after_name text) (sign s.Equal) = pending text
naming_after n w = nothing

-- the name that joins the operators at the `;` that ends its definition
abbrev pub defined_by : Naming → Word → Option (List ℕ)
defined_by (pending n) (sign s.Semicolon) = Some n
defined_by n w = None

-- the words of these tokens, behind some that came so far and defined these operators
abbrev pub words_from : List ℕ → Naming → List (List ℕ) → List Token → List Word
words_from text n operators [] = []
words_from text n operators (t ∷ ts) =
    let w = token_word text operators t in
    w ∷ words_from text (naming_after n w) (option_to_list (defined_by n w) ++ operators) ts

-- the words of the tokens of a text
abbrev pub words_of : List ℕ → List Token → List Word
words_of text tokens = words_from text nothing [] tokens

-- The text is these words, with nothing but blanks and comments between.
pub record IsWordsOf (text : List ℕ) (ws : List Word) : Type 0 where
  pub tokens : List Token
  pub lexed : Lexes 0 text tokens None
  pub words : words_of text tokens ≡ ws

-- A text is one list of words at most.
abbrev pub IsOneList : Type 0
IsOneList = (text : List ℕ) (ws vs : List Word) → IsWordsOf text ws → IsWordsOf text vs → ws ≡ vs

-- A word that a token can be: some bytes are one token, and it is that word where these names are
-- operators'.
pub record IsToken (w : Word) : Type 0 where
  pub text : List ℕ
  pub kind : TokenKind
  pub operators : List (List ℕ)
  pub alone : front text ≡ Some (kind, length text)
  pub word : kind_word operators kind text ≡ w

-- the order of keys that are texts
abbrev pub text_cmp : Bor (List ℕ) → Bor (List ℕ) → Ordering
text_cmp a b = slice_cmp nat_cmp a.now b.now

-- the set has these texts and no other
abbrev pub HasNames : BTreeSet (Bor (List ℕ)) → List (List ℕ) → Type 0
HasNames set names = (q : Bor (List ℕ))
    → contains text_cmp set q ≡ list_any (λ n. bytes_eq n q.now) names
