-- The tokens of a text, by cases on its bytes. At each place the longest token is taken.
use Rattle.std.specs.Prelude.{◌≡◌, ℕ, ◌+◌, ◌==◌, ◌||◌, nat_lt, ◌<◌, ◌≤◌, List, [], ◌∷◌, length}
use Rattle.std.specs.Prelude.{drop, take, Option, Some, None, Bool, false, not, if◌then◌else◌}
use Rattle.script_words.specs.declared.class.Symbol.{Symbol}
use Rattle.script_words.specs.declared.lex.Run.TheVariants.{Word, Digit}
use Rattle.script_words.specs.declared.lex.TokenKind.{TokenKind}
use Rattle.script_words.specs.declared.lex.TokenKind.TheVariants as kind
use Rattle.script_words.specs.declared.lex.Token.{Token}
use Rattle.script_words.specs.Literals.{run_len, literal_len}
use Rattle.script_words.specs.Signs.{sign_at, reserved_word}

-- space, tab, line feed, carriage return
abbrev pub is_blank : ℕ → Bool
is_blank b = b == 32 || b == 9 || b == 10 || b == 13

-- How many bytes at the front are blank or in a comment, where the text before them ends inside a
-- comment or not. A comment runs from `#` to a line feed or the end.
abbrev pub blank_len : Bool → List ℕ → ℕ
blank_len inside [] = 0
blank_len inside (b ∷ bs) =
    if inside || is_blank b || b == 35
    then 1 + blank_len (if inside then not (b == 10) else b == 35) bs else 0

-- ---- tokens

-- a name, unless it is a reserved word
abbrev pub word_kind : Option Symbol → TokenKind
word_kind (Some g) = kind.Sign g
word_kind None = kind.Name

-- the token of a sign
abbrev pub sign_token : Option (Symbol × ℕ) → Option (TokenKind × ℕ)
sign_token (Some found) = Some (kind.Sign found.0, found.1)
sign_token None = None

-- The token at the front with its length, or none. A literal that a letter, a digit or `_` directly
-- follows is none.
unfoldable pub front : List ℕ → Option (TokenKind × ℕ)
front bs =
    if nat_lt 0 (run_len Digit bs) then (if nat_lt 0 (run_len Word (drop (literal_len bs) bs))
    then None else Some (kind.Literal, literal_len bs))
    else if nat_lt 0 (run_len Word bs)
    then Some (word_kind (reserved_word (take (run_len Word bs) bs)), run_len Word bs)
    else sign_token (sign_at bs)

-- ---- texts

-- From the place `at` on, the text has these tokens, and then none but blanks, or a byte at the
-- place given that begins no token.
pub data Lexes : ℕ → List ℕ → List Token → Option ℕ → Type 0 where
  ends : {at : ℕ} {text : List ℕ} → blank_len false text ≡ length text → Lexes at text [] None
  bad : {at : ℕ} {text : List ℕ}
      → blank_len false text < length text → front (drop (blank_len false text) text) ≡ None
      → Lexes at text [] (Some (at + blank_len false text))
  token : {at : ℕ} {text : List ℕ} {k : TokenKind} {len : ℕ} {more : List Token} {end : Option ℕ}
      → front (drop (blank_len false text) text) ≡ Some (k, len)
      → Lexes (at + blank_len false text + len) (drop (blank_len false text + len) text) more end
      → Lexes at text
      (record { kind = k; start = at + blank_len false text; end = at + blank_len false text + len }
      ∷ more) end

-- the same tokens, and the same byte that begins none
pub record SameLexing (ts us : List Token) (a b : Option ℕ) : Type 0 where
  pub tokens : ts ≡ us
  pub bad : a ≡ b

-- A text has one list of tokens, and one byte at most that begins none.
abbrev pub LexesOnce : Type 0
LexesOnce = (text : List ℕ) (ts us : List Token) (a b : Option ℕ) → Lexes 0 text ts a
    → Lexes 0 text us b → SameLexing ts us a b

-- A text has no more tokens than bytes.
abbrev pub TokensAreFew : Type 0
TokensAreFew = (at : ℕ) (text : List ℕ) (ts : List Token) (end : Option ℕ)
    → Lexes at text ts end → length ts ≤ length text

-- Each text has a list of tokens, and a byte that begins none or not.
abbrev pub LexesAll : Type 0
LexesAll = (text : List ℕ) → (ts : List Token) × (end : Option ℕ) × Lexes 0 text ts end

-- the token lies within the text
pub record IsWithin (text : List ℕ) (t : Token) : Type 0 where
  pub ordered : t.start ≤ t.end
  pub inside : t.end ≤ length text
