-- The tokens of a program's text, by cases on its bytes. At each place the longest token is taken.
use Rattle.std.specs.Prelude.{◌≡◌, ℕ, ◌+◌, ◌==◌, ◌&&◌, ◌||◌, nat_lt, ◌<◌, ◌≤◌, List, [], ◌∷◌}
use Rattle.std.specs.Prelude.{length, drop, take, map, slice_range, Option, Some, None, false}
use Rattle.std.specs.Prelude.{if◌then◌else◌}
use Rattle.std.specs.List.{prefix_len}
use Rattle.std.specs.Char.{is_ascii_digit}
use Rattle.script_words.specs.declared.lex.TokenKind.{TokenKind}
use Rattle.script_words.specs.Lex.{blank_len, front as script_front}
use Rattle.fixprog.specs.declared.token.Kind.{Kind}
use Rattle.fixprog.specs.declared.token.Kind.TheVariants as kind
use Rattle.fixprog.specs.declared.token.ProgramToken.{ProgramToken}
use Rattle.fixprog.specs.Words.{Word, kind_of, kind_word}

-- digits, a point and digits behind it; each of them with one digit at least, or nothing
abbrev pub digits_len : List ℕ → ℕ
digits_len bs = prefix_len is_ascii_digit bs

-- The length of a point and the digits behind it at the front, or 0 where no digit is behind it.
abbrev pub point_len : List ℕ → ℕ
point_len [] = 0
point_len (b ∷ bs) = if b == 46 && nat_lt 0 (digits_len bs) then 1 + digits_len bs else 0

-- The length of digits, a point and digits at the front, or 0 where a digit is lacking on either
-- side.
abbrev pub pointed_len : List ℕ → ℕ
pointed_len bs =
    let whole = digits_len bs in
    let point = point_len (drop whole bs) in
    if nat_lt 0 whole && nat_lt 0 point then whole + point else 0

-- the longest format at the front, `s` or `u` and digits with a point, or nothing
abbrev pub format_len : List ℕ → ℕ
format_len [] = 0
format_len (b ∷ bs) = if (b == 115 || b == 117) && nat_lt 0 (pointed_len bs) then 1
    + pointed_len bs else 0

-- the signs that scripts lack: `>>`, `<<` and `:`
abbrev pub own_sign : List ℕ → Option (Kind × ℕ)
own_sign [] = None
own_sign (a ∷ []) = if a == 58 then Some (kind.Colon, 1) else None
own_sign (a ∷ (b ∷ bs)) =
    if a == 58 then Some (kind.Colon, 1)
    else if a == 62 && b == 62 then Some (kind.Right, 2)
    else if a == 60 && b == 60 then Some (kind.Left, 2)
    else None

-- a token of scripts, as it is in a program
abbrev pub of_script : List ℕ → Option (TokenKind × ℕ) → Option (Kind × ℕ)
of_script bs None = None
of_script bs (Some found) = Some (kind_of found.0 (take found.1 bs), found.1)

-- the first of two that there is
abbrev pub or_else : Option (Kind × ℕ) → Option (Kind × ℕ) → Option (Kind × ℕ)
or_else (Some found) other = Some found
or_else None other = other

-- The token at the front with its length, or none. A format is longer than the name that it
-- begins with, and the
-- program's own signs are longer than those of scripts.
unfoldable pub front : List ℕ → Option (Kind × ℕ)
front bs =
    if nat_lt 0 (format_len bs) then Some (kind.Format, format_len bs)
    else or_else (own_sign bs) (of_script bs (script_front bs))

-- From the place `at` on, the text has these tokens, and then none but blanks, or a byte at the
-- place given
-- that begins no token.
pub data Lexes : ℕ → List ℕ → List ProgramToken → Option ℕ → Type 0 where
  ends : {at : ℕ} {text : List ℕ} → blank_len false text ≡ length text → Lexes at text [] None
  bad : {at : ℕ} {text : List ℕ} → blank_len false text < length text
      → front (drop (blank_len false text) text) ≡ None
      → Lexes at text [] (Some (at + blank_len false text))
  token : {at : ℕ} {text : List ℕ} {k : Kind} {len : ℕ} {more : List ProgramToken} {end : Option ℕ}
      → front (drop (blank_len false text) text) ≡ Some (k, len)
      → Lexes (at + blank_len false text + len) (drop (blank_len false text + len) text) more end
      → Lexes at text (record {
        kind = k;
        start = at + blank_len false text;
        end = at
            + blank_len false text + len;
      } ∷ more) end

-- the same tokens, and the same byte that begins none
pub record SameLexing (ts us : List ProgramToken) (a b : Option ℕ) : Type 0 where
  pub tokens : ts ≡ us
  pub bad : a ≡ b

-- The word that a token of this text is, by its kind and the bytes at its place.
abbrev pub token_word : List ℕ → ProgramToken → Word
token_word text t = kind_word t.kind (slice_range text t.start t.end)

-- the words of the tokens of a text
abbrev pub words_of : List ℕ → List ProgramToken → List Word
words_of text tokens = map (token_word text) tokens

-- A word that a token can be: some bytes are one token, and it is that word.
pub record IsToken (w : Word) : Type 0 where
  pub text : List ℕ
  pub kind : Kind
  pub alone : front text ≡ Some (kind, length text)
  pub word : kind_word kind text ≡ w

-- the token lies within the text
pub record IsWithin (text : List ℕ) (t : ProgramToken) : Type 0 where
  pub ordered : t.start ≤ t.end
  pub inside : t.end ≤ length text
