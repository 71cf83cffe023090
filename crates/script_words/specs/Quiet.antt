-- Tokens that end before a byte that no longer one could have.
use Rattle.std.specs.Prelude.{◌≡◌, ℕ, ◌==◌, List, ◌∷◌, ◌++◌, length, Some, true, false}
use Rattle.std.specs.Char.{is_ascii_digit, is_ascii_hexdigit}
use Rattle.script_words.specs.declared.lex.TokenKind.{TokenKind}
use Rattle.script_words.specs.Literals.{is_word}
use Rattle.script_words.specs.Lex.{front}

-- a byte that continues no name, no reserved word and no literal
pub record IsQuiet (q : ℕ) : Type 0 where
  pub word : is_word q ≡ false
  pub digit : is_ascii_digit q ≡ false
  pub hexadecimal : is_ascii_hexdigit q ≡ false
  pub plus : (q == 43) ≡ false
  pub minus : (q == 45) ≡ false
  pub point : (q == 46) ≡ false
  pub ten : (q == 101) ≡ false
  pub two : (q == 98) ≡ false
  pub power : (q == 112) ≡ false
  pub opening : (q == 120) ≡ false

-- A text that is one token, which begins with a letter, a digit or `_`, is one before such a byte.
abbrev pub EndsBeforeQuiet : Type 0
EndsBeforeQuiet = (b q : ℕ) (bs rest : List ℕ) (k : TokenKind) → is_word b ≡ true → IsQuiet q
    → front (b ∷ bs) ≡ Some (k, length (b ∷ bs))
    → front (b ∷ (bs ++ (q ∷ rest))) ≡ Some (k, length (b ∷ bs))
