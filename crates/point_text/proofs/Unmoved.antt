-- Tokens at which the machine doesn't go on.
use Rattle.std.specs.Prelude.{◌≡◌, ℕ, List, None, refl}
use Rattle.script_words.specs.declared.class.Symbol.TheVariants as s
use Rattle.script_words.specs.declared.lex.TokenKind.{TokenKind}
use Rattle.script_words.specs.declared.lex.TokenKind.TheVariants as kind
use Rattle.point_text.specs.Points.{part_of}
use Rattle.point_text.proofs.Machine.{at_name, at_equal, at_number, behind_sign, behind_number}
use Rattle.point_text.proofs.Machine.{at_divisor, behind_divisor, step}

pub unnamed : (k : TokenKind) (bs : List ℕ) → ¬ (k ≡ kind.Name)
    → step at_name (part_of k bs) ≡ None
unnamed kind.Name bs n = absurd (n refl)
unnamed kind.Literal bs n = refl
unnamed (kind.Sign s.Equal) bs n = refl
unnamed (kind.Sign s.Plus) bs n = refl
unnamed (kind.Sign s.Minus) bs n = refl
unnamed (kind.Sign s.Slash) bs n = refl
unnamed (kind.Sign s.Semicolon) bs n = refl
unnamed (kind.Sign g) bs n = refl

pub unequal : (k : TokenKind) (bs : List ℕ) → ¬ (k ≡ kind.Sign s.Equal)
    → step at_equal (part_of k bs) ≡ None
unequal kind.Name bs n = refl
unequal kind.Literal bs n = refl
unequal (kind.Sign s.Equal) bs n = absurd (n refl)
unequal (kind.Sign s.Plus) bs n = refl
unequal (kind.Sign s.Minus) bs n = refl
unequal (kind.Sign s.Slash) bs n = refl
unequal (kind.Sign s.Semicolon) bs n = refl
unequal (kind.Sign g) bs n = refl

pub unnumbered : (k : TokenKind) (bs : List ℕ) → ¬ (k ≡ kind.Literal) → ¬ (k ≡ kind.Sign s.Plus)
    → ¬ (k ≡ kind.Sign s.Minus)
    → step at_number (part_of k bs) ≡ None
unnumbered kind.Name bs n0 n1 n2 = refl
unnumbered kind.Literal bs n0 n1 n2 = absurd (n0 refl)
unnumbered (kind.Sign s.Equal) bs n0 n1 n2 = refl
unnumbered (kind.Sign s.Plus) bs n0 n1 n2 = absurd (n1 refl)
unnumbered (kind.Sign s.Minus) bs n0 n1 n2 = absurd (n2 refl)
unnumbered (kind.Sign s.Slash) bs n0 n1 n2 = refl
unnumbered (kind.Sign s.Semicolon) bs n0 n1 n2 = refl
unnumbered (kind.Sign g) bs n0 n1 n2 = refl

pub unnumbered_behind_sign : (k : TokenKind) (bs : List ℕ) → ¬ (k ≡ kind.Literal)
    → step behind_sign (part_of k bs) ≡ None
unnumbered_behind_sign kind.Name bs n = refl
unnumbered_behind_sign kind.Literal bs n = absurd (n refl)
unnumbered_behind_sign (kind.Sign s.Equal) bs n = refl
unnumbered_behind_sign (kind.Sign s.Plus) bs n = refl
unnumbered_behind_sign (kind.Sign s.Minus) bs n = refl
unnumbered_behind_sign (kind.Sign s.Slash) bs n = refl
unnumbered_behind_sign (kind.Sign s.Semicolon) bs n = refl
unnumbered_behind_sign (kind.Sign g) bs n = refl

pub unended_number : (k : TokenKind) (bs : List ℕ) → ¬ (k ≡ kind.Sign s.Slash)
    → ¬ (k ≡ kind.Sign s.Semicolon)
    → step behind_number (part_of k bs) ≡ None
unended_number kind.Name bs n0 n1 = refl
unended_number kind.Literal bs n0 n1 = refl
unended_number (kind.Sign s.Equal) bs n0 n1 = refl
unended_number (kind.Sign s.Plus) bs n0 n1 = refl
unended_number (kind.Sign s.Minus) bs n0 n1 = refl
unended_number (kind.Sign s.Slash) bs n0 n1 = absurd (n0 refl)
unended_number (kind.Sign s.Semicolon) bs n0 n1 = absurd (n1 refl)
unended_number (kind.Sign g) bs n0 n1 = refl

pub undivided : (k : TokenKind) (bs : List ℕ) → ¬ (k ≡ kind.Literal)
    → step at_divisor (part_of k bs) ≡ None
undivided kind.Name bs n = refl
undivided kind.Literal bs n = absurd (n refl)
undivided (kind.Sign s.Equal) bs n = refl
undivided (kind.Sign s.Plus) bs n = refl
undivided (kind.Sign s.Minus) bs n = refl
undivided (kind.Sign s.Slash) bs n = refl
undivided (kind.Sign s.Semicolon) bs n = refl
undivided (kind.Sign g) bs n = refl

pub unended_divisor : (k : TokenKind) (bs : List ℕ) → ¬ (k ≡ kind.Sign s.Semicolon)
    → step behind_divisor (part_of k bs) ≡ None
unended_divisor kind.Name bs n = refl
unended_divisor kind.Literal bs n = refl
unended_divisor (kind.Sign s.Equal) bs n = refl
unended_divisor (kind.Sign s.Plus) bs n = refl
unended_divisor (kind.Sign s.Minus) bs n = refl
unended_divisor (kind.Sign s.Slash) bs n = refl
unended_divisor (kind.Sign s.Semicolon) bs n = absurd (n refl)
unended_divisor (kind.Sign g) bs n = refl
