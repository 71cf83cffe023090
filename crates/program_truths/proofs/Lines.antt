-- The line of a step, as tokens with blanks between.
use Rattle.std.proofs.Common.{◌≡◌, ℕ, ◌+◌, ◌==◌, ◌||◌, Bool, true, false, cond, List, [], ◌∷◌, ◌++◌}
use Rattle.std.proofs.Common.{length, map, Some, None, refl, sym, ap, ◌∙◌, subst, arith}
use Rattle.std.specs.Prelude.{codes}
use Rattle.std.proofs.lemmas.Bool.{eqb-true}
use Rattle.script_words.specs.declared.class.Symbol.{Symbol}
use Rattle.script_words.specs.declared.class.Symbol.TheVariants as s
use Rattle.script_words.specs.declared.lex.TokenKind.{TokenKind}
use Rattle.script_words.specs.declared.lex.TokenKind.TheVariants as kind
use Rattle.script_words.specs.Literals.{is_word}
use Rattle.script_words.specs.Signs.{longer_sign}
use Rattle.script_words.specs.Lex.{blank_len, front, sign_token}
use Rattle.script_words.specs.Quiet.{IsQuiet, EndsBeforeQuiet}
use Rattle.script_words.specs.declared.class.Spelled.TheVariants as spelled
use Rattle.script_words.specs.declared.class.Number.TheVariants as digits_kind
use Rattle.script_words.specs.Named.{nothing, spelled_of, number_of, IsWordsOf}
use Rattle.script_shape.specs.Expressions.{plain, free, digits, opposite, fixed, term, factor}
use Rattle.script_shape.specs.Expressions.{product, atom, Atom, variable, rounded}
use Rattle.script_shape.specs.Tree.{exactly, Definition, names_value, definition_words}
use Rattle.program_truths.proofs.Pieces.{Piece, printed, AreApart, piece_word, DefineNone}
use Rattle.program_truths.proofs.Pieces.{tokens_at, reads_tokens, reads_words}

-- ---- pieces

abbrev pub piece : List ℕ → TokenKind → List ℕ → Piece
piece gap k text = record { gap = gap; kind = k; text = text }

abbrev pub blank : List ℕ
blank = 32 ∷ []

abbrev pub sign_piece : Symbol → List ℕ → Piece
sign_piece g text = piece [] (kind.Sign g) text

abbrev pub spaced_sign : Symbol → List ℕ → Piece
spaced_sign g text = piece blank (kind.Sign g) text

-- ---- texts that are a name or a literal

pub record IsWordText (k : TokenKind) (t : List ℕ) : Type 0 where
  pub first : ℕ
  pub more : List ℕ
  pub text : t ≡ first ∷ more
  pub word : is_word first ≡ true
  pub alone : front (first ∷ more) ≡ Some (k, length (first ∷ more))

not_true : (c : Bool) → (c ≡ true → ⊥) → c ≡ false
not_true true f = absurd (f refl)
not_true false f = refl

clash : (b k : ℕ) → is_word b ≡ true → is_word k ≡ false → b ≡ k → ⊥
clash b k h n e =
    let t : true ≡ false = sym h ∙ ap is_word e ∙ n in
    cc

differs : (b k : ℕ) → is_word b ≡ true → is_word k ≡ false → (b == k) ≡ false
differs b k h n = not_true (b == k) (λ e. clash b k h n (eqb-true b k e))

none_of : (a b c d e : Bool) → a ≡ false → b ≡ false → c ≡ false → d ≡ false → e ≡ false
    → (a || b || c || d || e) ≡ false
none_of a b c d e f g h i j = grind (arith, f, g, h, i, j)

word_is_not_blank : (b : ℕ) (bs : List ℕ) → is_word b ≡ true → blank_len false (b ∷ bs) ≡ 0
word_is_not_blank b bs h =
    ap (λ c. cond c (1 + blank_len (b == 35) bs) 0) (none_of (b == 32) (b == 9) (b == 10) (b == 13)
    (b == 35) (differs b 32 h refl) (differs b 9 h refl) (differs b 10 h refl)
    (differs b 13 h refl) (differs b 35 h refl))

pub word_alone : (k : TokenKind) (t rest : List ℕ) → IsWordText k t → blank_len false (t ++ rest)
    ≡ 0
word_alone k t rest w = ap (λ l. blank_len false (l ++ rest)) w.text
    ∙ word_is_not_blank w.first (w.more ++ rest) w.word

word_behind_blank : (k : TokenKind) (t rest : List ℕ) → IsWordText k t
    → blank_len false (32 ∷ (t ++ rest)) ≡ 1
word_behind_blank k t rest w = ap (λ n. 1 + n) (word_alone k t rest w)

module _ (law : EndsBeforeQuiet) where
  pub front_of_word : (k : TokenKind) (t rest : List ℕ) (q : ℕ) → IsWordText k t → IsQuiet q
      → front (t ++ (q ∷ rest)) ≡ Some (k, length t)
  front_of_word k t rest q w quiet =
      subst (λ l. front (l ++ (q ∷ rest)) ≡ Some (k, length l)) (sym w.text)
      (law w.first q w.more rest k w.word quiet w.alone)

-- ---- quiet bytes

pub quiet_blank : IsQuiet 32
quiet_blank = record {
  word = refl;
  digit = refl;
  hexadecimal = refl;
  plus = refl;
  minus =
      refl;
  point = refl;
  ten = refl;
  two = refl;
  power = refl;
  opening = refl;
}

pub quiet_close : IsQuiet 41
quiet_close = record {
  word = refl;
  digit = refl;
  hexadecimal = refl;
  plus = refl;
  minus =
      refl;
  point = refl;
  ten = refl;
  two = refl;
  power = refl;
  opening = refl;
}

pub quiet_comma : IsQuiet 44
quiet_comma = record {
  word = refl;
  digit = refl;
  hexadecimal = refl;
  plus = refl;
  minus =
      refl;
  point = refl;
  ten = refl;
  two = refl;
  power = refl;
  opening = refl;
}

pub quiet_less : IsQuiet 60
quiet_less = record {
  word = refl;
  digit = refl;
  hexadecimal = refl;
  plus = refl;
  minus =
      refl;
  point = refl;
  ten = refl;
  two = refl;
  power = refl;
  opening = refl;
}

pub quiet_greater : IsQuiet 62
quiet_greater = record {
  word = refl;
  digit = refl;
  hexadecimal = refl;
  plus = refl;
  minus =
      refl;
  point = refl;
  ten = refl;
  two = refl;
  power = refl;
  opening = refl;
}

-- ---- a line: `NAME = fixed<-F,DIR>(A * B);`

abbrev pub product_line : List ℕ → List ℕ → List ℕ → List ℕ → List ℕ → List Piece
product_line name places way a b =
    piece [] kind.Name name ∷ (spaced_sign s.Equal (codes "=") ∷
    (spaced_sign s.Fixed (codes "fixed") ∷ (sign_piece s.Less (codes "<")
    ∷ (sign_piece s.Minus (codes "-") ∷ (piece [] kind.Literal places ∷
    (sign_piece s.Comma (codes ",") ∷ (piece [] kind.Name way ∷
    (sign_piece s.Greater (codes ">")
    ∷ (sign_piece s.OpenParen (codes "(") ∷ (piece [] kind.Name a ∷
    (spaced_sign s.Star (codes "*") ∷ (piece blank kind.Name b ∷
    (sign_piece s.CloseParen (codes ")")
    ∷ (sign_piece s.Semicolon (codes ";") ∷ []))))))))))))))

-- The bytes of the line are those of its pieces: each side computes to the other.
pub line_is_printed : (name places way a b tail : List ℕ)
    → printed (product_line name places way a b) tail ≡ name
    ++ (codes " = fixed<-" ++ (places ++ (codes ","
    ++ (way ++ (codes ">(" ++ (a ++ (codes " * " ++ (b ++ (codes ");" ++ tail)))))))))
line_is_printed name places way a b tail = refl

pub fixed_is_fixed : front (codes "fixed") ≡ Some (kind.Sign s.Fixed, 5)
unfolding front
fixed_is_fixed = refl

pub minus_before : (b : ℕ) (bs : List ℕ) → is_word b ≡ true → front (45 ∷ (b ∷ bs))
    ≡ Some (kind.Sign s.Minus, 1)
unfolding front
minus_before b bs h =
    ap (λ c. sign_token (longer_sign (cond c (Some s.Arrow) (cond (b == 47) (Some s.Against) None))
    (Some s.Minus))) (differs b 62 h refl)
    ∙ ap (λ c. sign_token (longer_sign (cond c (Some s.Against) None) (Some s.Minus)))
    (differs b 47 h refl)

-- no longer sign begins with these
pub comma_alone : (rest : List ℕ) → front (44 ∷ rest) ≡ Some (kind.Sign s.Comma, 1)
unfolding front
comma_alone [] = refl
comma_alone (b ∷ bs) = refl

pub open_alone : (rest : List ℕ) → front (40 ∷ rest) ≡ Some (kind.Sign s.OpenParen, 1)
unfolding front
open_alone [] = refl
open_alone (b ∷ bs) = refl

pub semicolon_alone : (rest : List ℕ) → front (59 ∷ rest) ≡ Some (kind.Sign s.Semicolon, 1)
unfolding front
semicolon_alone [] = refl
semicolon_alone (b ∷ bs) = refl

module _ (law : EndsBeforeQuiet) (name places way a b tail : List ℕ)
    (is_name : IsWordText kind.Name name) (is_digits : IsWordText kind.Literal places)
    (is_way : IsWordText kind.Name way) (is_a : IsWordText kind.Name a)
    (is_b : IsWordText kind.Name b) where
  -- a minus before digits is no longer sign
  minus_alone : (rest : List ℕ) → front (45 ∷ (places ++ rest)) ≡ Some (kind.Sign s.Minus, 1)
  minus_alone rest =
      subst (λ l. front (45 ∷ (l ++ rest)) ≡ Some (kind.Sign s.Minus, 1)) (sym is_digits.text)
      (minus_before is_digits.first (is_digits.more ++ rest) is_digits.word)

  fixed_alone : (rest : List ℕ) → front (codes "fixed" ++ (60 ∷ rest)) ≡ Some (kind.Sign s.Fixed, 5)
  fixed_alone rest = front_of_word law (kind.Sign s.Fixed) (codes "fixed") rest 60
      (record {
        first = 102;
        more = codes "ixed";
        text = refl;
        word = refl;
        alone =
            fixed_is_fixed;
      }) quiet_less

  pub line_apart : AreApart (product_line name places way a b) tail
  unfolding front
  line_apart = (
    word_alone kind.Name name _ is_name,
    front_of_word law kind.Name name _ 32 is_name quiet_blank,
    (
      refl,
      refl,
      (
        refl,
        fixed_alone (45 ∷ (places ++ (44 ∷ (way
            ++ (62 ∷ (40 ∷ (a ++ (32 ∷ (42 ∷ (32 ∷ (b ++ (41 ∷ (59 ∷ tail))))))))))))),
        (
          refl,
          refl,
          (
            refl,
            minus_alone _,
            (
              word_alone kind.Literal places _ is_digits,
              front_of_word law kind.Literal places _ 44 is_digits quiet_comma,
              (
                refl,
                comma_alone _,
                (
                  word_alone kind.Name way _ is_way,
                  front_of_word law kind.Name way _ 62 is_way quiet_greater,
                  (
                    refl,
                    refl,
                    (
                      refl,
                      open_alone _,
                      (
                        word_alone kind.Name a _ is_a,
                        front_of_word law kind.Name a _ 32 is_a quiet_blank,
                        (
                          refl,
                          refl,
                          (
                            word_behind_blank kind.Name b _ is_b,
                            front_of_word law kind.Name b _ 41 is_b quiet_close,
                            (
                              refl,
                              refl,
                              (
                                refl,
                                semicolon_alone _,
                                tt,
                              ),
                            ),
                          ),
                        ),
                      ),
                    ),
                  ),
                ),
              ),
            ),
          ),
        ),
      ),
    ),
  )

-- ---- the words of the line

abbrev pub named : List ℕ → Atom
named text = variable (spelled_of text) text

-- the definition that the line spells
abbrev pub product_definition : List ℕ → List ℕ → List ℕ → List ℕ → List ℕ → Definition
product_definition name places way a b =
    names_value (plain (spelled_of name) name) exactly
    (term (factor (atom (rounded (fixed (opposite (digits places)) (free way))
    (term (product (factor (atom (named a))) (atom (named b))))))))

pub line_defines_none : (name places way a b : List ℕ)
    → DefineNone nothing (product_line name places way a b)
line_defines_none name places way a b = (
  refl,
  (
    refl,
    (
      refl,
      (
        refl,
        (
          refl,
          (
            refl,
            (
              refl,
              (refl, (refl, (refl, (refl, (refl, (refl, (refl, (refl, tt)))))))),
            ),
          ),
        ),
      ),
    ),
  ),
)

pub line_words : (name places way a b : List ℕ) → number_of places ≡ digits_kind.Digits
    → spelled_of way ≡ spelled.Direction
    → map piece_word (product_line name places way a b)
    ≡ definition_words (product_definition name places way a b)
line_words name places way a b d e = rw (d, e) refl

-- The line of a step, as it is printed, is read as the definition.
pub line_is_read : EndsBeforeQuiet → (name places way a b : List ℕ) → IsWordText kind.Name name
    → IsWordText kind.Literal places → IsWordText kind.Name way → IsWordText kind.Name a
    → IsWordText kind.Name b
    → number_of places ≡ digits_kind.Digits → spelled_of way ≡ spelled.Direction
    → IsWordsOf (name ++ (codes " = fixed<-" ++ (places
    ++ (codes "," ++ (way ++ (codes ">(" ++ (a ++ (codes " * " ++ (b ++ (codes ");\n"))))))))))
    (definition_words (product_definition name places way a b))
line_is_read law name places way a b n p w x y d e = record {
  tokens = tokens_at 0 (product_line name places way a b);
  lexed = reads_tokens 0 (product_line name places way a b) (codes "\n")
      (line_apart law name places way a b (codes "\n") n p w x y) refl;
  words = reads_words [] (product_line name places way a b) (codes "\n") nothing
      (line_defines_none name places way a b) ∙ line_words name places way a b d e;
}
