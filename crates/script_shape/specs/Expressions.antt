-- The grammar of expressions: names, numbers, rounding operators, and expressions that group to the
-- left.
use Rattle.std.specs.Prelude.{ℕ, List, [], ◌∷◌, ◌++◌}
use Rattle.script_words.specs.Words.{Word, name, rounding, literal, sign}
use Rattle.script_words.specs.declared.class.Spelled.{Spelled}
use Rattle.script_words.specs.declared.class.Spelled.TheVariants as spelled
use Rattle.script_words.specs.declared.class.Number.{Number}
use Rattle.script_words.specs.declared.class.Number.TheVariants as digits_kind
use Rattle.script_words.specs.declared.class.Symbol.TheVariants as s

-- ---- names and numbers

-- any name, whether or not it names an operator
pub data AnyName : Type 0 where
  plain : Spelled → List ℕ → AnyName
  operator : Spelled → List ℕ → AnyName

-- the word of a name, which may be an operator's
abbrev pub name_words : AnyName → List Word
name_words (plain k text) = name k text ∷ []
name_words (operator k text) = rounding k text ∷ []

-- `FIX`, or the word of a direction
pub data Special : Type 0 where
  free : List ℕ → Special
  defined : List ℕ → Special

-- the word `FIX`, or that of a direction; an operator may have this name, too
abbrev pub special_words : Spelled → Special → List Word
special_words k (free text) = name k text ∷ []
special_words k (defined text) = rounding k text ∷ []

-- decimal digits alone
pub data Digits : Type 0 where
  zero_alone : List ℕ → Digits
  digits : List ℕ → Digits

-- the word of a number without a sign
abbrev pub digits_words : Digits → List Word
digits_words (zero_alone text) = literal digits_kind.Zero text ∷ []
digits_words (digits text) = literal digits_kind.Digits text ∷ []

-- a whole number: digits, or a minus and digits
pub data Whole : Type 0 where
  natural : Digits → Whole
  opposite : Digits → Whole

-- the words of a whole number
abbrev pub whole_words : Whole → List Word
whole_words (natural d) = digits_words d
whole_words (opposite d) = sign s.Minus ∷ digits_words d

-- a bound: a number, which may have a sign
pub data Bound : Type 0 where
  unsigned : Number → List ℕ → Bound
  positive : Number → List ℕ → Bound
  negative : Number → List ℕ → Bound

-- the words of a bound
abbrev pub bound_words : Bound → List Word
bound_words (unsigned k text) = literal k text ∷ []
bound_words (positive k text) = sign s.Plus ∷ (literal k text ∷ [])
bound_words (negative k text) = sign s.Minus ∷ (literal k text ∷ [])

-- ---- operators, without the sign that closes them

-- `fixed<l,d` or `int<d`
pub data Operator : Type 0 where
  fixed : Whole → Special → Operator
  int : Special → Operator

-- the words of an operator
abbrev pub operator_words : Operator → List Word
operator_words (fixed l d) = sign s.Fixed
    ∷ (sign s.Less ∷ (whole_words l ++ (sign s.Comma ∷ special_words spelled.Direction d)))
operator_words (int d) = sign s.Int ∷ (sign s.Less ∷ special_words spelled.Direction d)

-- ---- expressions

mutual
  -- an expression: a term, or a sum or difference of an expression and a term
  pub data Expr : Type 0 where
    term : Term → Expr
    sum : Expr → Term → Expr
    difference : Expr → Term → Expr

  -- a term: a factor, or a product or quotient of a term and a factor
  pub data Term : Type 0 where
    factor : Factor → Term
    product : Term → Factor → Term
    quotient : Term → Factor → Term

  -- a factor: an atom, or the negation of a factor
  pub data Factor : Type 0 where
    negation : Factor → Factor
    atom : Atom → Factor

  -- a number, a name, an expression in brackets or bars, or a call
  pub data Atom : Type 0 where
    number : Number → List ℕ → Atom
    variable : Spelled → List ℕ → Atom
    parenthesized : Expr → Atom
    absolute : Expr → Atom
    called : Spelled → List ℕ → Expr → Atom
    rounded : Operator → Expr → Atom
    fused : Expr → Expr → Expr → Atom

abbrev mutual
  pub expr_words : Expr → List Word
  expr_words (term t) = term_words t
  expr_words (sum e t) = expr_words e ++ (sign s.Plus ∷ term_words t)
  expr_words (difference e t) = expr_words e ++ (sign s.Minus ∷ term_words t)

  pub term_words : Term → List Word
  term_words (factor f) = factor_words f
  term_words (product t f) = term_words t ++ (sign s.Star ∷ factor_words f)
  term_words (quotient t f) = term_words t ++ (sign s.Slash ∷ factor_words f)

  pub factor_words : Factor → List Word
  factor_words (negation f) = sign s.Minus ∷ factor_words f
  factor_words (atom a) = atom_words a

  pub atom_words : Atom → List Word
  atom_words (number k text) = literal k text ∷ []
  atom_words (variable k text) = name k text ∷ []
  atom_words (parenthesized e) = sign s.OpenParen ∷ (expr_words e ++ (sign s.CloseParen ∷ []))
  atom_words (absolute e) = sign s.Bar ∷ (expr_words e ++ (sign s.Bar ∷ []))
  atom_words (called k text e) =
      rounding k text ∷ (sign s.OpenParen ∷ (expr_words e ++ (sign s.CloseParen ∷ [])))
  atom_words (rounded o e) = operator_words o
      ++ (sign s.Greater ∷ (sign s.OpenParen ∷ (expr_words e ++ (sign s.CloseParen ∷ []))))
  atom_words (fused a b c) = sign s.Fma ∷ (sign s.OpenParen ∷ (expr_words a ++ (sign s.Comma
      ∷ (expr_words b ++ (sign s.Comma ∷ (expr_words c ++ (sign s.CloseParen ∷ [])))))))
