-- The grammar of the formula: ranges, propositions, and the signs between them.
use Rattle.std.specs.Prelude.{List, [], ◌∷◌, ◌++◌}
use Rattle.script_words.specs.Words.{Word, sign}
use Rattle.script_words.specs.declared.class.Spelled.TheVariants as spelled
use Rattle.script_words.specs.declared.class.Symbol.TheVariants as s
use Rattle.script_shape.specs.Expressions.{Special, special_words, Whole, whole_words, Bound}
use Rattle.script_shape.specs.Expressions.{bound_words, Expr, expr_words}

-- a range: `?`, or two bounds
pub data Range : Type 0 where
  asked : Range
  between : Bound → Bound → Range

-- the words of a range
abbrev pub range_words : Range → List Word
range_words asked = sign s.Ask ∷ []
range_words (between a b) = sign s.OpenBracket
    ∷ (bound_words a ++ (sign s.Comma ∷ (bound_words b ++ (sign s.CloseBracket ∷ []))))

-- a proposition: a range of an expression or of a relative error, a bound, or a multiple
pub data Prop : Type 0 where
  lies_in : Expr → Range → Prop
  relative_in : Expr → Expr → Range → Prop
  at_most : Expr → Bound → Prop
  at_least : Expr → Bound → Prop
  multiple : Special → Expr → Whole → Prop

-- the words of a proposition
abbrev pub prop_words : Prop → List Word
prop_words (lies_in e r) = expr_words e ++ (sign s.In ∷ range_words r)
prop_words (relative_in a b r) =
    expr_words a ++ (sign s.Against ∷ (expr_words b ++ (sign s.In ∷ range_words r)))
prop_words (at_most e b) = expr_words e ++ (sign s.LessEqual ∷ bound_words b)
prop_words (at_least e b) = expr_words e ++ (sign s.GreaterEqual ∷ bound_words b)
prop_words (multiple f e k) = sign s.At ∷ (special_words spelled.Fix f ++ (sign s.OpenParen
    ∷ (expr_words e ++ (sign s.Comma ∷ (whole_words k ++ (sign s.CloseParen ∷ []))))))

-- a proposition, or `not` and a proposition
pub data Stated : Type 0 where
  affirmed : Prop → Stated
  denied : Prop → Stated

-- the words of a proposition, or of its denial
abbrev pub stated_words : Stated → List Word
stated_words (affirmed p) = prop_words p
stated_words (denied p) = sign s.Not ∷ prop_words p

-- one or more of these with a sign between: `/\` joins, `\/` begins a new conjunction, `->` a new
-- part
pub data Formula : Type 0 where
  single : Stated → Formula
  and : Formula → Stated → Formula
  or : Formula → Stated → Formula
  implies : Formula → Stated → Formula

-- the words of a formula
abbrev pub formula_words : Formula → List Word
formula_words (single p) = stated_words p
formula_words (and f p) = formula_words f ++ (sign s.And ∷ stated_words p)
formula_words (or f p) = formula_words f ++ (sign s.Or ∷ stated_words p)
formula_words (implies f p) = formula_words f ++ (sign s.Arrow ∷ stated_words p)
