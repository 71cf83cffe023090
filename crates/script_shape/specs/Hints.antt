-- The grammar of hints: rewritings with their needs, likenesses, splits.
use Rattle.std.specs.Prelude.{ℕ, List, [], ◌∷◌, ◌++◌}
use Rattle.script_words.specs.Words.{Word, literal, sign}
use Rattle.script_words.specs.declared.class.Number.TheVariants as digits_kind
use Rattle.script_words.specs.declared.class.Symbol.TheVariants as s
use Rattle.script_shape.specs.Expressions.{AnyName, name_words, Digits, digits_words, Bound}
use Rattle.script_shape.specs.Expressions.{bound_words, Expr, expr_words}

-- what a rewriting needs: an expression that isn't 0, or its relation to a bound
pub data Need : Type 0 where
  nonzero : Expr → List ℕ → Need
  below : Expr → Bound → Need
  not_above : Expr → Bound → Need
  above : Expr → Bound → Need
  not_below : Expr → Bound → Need

-- the words of a need
abbrev pub need_words : Need → List Word
need_words (nonzero e zero_text) =
    expr_words e ++ (sign s.Unequal ∷ (literal digits_kind.Zero zero_text ∷ []))
need_words (below e b) = expr_words e ++ (sign s.Less ∷ bound_words b)
need_words (not_above e b) = expr_words e ++ (sign s.LessEqual ∷ bound_words b)
need_words (above e b) = expr_words e ++ (sign s.Greater ∷ bound_words b)
need_words (not_below e b) = expr_words e ++ (sign s.GreaterEqual ∷ bound_words b)

-- one need or more
pub data NeedList : Type 0 where
  last_need : Need → NeedList
  more_needs : Need → NeedList → NeedList

-- the words of needs, with commas between
abbrev pub need_list_words : NeedList → List Word
need_list_words (last_need n) = need_words n
need_list_words (more_needs n l) = need_words n ++ (sign s.Comma ∷ need_list_words l)

-- none, or the needs in braces
pub data Needs : Type 0 where
  always : Needs
  provided : NeedList → Needs

-- the words of a rewriting's needs
abbrev pub needs_words : Needs → List Word
needs_words always = []
needs_words (provided l) = sign s.OpenBrace ∷ (need_list_words l ++ (sign s.CloseBrace ∷ []))

-- one point or more
pub data Points : Type 0 where
  last_point : Bound → Points
  more_points : Bound → Points → Points

-- the words of points, with commas between
abbrev pub points_words : Points → List Word
points_words (last_point b) = bound_words b
points_words (more_points b l) = bound_words b ++ (sign s.Comma ∷ points_words l)

-- how a variable's range is split: in four, in so many pieces, or at points
pub data CutForm : Type 0 where
  in_four : CutForm
  pieces : Digits → CutForm
  at_points : Points → CutForm

-- the words of a split, behind the variable
abbrev pub cut_words : CutForm → List Word
cut_words in_four = []
cut_words (pieces d) = sign s.In ∷ digits_words d
cut_words (at_points l) =
    sign s.In ∷ (sign s.OpenParen ∷ (points_words l ++ (sign s.CloseParen ∷ [])))

-- one name or more
pub data Names : Type 0 where
  last_name : AnyName → Names
  more_names : AnyName → Names → Names

-- the words of names, with commas between
abbrev pub names_words : Names → List Word
names_words (last_name n) = name_words n
names_words (more_names n l) = name_words n ++ (sign s.Comma ∷ names_words l)

-- expressions, and the variables that are halved for them
pub data Halving : Type 0 where
  halved_by : Expr → Names → Halving
  with_goal : Expr → Halving → Halving

-- the words of a halving: expressions, a dollar, and names
abbrev pub halving_words : Halving → List Word
halving_words (halved_by e n) = expr_words e ++ (sign s.Dollar ∷ names_words n)
halving_words (with_goal e h) = expr_words e ++ (sign s.Comma ∷ halving_words h)

-- a rewriting, a likeness, a split of one variable, or a halving for expressions
pub data Hint : Type 0 where
  rewrite : Expr → Expr → Needs → Hint
  like : Expr → Expr → Hint
  split : AnyName → CutForm → Hint
  halving : Halving → Hint

-- the words of a hint, without the semicolon
abbrev pub hint_words : Hint → List Word
hint_words (rewrite a b n) = expr_words a ++ (sign s.Arrow ∷ (expr_words b ++ needs_words n))
hint_words (like a b) = expr_words a ++ (sign s.Tilde ∷ expr_words b)
hint_words (split n c) = sign s.Dollar ∷ (name_words n ++ cut_words c)
hint_words (halving h) = halving_words h

-- any number of hints
pub data Hints : Type 0 where
  no_hint : Hints
  hint : Hint → Hints → Hints

-- the words of hints, with a semicolon behind each
abbrev pub hints_words : Hints → List Word
hints_words no_hint = []
hints_words (hint h l) = hint_words h ++ (sign s.Semicolon ∷ hints_words l)
