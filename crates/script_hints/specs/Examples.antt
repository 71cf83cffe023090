-- Worked rows: hints with what they say.
use Rattle.std.specs.Prelude.{◌≡◌, ℕ, codes, List, [], ◌∷◌, refl}
use Rattle.fx_model.specs.declared.ExprId.{ExprId}
use Rattle.script_words.specs.declared.class.Spelled.TheVariants as spelled
use Rattle.script_shape.specs.Expressions.{AnyName, plain, Expr, term, factor, atom, variable}
use Rattle.script_shape.specs.Expressions.{digits}
use Rattle.script_shape.specs.Hints.{nonzero, last_need, provided, pieces, in_four, last_name}
use Rattle.script_shape.specs.Hints.{more_names, halved_by, Hints, rewrite, like, split, halving}
use Rattle.script_shape.specs.Hints.{no_hint, hint}
use Rattle.script_nodes.specs.Operators.{number_of}
use Rattle.script_nodes.specs.Known.{Name, nothing_known, put, variable_put, named}
use Rattle.script_hints.specs.declared.hint.Constraint.TheVariants as constraint
use Rattle.script_hints.specs.declared.hint.Cutting.TheVariants as cutting
use Rattle.script_hints.specs.Hints.{HintsSoFar, no_hints, with_hints}

-- The text as a plain name, as splits and halvings write it.
abbrev pub name_of : Name → AnyName
name_of text = plain spelled.Plain text

-- The expression that is the variable with this name alone.
abbrev pub expression_of : Name → Expr
expression_of text = term (factor (atom (variable spelled.Plain text)))

-- The expression with number `n` in the list of nodes.
abbrev pub number : ℕ → ExprId
number n = record { 0 = n }

-- The name of the variable `x`.
abbrev pub x : Name
x = codes "x"

-- The name of the variable `y`.
abbrev pub y : Name
y = codes "y"

-- The names `x` and `y`, in this order.
abbrev pub two_variables : List Name
two_variables = x ∷ (y ∷ [])

-- of hints that stand before anything else
abbrev pub said : Hints → HintsSoFar
said h = with_hints h (nothing_known, no_hints)

-- `x $ y; $ x in 2;` names y before x
halved_first : (said (hint (halving (halved_by (expression_of x) (last_name (name_of y))))
    (hint (split (name_of x) (pieces (digits (codes "2")))) no_hint))).1 ≡ record {
      rewrites = [];
      likes = [];
      cuts = record { var = number 0; cut = cutting.Pieces 2 } ∷ [];
      halves = number 1 ∷ [];
      order = number 1 ∷ (number 0 ∷ []);
    }
unfolding named variable_put put number_of
halved_first = refl

-- `$ y; x ~ y; x $ y, x, y;` cuts along y into 4, and halves y before x
cut_first : (said (hint (split (name_of y) in_four) (hint (like (expression_of x) (expression_of y))
    (hint (halving (halved_by (expression_of x) (more_names (name_of y)
    (more_names (name_of x) (last_name (name_of y)))))) no_hint)))).1 ≡ record {
      rewrites = [];
      likes = (number 1, number 0) ∷ [];
      cuts = record { var = number 0; cut = cutting.Pieces 4 } ∷ [];
      halves = number 0 ∷ (number 1 ∷ []);
      order = number 0 ∷ (number 1 ∷ []);
    }
unfolding named variable_put put
cut_first = refl

-- `x -> y { y <> 0 };`
needed : (said (hint (rewrite (expression_of x) (expression_of y)
    (provided (last_need (nonzero (expression_of y) (codes "0"))))) no_hint)).1 ≡ record {
      rewrites =
          record {
            left = number 0;
            right = number 1;
            constraints = constraint.NotZero (number 1) ∷ [];
          }
          ∷ [];
      likes = [];
      cuts = [];
      halves = [];
      order = [];
    }
unfolding named variable_put put
needed = refl
