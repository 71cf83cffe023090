-- Which words of a script are the expression part of each goal, by recursion on its tree. Words are
-- counted from 0.
use Rattle.std.specs.Prelude.{ℕ, ◌+◌, List, [], ◌∷◌, ◌++◌, length}
use Rattle.script_shape.specs.Expressions.{expr_words}
use Rattle.script_shape.specs.Propositions.{Prop, lies_in, relative_in, at_most, at_least, multiple}
use Rattle.script_shape.specs.Propositions.{Stated, affirmed, denied, Formula, single, and, or}
use Rattle.script_shape.specs.Propositions.{implies, formula_words}
use Rattle.script_shape.specs.Tree.{definition_words, Script, formula, define}
use Rattle.goal_spans.specs.declared.span.Span.{Span}

-- How many words stand before a proposition's `in`, `<=` or `>=`: those of its expression, or both
-- sides and the `-/` between. `@FIX` has no such part.
abbrev pub side_count : Prop → ℕ
side_count (lies_in e r) = length (expr_words e)
side_count (relative_in a b r) = length (expr_words a) + 1 + length (expr_words b)
side_count (at_most e b) = length (expr_words e)
side_count (at_least e b) = length (expr_words e)
side_count (multiple f e k) = 0

-- these words, where the first word of the proposition has this number
abbrev pub span_at : ℕ → Prop → Span
span_at n p = record { first = n; end = n + side_count p }

-- the same behind a `not`, which is no word of it; no script has one in a goal
abbrev pub stated_at : ℕ → Stated → Span
stated_at n (affirmed p) = span_at n p
stated_at n (denied p) = span_at (n + 1) p

-- Those of each goal of a formula whose first word has this number: of the propositions behind the
-- last arrow, or of all.
abbrev pub formula_spans : ℕ → Formula → List Span
formula_spans n (single p) = stated_at n p ∷ []
formula_spans n (and f p) =
    formula_spans n f ++ (stated_at (n + length (formula_words f) + 1) p ∷ [])
formula_spans n (or f p) =
    formula_spans n f ++ (stated_at (n + length (formula_words f) + 1) p ∷ [])
formula_spans n (implies f p) = stated_at (n + length (formula_words f) + 1) p ∷ []

-- Those of a script whose first word has this number. The formula stands behind its brace.
abbrev pub script_spans : ℕ → Script → List Span
script_spans n (formula f h) = formula_spans (n + 1) f
script_spans n (define x rest) = script_spans (n + length (definition_words x)) rest

-- The span of each goal of a script, in order, with the script's first word counted as 0.
abbrev pub goal_spans : Script → List Span
goal_spans tree = script_spans 0 tree
