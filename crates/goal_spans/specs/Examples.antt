-- Spans of small scripts, counted by hand.
use Rattle.std.specs.Prelude.{◌≡◌, ℕ, codes, List, [], ◌∷◌, refl}
use Rattle.script_words.specs.declared.class.Spelled.TheVariants.{Plain}
use Rattle.script_words.specs.declared.class.Number.TheVariants as kind
use Rattle.script_shape.specs.Expressions.{plain, free, digits, natural, Bound, unsigned, Expr}
use Rattle.script_shape.specs.Expressions.{term, sum, factor, atom, Atom, variable}
use Rattle.script_shape.specs.Propositions.{asked, between, lies_in, relative_in, at_most, at_least}
use Rattle.script_shape.specs.Propositions.{multiple, affirmed, denied, single, and, or, implies}
use Rattle.script_shape.specs.Hints.{nonzero, last_need, provided, no_hint, hint, rewrite}
use Rattle.script_shape.specs.Tree.{exactly, names_value, Script, formula, define}
use Rattle.script_shape.specs.Roles.{script_leaves}
use Rattle.goal_spans.specs.declared.span.Span.{Span}
use Rattle.goal_spans.specs.Spans.{goal_spans}
use Rattle.goal_spans.specs.Reading.{read_word, read_leaves, spans_read}

abbrev x_atom : Atom
x_atom = variable Plain (codes "x")

abbrev y_atom : Atom
y_atom = variable Plain (codes "y")

abbrev x : Expr
x = term (factor (atom x_atom))

abbrev y : Expr
y = term (factor (atom y_atom))

abbrev x_plus_y : Expr
x_plus_y = sum x (factor (atom y_atom))

abbrev one : Bound
one = unsigned kind.Digits (codes "1")

abbrev words : ℕ → ℕ → Span
words first end = record { first = first; end = end }

-- the spans by the tree, and word by word
abbrev Gives : Script → List Span → Type 0
Gives tree spans = (goal_spans tree ≡ spans) × (spans_read (script_leaves tree) ≡ spans)

-- `{ x + y in ? }`
one_goal : Gives (formula (single (affirmed (lies_in x_plus_y asked))) no_hint) (words 1 4 ∷ [])
unfolding read_word read_leaves
one_goal = (refl, refl)

-- `{ x in [1, 1] -> x in ? /\ x + y <= 1 }`
two_goals : Gives (formula (and (implies (single (affirmed (lies_in x (between one one))))
    (affirmed (lies_in x asked))) (affirmed (at_most x_plus_y one))) no_hint)
    (words 9 10 ∷ words 13 16 ∷ [])
unfolding read_word read_leaves
two_goals = (refl, refl)

-- `{ x >= 1 -> y <= 1 -> x + y >= 1 }`: only what stands behind the last arrow is a goal
two_arrows : Gives (formula (implies (implies (single (affirmed (at_least x one)))
    (affirmed (at_most y one))) (affirmed (at_least x_plus_y one))) no_hint) (words 9 12 ∷ [])
unfolding read_word read_leaves
two_arrows = (refl, refl)

-- `{ x + y -/ y in ? }`: both sides
relative_goal : Gives (formula (single (affirmed (relative_in x_plus_y y asked))) no_hint)
    (words 1 6 ∷ [])
unfolding read_word read_leaves
relative_goal = (refl, refl)

-- `{ @FIX(x, 1) /\ y in ? }`: a multiple has none of these words
multiple_goal : Gives (formula
    (and (single (affirmed (multiple (free (codes "FIX")) x (natural (digits (codes "1"))))))
    (affirmed (lies_in y asked))) no_hint) (words 1 1 ∷ words 9 10 ∷ [])
unfolding read_word read_leaves
multiple_goal = (refl, refl)

-- `{ x >= 1 \/ not y <= 1 -> x in ? }`
two_cases : Gives (formula (implies (or (single (affirmed (at_least x one)))
    (denied (at_most y one))) (affirmed (lies_in x asked))) no_hint) (words 10 11 ∷ [])
unfolding read_word read_leaves
two_cases = (refl, refl)

-- `z = x + y; { x in ? }`
behind_definition : Gives (define (names_value (plain Plain (codes "z")) exactly x_plus_y)
    (formula (single (affirmed (lies_in x asked))) no_hint)) (words 7 8 ∷ [])
unfolding read_word read_leaves
behind_definition = (refl, refl)

-- `{ x in ? } x -> y { y <> 0 };`: a hint has a brace of its own
before_hint : Gives (formula (single (affirmed (lies_in x asked)))
    (hint (rewrite x y (provided (last_need (nonzero y (codes "0"))))) no_hint)) (words 1 2 ∷ [])
unfolding read_word read_leaves
before_hint = (refl, refl)
