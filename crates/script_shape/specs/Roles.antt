-- The part that each word of a script has in it: the thing that was due and that the word stands
-- for or begins. By recursion on the tree, as the words are.
use Rattle.std.specs.Prelude.{◌≡◌, List, [], ◌∷◌, ◌++◌, take, length, map}
use Rattle.script_words.specs.Words.{Word, name, rounding, literal, sign}
use Rattle.script_words.specs.declared.class.Spelled.{Spelled}
use Rattle.script_words.specs.declared.class.Spelled.TheVariants as spelled
use Rattle.script_words.specs.declared.class.Number.TheVariants as digits_kind
use Rattle.script_words.specs.declared.class.Symbol.TheVariants as s
use Rattle.script_shape.specs.declared.due.Due.{Due}
use Rattle.script_shape.specs.declared.due.Due.TheVariants as d
use Rattle.script_shape.specs.Expressions.{AnyName, plain, operator, Special, free, defined, Digits}
use Rattle.script_shape.specs.Expressions.{zero_alone, digits, Whole, natural, opposite, Bound}
use Rattle.script_shape.specs.Expressions.{unsigned, positive, negative, Operator, fixed, int, Expr}
use Rattle.script_shape.specs.Expressions.{term, sum, difference, Term, factor, product, quotient}
use Rattle.script_shape.specs.Expressions.{Factor, negation, atom, Atom, number, variable}
use Rattle.script_shape.specs.Expressions.{parenthesized, absolute, called, rounded, fused}
use Rattle.script_shape.specs.Propositions.{Range, asked, between, Prop, lies_in, relative_in}
use Rattle.script_shape.specs.Propositions.{at_most, at_least, multiple, Stated, affirmed, denied}
use Rattle.script_shape.specs.Propositions.{Formula, single, and, or, implies}
use Rattle.script_shape.specs.Hints.{Need, nonzero, below, not_above, above, not_below, NeedList}
use Rattle.script_shape.specs.Hints.{last_need, more_needs, Needs, always, provided, Points}
use Rattle.script_shape.specs.Hints.{last_point, more_points, CutForm, in_four, pieces, at_points}
use Rattle.script_shape.specs.Hints.{Names, last_name, more_names, Halving, halved_by, with_goal}
use Rattle.script_shape.specs.Hints.{Hint, rewrite, like, split, halving, Hints, no_hint, hint}
use Rattle.script_shape.specs.Tree.{How, exactly, rounded_by, rounded_apart, rounded_joined}
use Rattle.script_shape.specs.Tree.{Definition, names_operator, names_value, Script, formula}
use Rattle.script_shape.specs.Tree.{define, script_words}

-- a word, and the thing that was due where it stands
pub record Leaf : Type 0 where
  pub role : Due
  pub word : Word

-- the word where this was due
abbrev pub at : Due → Word → Leaf
at r w = record { role = r; word = w }

-- the leaves of a name, where this is due
abbrev pub name_leaves : Due → AnyName → List Leaf
name_leaves r (plain k text) = at r (name k text) ∷ []
name_leaves r (operator k text) = at r (rounding k text) ∷ []

-- the leaves of `FIX` or of a direction, where this is due
abbrev pub special_leaves : Due → Spelled → Special → List Leaf
special_leaves r k (free text) = at r (name k text) ∷ []
special_leaves r k (defined text) = at r (rounding k text) ∷ []

-- the leaves of a number without a sign, where this is due
abbrev pub digits_leaves : Due → Digits → List Leaf
digits_leaves r (zero_alone text) = at r (literal digits_kind.Zero text) ∷ []
digits_leaves r (digits text) = at r (literal digits_kind.Digits text) ∷ []

-- the leaves of a whole number
abbrev pub whole_leaves : Whole → List Leaf
whole_leaves (natural k) = digits_leaves d.Whole k
whole_leaves (opposite k) = at d.Whole (sign s.Minus) ∷ digits_leaves d.WholeDigits k

-- the leaves of a bound
abbrev pub bound_leaves : Bound → List Leaf
bound_leaves (unsigned k text) = at d.Bound (literal k text) ∷ []
bound_leaves (positive k text) = at d.Bound (sign s.Plus) ∷ (at d.Magnitude (literal k text) ∷ [])
bound_leaves (negative k text) = at d.Bound (sign s.Minus) ∷ (at d.Magnitude (literal k text) ∷ [])

-- the leaves of an operator, where this is due
abbrev pub operator_leaves : Due → Operator → List Leaf
operator_leaves r (fixed l x) = at r (sign s.Fixed) ∷ (at d.Less (sign s.Less) ∷ (whole_leaves l
    ++ (at d.Comma (sign s.Comma) ∷ special_leaves d.Direction spelled.Direction x)))
operator_leaves r (int x) =
    at r (sign s.Int) ∷ (at d.Less (sign s.Less) ∷ special_leaves d.Direction spelled.Direction x)

abbrev mutual
  pub expr_leaves : Expr → List Leaf
  expr_leaves (term t) = term_leaves t
  expr_leaves (sum e t) = expr_leaves e ++ (at d.Tail (sign s.Plus) ∷ term_leaves t)
  expr_leaves (difference e t) = expr_leaves e ++ (at d.Tail (sign s.Minus) ∷ term_leaves t)

  pub term_leaves : Term → List Leaf
  term_leaves (factor f) = factor_leaves f
  term_leaves (product t f) = term_leaves t ++ (at d.Tail (sign s.Star) ∷ factor_leaves f)
  term_leaves (quotient t f) = term_leaves t ++ (at d.Tail (sign s.Slash) ∷ factor_leaves f)

  pub factor_leaves : Factor → List Leaf
  factor_leaves (negation f) = at d.Operand (sign s.Minus) ∷ factor_leaves f
  factor_leaves (atom a) = atom_leaves a

  pub atom_leaves : Atom → List Leaf
  atom_leaves (number k text) = at d.Operand (literal k text) ∷ []
  atom_leaves (variable k text) = at d.Operand (name k text) ∷ []
  atom_leaves (parenthesized e) = at d.Operand (sign s.OpenParen)
      ∷ (expr_leaves e ++ (at d.CloseParen (sign s.CloseParen) ∷ []))
  atom_leaves (absolute e) =
      at d.Operand (sign s.Bar) ∷ (expr_leaves e ++ (at d.CloseBar (sign s.Bar) ∷ []))
  atom_leaves (called k text e) = at d.Operand (rounding k text) ∷ (at d.OpenParen
      (sign s.OpenParen) ∷ (expr_leaves e ++ (at d.CloseParen (sign s.CloseParen) ∷ [])))
  atom_leaves (rounded o e) =
      operator_leaves d.Operand o ++ (at d.Greater (sign s.Greater) ∷ (at d.OpenParen
      (sign s.OpenParen) ∷ (expr_leaves e ++ (at d.CloseParen (sign s.CloseParen) ∷ []))))
  atom_leaves (fused a b c) = at d.Operand (sign s.Fma) ∷ (at d.OpenParen (sign s.OpenParen)
      ∷ (expr_leaves a ++ (at d.Comma (sign s.Comma) ∷ (expr_leaves b ++ (at d.Comma (sign s.Comma)
      ∷ (expr_leaves c ++ (at d.CloseParen (sign s.CloseParen) ∷ [])))))))

-- the leaves of a range
abbrev pub range_leaves : Range → List Leaf
range_leaves asked = at d.Range (sign s.Ask) ∷ []
range_leaves (between a b) = at d.Range (sign s.OpenBracket) ∷ (bound_leaves a ++ (at d.Comma
    (sign s.Comma) ∷ (bound_leaves b ++ (at d.CloseBracket (sign s.CloseBracket) ∷ []))))

-- the leaves of a proposition
abbrev pub prop_leaves : Prop → List Leaf
prop_leaves (lies_in e r) = expr_leaves e ++ (at d.Relation (sign s.In) ∷ range_leaves r)
prop_leaves (relative_in a b r) = expr_leaves a
    ++ (at d.Relation (sign s.Against) ∷ (expr_leaves b ++ (at d.In (sign s.In) ∷ range_leaves r)))
prop_leaves (at_most e b) = expr_leaves e ++ (at d.Relation (sign s.LessEqual) ∷ bound_leaves b)
prop_leaves (at_least e b) = expr_leaves e ++ (at d.Relation (sign s.GreaterEqual) ∷ bound_leaves b)
prop_leaves (multiple f e k) = at d.Prop (sign s.At) ∷ (special_leaves d.Fix spelled.Fix f
    ++ (at d.OpenParen (sign s.OpenParen) ∷ (expr_leaves e ++ (at d.Comma (sign s.Comma)
    ∷ (whole_leaves k ++ (at d.CloseParen (sign s.CloseParen) ∷ []))))))

-- the leaves of a proposition, or of its denial
abbrev pub stated_leaves : Stated → List Leaf
stated_leaves (affirmed p) = prop_leaves p
stated_leaves (denied p) = at d.Claim (sign s.Not) ∷ prop_leaves p

-- the leaves of a formula
abbrev pub formula_leaves : Formula → List Leaf
formula_leaves (single p) = stated_leaves p
formula_leaves (and f p) = formula_leaves f ++ (at d.Connective (sign s.And) ∷ stated_leaves p)
formula_leaves (or f p) = formula_leaves f ++ (at d.Connective (sign s.Or) ∷ stated_leaves p)
formula_leaves (implies f p) =
    formula_leaves f ++ (at d.Connective (sign s.Arrow) ∷ stated_leaves p)

-- the leaves of a need
abbrev pub need_leaves : Need → List Leaf
need_leaves (nonzero e zero_text) = expr_leaves e
    ++ (at d.NeedRelation (sign s.Unequal) ∷ (at d.Zero (literal digits_kind.Zero zero_text) ∷ []))
need_leaves (below e b) = expr_leaves e ++ (at d.NeedRelation (sign s.Less) ∷ bound_leaves b)
need_leaves (not_above e b) =
    expr_leaves e ++ (at d.NeedRelation (sign s.LessEqual) ∷ bound_leaves b)
need_leaves (above e b) = expr_leaves e ++ (at d.NeedRelation (sign s.Greater) ∷ bound_leaves b)
need_leaves (not_below e b) =
    expr_leaves e ++ (at d.NeedRelation (sign s.GreaterEqual) ∷ bound_leaves b)

-- the leaves of needs, with commas between
abbrev pub need_list_leaves : NeedList → List Leaf
need_list_leaves (last_need n) = need_leaves n
need_list_leaves (more_needs n l) =
    need_leaves n ++ (at d.MoreNeeds (sign s.Comma) ∷ need_list_leaves l)

-- the leaves of a rewriting's needs
abbrev pub needs_leaves : Needs → List Leaf
needs_leaves always = []
needs_leaves (provided l) = at d.Needs (sign s.OpenBrace)
    ∷ (need_list_leaves l ++ (at d.CloseBrace (sign s.CloseBrace) ∷ []))

-- the leaves of points, with commas between
abbrev pub points_leaves : Points → List Leaf
points_leaves (last_point b) = bound_leaves b
points_leaves (more_points b l) = bound_leaves b ++ (at d.Points (sign s.Comma) ∷ points_leaves l)

-- the leaves of a split, behind the variable
abbrev pub cut_leaves : CutForm → List Leaf
cut_leaves in_four = []
cut_leaves (pieces k) = at d.SplitCut (sign s.In) ∷ digits_leaves d.Cut k
cut_leaves (at_points l) = at d.SplitCut (sign s.In) ∷ (at d.Cut (sign s.OpenParen)
    ∷ (points_leaves l ++ (at d.CloseParen (sign s.CloseParen) ∷ [])))

-- the leaves of names, with commas between
abbrev pub names_leaves : Names → List Leaf
names_leaves (last_name n) = name_leaves d.SplitName n
names_leaves (more_names n l) =
    name_leaves d.SplitName n ++ (at d.SplitNames (sign s.Comma) ∷ names_leaves l)

-- the sign that goes on with a list of goals has the role of what was due there: first HintRest,
-- then GoalSplit
abbrev pub halving_leaves : Due → Halving → List Leaf
halving_leaves r (halved_by e n) = expr_leaves e ++ (at r (sign s.Dollar) ∷ names_leaves n)
halving_leaves r (with_goal e h) =
    expr_leaves e ++ (at r (sign s.Comma) ∷ halving_leaves d.GoalSplit h)

-- the leaves of a hint, without the semicolon
abbrev pub hint_leaves : Hint → List Leaf
hint_leaves (rewrite a b n) =
    expr_leaves a ++ (at d.HintRest (sign s.Arrow) ∷ (expr_leaves b ++ needs_leaves n))
hint_leaves (like a b) = expr_leaves a ++ (at d.HintRest (sign s.Tilde) ∷ expr_leaves b)
hint_leaves (split n c) = at d.Hints (sign s.Dollar) ∷ (name_leaves d.SplitName n ++ cut_leaves c)
hint_leaves (halving h) = halving_leaves d.HintRest h

-- the leaves of hints, with a semicolon behind each
abbrev pub hints_leaves : Hints → List Leaf
hints_leaves no_hint = []
hints_leaves (hint h l) = hint_leaves h ++ (at d.Semicolon (sign s.Semicolon) ∷ hints_leaves l)

-- the leaves of what stands between a defined name and its expression
abbrev pub how_leaves : How → List Leaf
how_leaves exactly = at d.DefinedBy (sign s.Equal) ∷ []
how_leaves (rounded_by k text) = at d.DefinedBy (rounding k text) ∷ (at d.Equal (sign s.Equal) ∷ [])
how_leaves (rounded_apart o) = operator_leaves d.DefinedBy o
    ++ (at d.CloseOperator (sign s.Greater) ∷ (at d.Equal (sign s.Equal) ∷ []))
how_leaves (rounded_joined o) =
    operator_leaves d.DefinedBy o ++ (at d.CloseOperator (sign s.GreaterEqual) ∷ [])

-- the leaves of a definition
abbrev pub definition_leaves : Definition → List Leaf
definition_leaves (names_operator n o) = at d.Script (sign s.At)
    ∷ (name_leaves d.NewName n ++ (at d.Equal (sign s.Equal) ∷ (operator_leaves d.Operator o
    ++ (at d.Greater (sign s.Greater) ∷ (at d.Semicolon (sign s.Semicolon) ∷ [])))))
definition_leaves (names_value n h e) = name_leaves d.Script n
    ++ (how_leaves h ++ (expr_leaves e ++ (at d.Semicolon (sign s.Semicolon) ∷ [])))

-- the leaves of a script
abbrev pub script_leaves : Script → List Leaf
script_leaves (formula f h) = at d.Script (sign s.OpenBrace)
    ∷ (formula_leaves f ++ (at d.CloseBrace (sign s.CloseBrace) ∷ hints_leaves h))
script_leaves (define x rest) = definition_leaves x ++ script_leaves rest

-- The words are those of the leaves, and so the leaves tell the role of each word.
pub record HasRoles (ws : List Word) (leaves : List Leaf) : Type 0 where
  pub tree : Script
  pub words : (more : List Word) × (script_words tree ≡ ws ++ more)
  pub roles : take (length ws) (script_leaves tree) ≡ leaves

-- the words that have a role, each with its own
abbrev pub leaves_of : List Due → List Word → List Leaf
leaves_of [] ws = []
leaves_of (r ∷ rs) [] = []
leaves_of (r ∷ rs) (w ∷ ws) = at r w ∷ leaves_of rs ws

-- The leaves of a script's tree have its words.
abbrev pub LeavesSpell : Type 0
LeavesSpell = (tree : Script) → map (λ l. l.word) (script_leaves tree) ≡ script_words tree

-- Where words are all of a script, their leaves are those of its tree.
abbrev pub LeavesAreOfTrees : Type 0
LeavesAreOfTrees = (tree : Script) (ws : List Word) (leaves : List Leaf) → script_words tree ≡ ws
    → HasRoles ws leaves → leaves ≡ script_leaves tree
