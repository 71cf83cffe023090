-- The stack gives the roles of a tree's leaves: a run_as that checks them goes through.
use Rattle.std.proofs.Common.{◌≡◌, List, [], ◌∷◌, ◌++◌, Some, option_and_then, refl, sym, ap, ◌∙◌}
use Rattle.std.proofs.Common.{append_assoc}
use Rattle.script_words.specs.declared.class.Spelled.TheVariants as spelled
use Rattle.script_words.specs.declared.class.Symbol.TheVariants as s
use Rattle.script_words.specs.Words.{Word, name, rounding, literal, sign, class_of}
use Rattle.script_shape.specs.declared.due.Due.{Due}
use Rattle.script_shape.specs.declared.due.Due.TheVariants as due
use Rattle.script_shape.specs.Expressions.{AnyName, plain, operator, Special, free, defined}
use Rattle.script_shape.specs.Expressions.{zero_alone, digits, Whole, natural, opposite, Bound}
use Rattle.script_shape.specs.Expressions.{unsigned, positive, negative, Operator, fixed, int, Expr}
use Rattle.script_shape.specs.Expressions.{term, sum, difference, Term, factor, product, quotient}
use Rattle.script_shape.specs.Expressions.{Factor, negation, atom, Atom, number, variable}
use Rattle.script_shape.specs.Expressions.{parenthesized, absolute, called, rounded, fused}
use Rattle.script_shape.specs.Propositions.{Range, asked, between, Prop, lies_in, relative_in}
use Rattle.script_shape.specs.Propositions.{at_most, at_least, multiple, Stated, affirmed, denied}
use Rattle.script_shape.specs.Propositions.{Formula, single, and, or, implies}
use Rattle.script_shape.specs.Hints.{Need, nonzero, below, not_above, above, not_below, NeedList}
use Rattle.script_shape.specs.Hints.{last_need, more_needs, always, provided, Points, last_point}
use Rattle.script_shape.specs.Hints.{more_points, in_four, pieces, at_points, Names, last_name}
use Rattle.script_shape.specs.Hints.{more_names, Halving, halved_by, with_goal, Hint, rewrite, like}
use Rattle.script_shape.specs.Hints.{split, halving, Hints, no_hint, hint}
use Rattle.script_shape.specs.Tree.{How, exactly, rounded_by, rounded_apart, rounded_joined}
use Rattle.script_shape.specs.Tree.{Definition, names_operator, names_value, Script, formula}
use Rattle.script_shape.specs.Tree.{define}
use Rattle.script_shape.specs.Roles.{Leaf, at, name_leaves, special_leaves, whole_leaves}
use Rattle.script_shape.specs.Roles.{bound_leaves, operator_leaves, expr_leaves, term_leaves}
use Rattle.script_shape.specs.Roles.{factor_leaves, atom_leaves, range_leaves, prop_leaves}
use Rattle.script_shape.specs.Roles.{stated_leaves, formula_leaves, need_leaves, need_list_leaves}
use Rattle.script_shape.specs.Roles.{points_leaves, names_leaves, halving_leaves, hint_leaves}
use Rattle.script_shape.specs.Roles.{hints_leaves, how_leaves, definition_leaves, script_leaves}
use Rattle.script_shape.specs.Table.{operand}
use Rattle.script_shape.specs.Shape.{step, role_next, start}
use Rattle.script_shape.proofs.Checked.{step_as, run_as}

regroup : (a b rest : List Leaf) (left : List Due)
    → run_as ((a ++ b) ++ rest) left ≡ run_as (a ++ (b ++ rest)) left
regroup a b rest left = ap (λ l. run_as l left) (append_assoc a b rest)

name_drives : (n : AnyName) (rest : List Leaf) (left : List Due)
    → run_as (name_leaves due.SplitName n ++ rest) (due.SplitName ∷ left) ≡ run_as rest left
unfolding run_as step_as step role_next
name_drives (plain k t) rest left = refl
name_drives (operator k t) rest left = refl

direction_drives : (n : Special) (rest : List Leaf) (left : List Due)
    → run_as (special_leaves due.Direction spelled.Direction n ++ rest)
    (due.Direction ∷ left) ≡ run_as rest left
unfolding run_as step_as step role_next
direction_drives (free t) rest left = refl
direction_drives (defined t) rest left = refl

whole_drives : (k : Whole) (rest : List Leaf) (left : List Due)
    → run_as (whole_leaves k ++ rest) (due.Whole ∷ left) ≡ run_as rest left
unfolding run_as step_as step role_next
whole_drives (natural (zero_alone t)) rest left = refl
whole_drives (natural (digits t)) rest left = refl
whole_drives (opposite (zero_alone t)) rest left = refl
whole_drives (opposite (digits t)) rest left = refl

bound_drives : (b : Bound) (rest : List Leaf) (left : List Due)
    → run_as (bound_leaves b ++ rest) (due.Bound ∷ left) ≡ run_as rest left
unfolding run_as step_as step role_next
bound_drives (unsigned k t) rest left = refl
bound_drives (positive k t) rest left = refl
bound_drives (negative k t) rest left = refl

-- an operator where it begins an operand, up to its closing sign
rounded_drives : (o : Operator) (rest : List Leaf) (left : List Due)
    → run_as (operator_leaves due.Operand o
    ++ (at due.Greater (sign s.Greater) ∷ (at due.OpenParen (sign s.OpenParen) ∷ rest)))
    (due.Operand ∷ left) ≡ run_as rest (due.Operand ∷ due.CloseParen ∷ due.Tail ∷ left)
unfolding run_as step_as step role_next
rounded_drives (fixed l d) rest left =
    regroup (whole_leaves l) _ _ _ ∙ whole_drives l _ _ ∙ direction_drives d _ _
rounded_drives (int d) rest left = direction_drives d _ _

mutual
  unfolding run_as step_as step role_next

  pub expr_drives : (e : Expr) (rest : List Leaf) (left : List Due)
      → run_as (expr_leaves e ++ rest) (due.Operand ∷ left) ≡ run_as rest (due.Tail ∷ left)
  expr_drives (term t) rest left = term_drives t rest left
  expr_drives (sum e t) rest left = regroup (expr_leaves e) _ rest _ ∙ expr_drives e _ left
      ∙ term_drives t rest left
  expr_drives (difference e t) rest left = regroup (expr_leaves e) _ rest _ ∙ expr_drives e _ left
      ∙ term_drives t rest left

  pub term_drives : (t : Term) (rest : List Leaf) (left : List Due)
      → run_as (term_leaves t ++ rest) (due.Operand ∷ left) ≡ run_as rest (due.Tail ∷ left)
  term_drives (factor f) rest left = factor_drives f rest left
  term_drives (product t f) rest left = regroup (term_leaves t) _ rest _ ∙ term_drives t _ left
      ∙ factor_drives f rest left
  term_drives (quotient t f) rest left = regroup (term_leaves t) _ rest _ ∙ term_drives t _ left
      ∙ factor_drives f rest left

  pub factor_drives : (f : Factor) (rest : List Leaf) (left : List Due)
      → run_as (factor_leaves f ++ rest) (due.Operand ∷ left) ≡ run_as rest (due.Tail ∷ left)
  factor_drives (negation f) rest left = factor_drives f rest left
  factor_drives (atom a) rest left = atom_drives a rest left

  pub atom_drives : (a : Atom) (rest : List Leaf) (left : List Due)
      → run_as (atom_leaves a ++ rest) (due.Operand ∷ left) ≡ run_as rest (due.Tail ∷ left)
  atom_drives (number k t) rest left = refl
  atom_drives (variable k t) rest left = refl
  atom_drives (parenthesized e) rest left =
      regroup (expr_leaves e) _ rest _ ∙ expr_drives e _ (due.CloseParen ∷ (due.Tail ∷ left))
  atom_drives (absolute e) rest left =
      regroup (expr_leaves e) _ rest _ ∙ expr_drives e _ (due.CloseBar ∷ (due.Tail ∷ left))
  atom_drives (called k t e) rest left =
      regroup (expr_leaves e) _ rest _ ∙ expr_drives e _ (due.CloseParen ∷ (due.Tail ∷ left))
  atom_drives (rounded o e) rest left =
      regroup (operator_leaves due.Operand o) _ rest _ ∙ rounded_drives o _ left
      ∙ regroup (expr_leaves e) _ rest _ ∙ expr_drives e _ (due.CloseParen ∷ (due.Tail ∷ left))
  atom_drives (fused a b c) rest left = regroup (expr_leaves a) _ rest _ ∙ expr_drives a _ _
      ∙ regroup (expr_leaves b) _ rest _ ∙ expr_drives b _ _
      ∙ regroup (expr_leaves c) _ rest _ ∙ expr_drives c _ _

range_drives : (r : Range) (rest : List Leaf) (left : List Due)
    → run_as (range_leaves r ++ rest) (due.Range ∷ left) ≡ run_as rest left
unfolding run_as step_as step role_next
range_drives asked rest left = refl
range_drives (between a b) rest left = regroup (bound_leaves a) _ rest _ ∙ bound_drives a _ _
    ∙ regroup (bound_leaves b) _ rest _ ∙ bound_drives b _ _

-- ---- where an expression begins a proposition or a hint

abbrev Same : List Due → List Due → Type 0
Same there as_if = (r : Due) (w : Word) (new : List Due) → operand (class_of w) ≡ Some new
    → step_as (at r w) there ≡ step_as (at r w) as_if

same_claim : (left : List Due) → Same (due.Claim ∷ left) (due.Operand ∷ due.Relation ∷ left)
unfolding step step_as role_next
same_claim left r (sign s.Minus) new h = refl
same_claim left r (literal k t) new h = refl
same_claim left r (name k t) new h = refl
same_claim left r (sign s.OpenParen) new h = refl
same_claim left r (sign s.Bar) new h = refl
same_claim left r (rounding k t) new h = refl
same_claim left r (sign s.Fixed) new h = refl
same_claim left r (sign s.Int) new h = refl
same_claim left r (sign s.Fma) new h = refl
same_claim left r _ new h = absurd (cc h)

same_prop : (left : List Due) → Same (due.Prop ∷ left) (due.Operand ∷ due.Relation ∷ left)
unfolding step step_as role_next
same_prop left r (sign s.Minus) new h = refl
same_prop left r (literal k t) new h = refl
same_prop left r (name k t) new h = refl
same_prop left r (sign s.OpenParen) new h = refl
same_prop left r (sign s.Bar) new h = refl
same_prop left r (rounding k t) new h = refl
same_prop left r (sign s.Fixed) new h = refl
same_prop left r (sign s.Int) new h = refl
same_prop left r (sign s.Fma) new h = refl
same_prop left r _ new h = absurd (cc h)

same_hint : (left : List Due)
    → Same (due.Hints ∷ left) (due.Operand ∷ due.HintRest ∷ due.Semicolon ∷ due.Hints ∷ left)
unfolding step step_as role_next
same_hint left r (sign s.Minus) new h = refl
same_hint left r (literal k t) new h = refl
same_hint left r (name k t) new h = refl
same_hint left r (sign s.OpenParen) new h = refl
same_hint left r (sign s.Bar) new h = refl
same_hint left r (rounding k t) new h = refl
same_hint left r (sign s.Fixed) new h = refl
same_hint left r (sign s.Int) new h = refl
same_hint left r (sign s.Fma) new h = refl
same_hint left r _ new h = absurd (cc h)

module _ (there as_if : List Due) (same : Same there as_if) where
  head_same : (r : Due) (w : Word) (ws : List Leaf) (new : List Due)
      → operand (class_of w) ≡ Some new → run_as (at r w ∷ ws) there ≡ run_as (at r w ∷ ws) as_if
  unfolding run_as
  head_same r w ws new h = ap (option_and_then (run_as ws)) (same r w new h)

  again : (a b rest : List Leaf) → run_as (a ++ (b ++ rest)) there ≡ run_as (a ++ (b ++ rest)) as_if
      → run_as ((a ++ b) ++ rest) there ≡ run_as ((a ++ b) ++ rest) as_if
  again a b rest h = regroup a b rest there ∙ h ∙ sym (regroup a b rest as_if)

  atom_same : (a : Atom) (rest : List Leaf)
      → run_as (atom_leaves a ++ rest) there ≡ run_as (atom_leaves a ++ rest) as_if
  atom_same (number k t) rest = head_same _ _ _ _ refl
  atom_same (variable k t) rest = head_same _ _ _ _ refl
  atom_same (parenthesized e) rest = head_same _ _ _ _ refl
  atom_same (absolute e) rest = head_same _ _ _ _ refl
  atom_same (called k t e) rest = head_same _ _ _ _ refl
  atom_same (rounded (fixed l d) e) rest = head_same _ _ _ _ refl
  atom_same (rounded (int d) e) rest = head_same _ _ _ _ refl
  atom_same (fused a b c) rest = head_same _ _ _ _ refl

  factor_same : (f : Factor) (rest : List Leaf)
      → run_as (factor_leaves f ++ rest) there ≡ run_as (factor_leaves f ++ rest) as_if
  factor_same (negation f) rest = head_same _ _ _ _ refl
  factor_same (atom a) rest = atom_same a rest

  term_same : (t : Term) (rest : List Leaf)
      → run_as (term_leaves t ++ rest) there ≡ run_as (term_leaves t ++ rest) as_if
  term_same (factor f) rest = factor_same f rest
  term_same (product t f) rest = again (term_leaves t) _ rest (term_same t _)
  term_same (quotient t f) rest = again (term_leaves t) _ rest (term_same t _)

  expr_same : (e : Expr) (rest : List Leaf)
      → run_as (expr_leaves e ++ rest) there ≡ run_as (expr_leaves e ++ rest) as_if
  expr_same (term t) rest = term_same t rest
  expr_same (sum e t) rest = again (expr_leaves e) _ rest (expr_same e _)
  expr_same (difference e t) rest = again (expr_leaves e) _ rest (expr_same e _)

prop_begins : (e : Expr) (rest : List Leaf) (left : List Due) → run_as (expr_leaves e ++ rest)
    (due.Prop ∷ left) ≡ run_as rest (due.Tail ∷ due.Relation ∷ left)
prop_begins e rest left =
    expr_same _ _ (same_prop left) e rest ∙ expr_drives e rest (due.Relation ∷ left)

claim_begins : (e : Expr) (rest : List Leaf) (left : List Due) → run_as (expr_leaves e ++ rest)
    (due.Claim ∷ left) ≡ run_as rest (due.Tail ∷ due.Relation ∷ left)
claim_begins e rest left =
    expr_same _ _ (same_claim left) e rest ∙ expr_drives e rest (due.Relation ∷ left)

hint_begins : (e : Expr) (rest : List Leaf) (left : List Due) → run_as (expr_leaves e ++ rest)
    (due.Hints ∷ left) ≡ run_as rest (due.Tail ∷ due.HintRest ∷ due.Semicolon ∷ due.Hints ∷ left)
hint_begins e rest left = expr_same _ _ (same_hint left) e rest ∙ expr_drives e rest _

-- ---- propositions

fix_drives : (n : Special) (rest : List Leaf) (left : List Due)
    → run_as (special_leaves due.Fix spelled.Fix n ++ rest) (due.Fix ∷ left) ≡ run_as rest left
unfolding run_as step_as step role_next
fix_drives (free t) rest left = refl
fix_drives (defined t) rest left = refl

prop_drives : (p : Prop) (rest : List Leaf) (left : List Due)
    → run_as (prop_leaves p ++ rest) (due.Prop ∷ left) ≡ run_as rest left
unfolding run_as step_as step role_next
prop_drives (lies_in e r) rest left = regroup (expr_leaves e) _ rest _ ∙ prop_begins e _ left
    ∙ range_drives r rest left
prop_drives (relative_in a b r) rest left = regroup (expr_leaves a) _ rest _ ∙ prop_begins a _ left
    ∙ regroup (expr_leaves b) _ rest _ ∙ expr_drives b _ _ ∙ range_drives r rest left
prop_drives (at_most e b) rest left = regroup (expr_leaves e) _ rest _ ∙ prop_begins e _ left
    ∙ bound_drives b rest left
prop_drives (at_least e b) rest left = regroup (expr_leaves e) _ rest _ ∙ prop_begins e _ left
    ∙ bound_drives b rest left
prop_drives (multiple f e k) rest left = regroup (special_leaves due.Fix spelled.Fix f) _ rest _
    ∙ fix_drives f _ _ ∙ regroup (expr_leaves e) _ rest _ ∙ expr_drives e _ _
    ∙ regroup (whole_leaves k) _ rest _ ∙ whole_drives k _ _

affirmed_drives : (p : Prop) (rest : List Leaf) (left : List Due)
    → run_as (prop_leaves p ++ rest) (due.Claim ∷ left) ≡ run_as rest left
unfolding run_as step_as step role_next
affirmed_drives (lies_in e r) rest left = regroup (expr_leaves e) _ rest _ ∙ claim_begins e _ left
    ∙ range_drives r rest left
affirmed_drives (relative_in a b r) rest left =
    regroup (expr_leaves a) _ rest _ ∙ claim_begins a _ left ∙ regroup (expr_leaves b) _ rest _
    ∙ expr_drives b _ _ ∙ range_drives r rest left
affirmed_drives (at_most e b) rest left = regroup (expr_leaves e) _ rest _ ∙ claim_begins e _ left
    ∙ bound_drives b rest left
affirmed_drives (at_least e b) rest left = regroup (expr_leaves e) _ rest _ ∙ claim_begins e _ left
    ∙ bound_drives b rest left
affirmed_drives (multiple f e k) rest left = regroup (special_leaves due.Fix spelled.Fix f) _ rest _
    ∙ fix_drives f _ _ ∙ regroup (expr_leaves e) _ rest _ ∙ expr_drives e _ _
    ∙ regroup (whole_leaves k) _ rest _ ∙ whole_drives k _ _

stated_drives : (p : Stated) (rest : List Leaf) (left : List Due)
    → run_as (stated_leaves p ++ rest) (due.Claim ∷ left) ≡ run_as rest left
unfolding run_as step_as step role_next
stated_drives (affirmed p) rest left = affirmed_drives p rest left
stated_drives (denied p) rest left = prop_drives p rest left

formula_drives : (f : Formula) (rest : List Leaf) (left : List Due)
    → run_as (formula_leaves f ++ rest) (due.Claim ∷ due.Connective ∷ left)
    ≡ run_as rest (due.Connective ∷ left)
unfolding run_as step_as step role_next
formula_drives (single p) rest left = stated_drives p rest _
formula_drives (and f p) rest left = regroup (formula_leaves f) _ rest _ ∙ formula_drives f _ left
    ∙ stated_drives p rest _
formula_drives (or f p) rest left = regroup (formula_leaves f) _ rest _ ∙ formula_drives f _ left
    ∙ stated_drives p rest _
formula_drives (implies f p) rest left =
    regroup (formula_leaves f) _ rest _ ∙ formula_drives f _ left ∙ stated_drives p rest _

-- ---- hints

need_drives : (n : Need) (rest : List Leaf) (left : List Due)
    → run_as (need_leaves n ++ rest) (due.Operand ∷ due.NeedRelation ∷ left) ≡ run_as rest left
unfolding run_as step_as step role_next
need_drives (nonzero e z) rest left = regroup (expr_leaves e) _ rest _ ∙ expr_drives e _ _
need_drives (below e b) rest left =
    regroup (expr_leaves e) _ rest _ ∙ expr_drives e _ _ ∙ bound_drives b rest left
need_drives (not_above e b) rest left =
    regroup (expr_leaves e) _ rest _ ∙ expr_drives e _ _ ∙ bound_drives b rest left
need_drives (above e b) rest left =
    regroup (expr_leaves e) _ rest _ ∙ expr_drives e _ _ ∙ bound_drives b rest left
need_drives (not_below e b) rest left =
    regroup (expr_leaves e) _ rest _ ∙ expr_drives e _ _ ∙ bound_drives b rest left

need_list_drives : (l : NeedList) (rest : List Leaf) (left : List Due)
    → run_as (need_list_leaves l ++ rest) (due.Operand ∷ due.NeedRelation ∷ due.MoreNeeds ∷ left)
    ≡ run_as rest (due.MoreNeeds ∷ left)
unfolding run_as step_as step role_next
need_list_drives (last_need n) rest left = need_drives n rest _
need_list_drives (more_needs n l) rest left =
    regroup (need_leaves n) _ rest _ ∙ need_drives n _ _ ∙ need_list_drives l rest left

points_drive : (l : Points) (rest : List Leaf) (left : List Due) → run_as (points_leaves l ++ rest)
    (due.Bound ∷ due.Points ∷ left) ≡ run_as rest (due.Points ∷ left)
unfolding run_as step_as step role_next
points_drive (last_point b) rest left = bound_drives b rest _
points_drive (more_points b l) rest left =
    regroup (bound_leaves b) _ rest _ ∙ bound_drives b _ _ ∙ points_drive l rest left

names_drive : (l : Names) (rest : List Leaf) (left : List Due) → run_as (names_leaves l ++ rest)
    (due.SplitName ∷ due.SplitNames ∷ left) ≡ run_as rest (due.SplitNames ∷ left)
unfolding run_as step_as step role_next
names_drive (last_name n) rest left = name_drives n rest _
names_drive (more_names n l) rest left =
    regroup (name_leaves due.SplitName n) _ rest _ ∙ name_drives n _ _ ∙ names_drive l rest left

halving_goes : (h : Halving) (rest : List Leaf)
    → run_as (halving_leaves due.GoalSplit h ++ (at due.Semicolon (sign s.Semicolon) ∷ rest))
    (due.Operand ∷ due.GoalSplit ∷ due.Semicolon ∷ due.Hints ∷ []) ≡ run_as rest (due.Hints ∷ [])
unfolding run_as step_as step role_next
halving_goes (halved_by e n) rest =
    regroup (expr_leaves e) _ _ _ ∙ expr_drives e _ _ ∙ names_drive n _ _
halving_goes (with_goal e h) rest =
    regroup (expr_leaves e) _ _ _ ∙ expr_drives e _ _ ∙ halving_goes h rest

hint_drives : (h : Hint) (rest : List Leaf) → run_as (hint_leaves h
    ++ (at due.Semicolon (sign s.Semicolon) ∷ rest)) (due.Hints ∷ []) ≡ run_as rest (due.Hints ∷ [])
unfolding run_as step_as step role_next
hint_drives (rewrite a b always) rest = regroup (expr_leaves a) _ _ _ ∙ hint_begins a _ _
    ∙ regroup (expr_leaves b) [] _ _ ∙ expr_drives b _ _
hint_drives (rewrite a b (provided l)) rest = regroup (expr_leaves a) _ _ _ ∙ hint_begins a _ _
    ∙ regroup (expr_leaves b) _ _ _ ∙ expr_drives b _ _ ∙ regroup (need_list_leaves l) _ _ _
    ∙ need_list_drives l _ _
hint_drives (like a b) rest = regroup (expr_leaves a) _ _ _ ∙ hint_begins a _ _ ∙ expr_drives b _ _
hint_drives (split n in_four) rest =
    regroup (name_leaves due.SplitName n) [] _ _ ∙ name_drives n _ _
hint_drives (split n (pieces (zero_alone t))) rest =
    regroup (name_leaves due.SplitName n) _ _ _ ∙ name_drives n _ _
hint_drives (split n (pieces (digits t))) rest =
    regroup (name_leaves due.SplitName n) _ _ _ ∙ name_drives n _ _
hint_drives (split n (at_points l)) rest = regroup (name_leaves due.SplitName n) _ _ _
    ∙ name_drives n _ _ ∙ regroup (points_leaves l) _ _ _ ∙ points_drive l _ _
hint_drives (halving (halved_by e n)) rest =
    regroup (expr_leaves e) _ _ _ ∙ hint_begins e _ _ ∙ names_drive n _ _
hint_drives (halving (with_goal e h)) rest =
    regroup (expr_leaves e) _ _ _ ∙ hint_begins e _ _ ∙ halving_goes h rest

hints_drive : (l : Hints) → run_as (hints_leaves l) (due.Hints ∷ []) ≡ Some (due.Hints ∷ [])
unfolding run_as step_as step role_next
hints_drive no_hint = refl
hints_drive (hint h l) = hint_drives h (hints_leaves l) ∙ hints_drive l

-- ---- definitions and scripts

operator_drives : (o : Operator) (rest : List Leaf) (left : List Due)
    → run_as (operator_leaves due.Operator o ++ rest) (due.Operator ∷ left) ≡ run_as rest left
unfolding run_as step_as step role_next
operator_drives (fixed l d) rest left =
    regroup (whole_leaves l) _ rest _ ∙ whole_drives l _ _ ∙ direction_drives d _ _
operator_drives (int d) rest left = direction_drives d _ _

how_drives : (h : How) (rest : List Leaf) (left : List Due)
    → run_as (how_leaves h ++ rest) (due.DefinedBy ∷ left) ≡ run_as rest left
unfolding run_as step_as step role_next
how_drives exactly rest left = refl
how_drives (rounded_by k t) rest left = refl
how_drives (rounded_apart (fixed l d)) rest left = regroup (whole_leaves l
    ++ (at due.Comma (sign s.Comma) ∷ special_leaves due.Direction spelled.Direction d)) _ rest _
    ∙ regroup (whole_leaves l) _ _ _ ∙ whole_drives l _ _ ∙ direction_drives d _ _
how_drives (rounded_apart (int d)) rest left =
    regroup (special_leaves due.Direction spelled.Direction d) _ rest _ ∙ direction_drives d _ _
how_drives (rounded_joined (fixed l d)) rest left = regroup (whole_leaves l
    ++ (at due.Comma (sign s.Comma) ∷ special_leaves due.Direction spelled.Direction d)) _ rest _
    ∙ regroup (whole_leaves l) _ _ _ ∙ whole_drives l _ _ ∙ direction_drives d _ _
how_drives (rounded_joined (int d)) rest left =
    regroup (special_leaves due.Direction spelled.Direction d) _ rest _ ∙ direction_drives d _ _

defined_drives : (h : How) (e : Expr) (rest : List Leaf)
    → run_as ((how_leaves h ++ (expr_leaves e ++ (at due.Semicolon (sign s.Semicolon) ∷ [])))
    ++ rest) (due.DefinedBy ∷ due.Operand ∷ due.Semicolon ∷ due.Script ∷ [])
    ≡ run_as rest (due.Script ∷ [])
unfolding run_as step_as step role_next
defined_drives h e rest = regroup (how_leaves h) _ rest _ ∙ how_drives h _ _
    ∙ regroup (expr_leaves e) _ rest _ ∙ expr_drives e _ _

definition_drives : (x : Definition) (rest : List Leaf)
    → run_as (definition_leaves x ++ rest) (due.Script ∷ []) ≡ run_as rest (due.Script ∷ [])
unfolding run_as step_as step role_next
definition_drives (names_operator (plain k t) o) rest =
    regroup (operator_leaves due.Operator o) _ rest _ ∙ operator_drives o _ _
definition_drives (names_operator (operator k t) o) rest =
    regroup (operator_leaves due.Operator o) _ rest _ ∙ operator_drives o _ _
definition_drives (names_value (plain k t) h e) rest = defined_drives h e rest
definition_drives (names_value (operator k t) h e) rest = defined_drives h e rest

pub script_drives : (tree : Script) → run_as (script_leaves tree) start ≡ Some (due.Hints ∷ [])
unfolding run_as step_as step role_next
script_drives (formula f l) = formula_drives f _ _ ∙ hints_drive l
script_drives (define x rest) = definition_drives x (script_leaves rest) ∙ script_drives rest
