-- The stack tells the role that each word has in every tree that the words begin.
use Rattle.std.proofs.Common.{◌≡◌, ℕ, suc, List, [], ◌∷◌, ◌++◌, length, take, Option, Some, None}
use Rattle.std.proofs.Common.{option_and_then, Bool, true, false, cond, eqb, map, refl, sym, ap}
use Rattle.std.proofs.Common.{◌∙◌, append-nil}
use Rattle.std.proofs.lemmas.List.{map-append, length-map}
use Rattle.std.proofs.Math.Seq.{take-length}
use Rattle.std.proofs.lemmas.Bool.{eqb-true}
use Rattle.script_words.specs.declared.class.Symbol.TheVariants as s
use Rattle.script_words.specs.Words.{Word, class_of, sign}
use Rattle.script_words.specs.declared.class.Spelled.{Spelled}
use Rattle.script_shape.specs.declared.due.Due.{Due}
use Rattle.script_shape.specs.declared.due.Due.TheVariants as due
use Rattle.script_shape.specs.Expressions.{AnyName, plain, operator, name_words, Special, free}
use Rattle.script_shape.specs.Expressions.{defined, special_words, Digits, zero_alone, digits}
use Rattle.script_shape.specs.Expressions.{digits_words, Whole, natural, opposite, whole_words}
use Rattle.script_shape.specs.Expressions.{Bound, unsigned, positive, negative, bound_words}
use Rattle.script_shape.specs.Expressions.{Operator, fixed, int, operator_words, Expr, term, sum}
use Rattle.script_shape.specs.Expressions.{difference, Term, factor, product, quotient, Factor}
use Rattle.script_shape.specs.Expressions.{negation, atom, Atom, number, variable, parenthesized}
use Rattle.script_shape.specs.Expressions.{absolute, called, rounded, fused, expr_words, term_words}
use Rattle.script_shape.specs.Expressions.{factor_words, atom_words}
use Rattle.script_shape.specs.Propositions.{Range, asked, between, range_words, Prop, lies_in}
use Rattle.script_shape.specs.Propositions.{relative_in, at_most, at_least, multiple, prop_words}
use Rattle.script_shape.specs.Propositions.{Stated, affirmed, denied, stated_words, Formula, single}
use Rattle.script_shape.specs.Propositions.{and, or, implies, formula_words}
use Rattle.script_shape.specs.Hints.{Need, nonzero, below, not_above, above, not_below, need_words}
use Rattle.script_shape.specs.Hints.{NeedList, last_need, more_needs, need_list_words, Needs}
use Rattle.script_shape.specs.Hints.{always, provided, needs_words, Points, last_point, more_points}
use Rattle.script_shape.specs.Hints.{points_words, CutForm, in_four, pieces, at_points, cut_words}
use Rattle.script_shape.specs.Hints.{Names, last_name, more_names, names_words, Halving, halved_by}
use Rattle.script_shape.specs.Hints.{with_goal, halving_words, Hint, rewrite, like, split, halving}
use Rattle.script_shape.specs.Hints.{hint_words, Hints, no_hint, hint, hints_words}
use Rattle.script_shape.specs.Tree.{How, exactly, rounded_by, rounded_apart, rounded_joined}
use Rattle.script_shape.specs.Tree.{how_words, Definition, names_operator, names_value}
use Rattle.script_shape.specs.Tree.{definition_words, Script, formula, define, script_words}
use Rattle.script_shape.specs.Roles.{Leaf, at, name_leaves, special_leaves, digits_leaves}
use Rattle.script_shape.specs.Roles.{whole_leaves, bound_leaves, operator_leaves, expr_leaves}
use Rattle.script_shape.specs.Roles.{term_leaves, factor_leaves, atom_leaves, range_leaves}
use Rattle.script_shape.specs.Roles.{prop_leaves, stated_leaves, formula_leaves, need_leaves}
use Rattle.script_shape.specs.Roles.{need_list_leaves, needs_leaves, points_leaves, cut_leaves}
use Rattle.script_shape.specs.Roles.{names_leaves, halving_leaves, hint_leaves, hints_leaves}
use Rattle.script_shape.specs.Roles.{how_leaves, definition_leaves, script_leaves, HasRoles}
use Rattle.script_shape.specs.Roles.{LeavesAreOfTrees}
use Rattle.script_shape.specs.Shape.{step, run, start}
use Rattle.script_shape.specs.ShapeLaw.{grown, roles_from}
use Rattle.script_shape.proofs.Checked.{number_of, same_number, role_at, checked, step_as, run_as}
use Rattle.script_shape.proofs.DrivesAs.{script_drives}

abbrev words_of : List Leaf → List Word
words_of ls = map (λ l. l.word) ls

-- ---- the leaves spell the words

name_spells : (r : Due) (n : AnyName) → words_of (name_leaves r n) ≡ name_words n
name_spells r (plain k t) = refl
name_spells r (operator k t) = refl

special_spells : (r : Due) (k : Spelled) (n : Special)
    → words_of (special_leaves r k n) ≡ special_words k n
special_spells r k (free t) = refl
special_spells r k (defined t) = refl

digits_spell : (r : Due) (n : Digits) → words_of (digits_leaves r n) ≡ digits_words n
digits_spell r (zero_alone t) = refl
digits_spell r (digits t) = refl

whole_spells : (n : Whole) → words_of (whole_leaves n) ≡ whole_words n
whole_spells (natural k) = digits_spell _ k
whole_spells (opposite k) = simp digits_spell

bound_spells : (n : Bound) → words_of (bound_leaves n) ≡ bound_words n
bound_spells (unsigned k t) = refl
bound_spells (positive k t) = refl
bound_spells (negative k t) = refl

operator_spells : (r : Due) (n : Operator) → words_of (operator_leaves r n) ≡ operator_words n
operator_spells r (fixed l x) = simp (map-append, whole_spells, special_spells)
operator_spells r (int x) = simp special_spells

mutual
  expr_spells : (n : Expr) → words_of (expr_leaves n) ≡ expr_words n
  expr_spells (term t) = term_spells t
  expr_spells (sum e t) = simp (map-append, expr_spells e, term_spells t)
  expr_spells (difference e t) = simp (map-append, expr_spells e, term_spells t)

  term_spells : (n : Term) → words_of (term_leaves n) ≡ term_words n
  term_spells (factor f) = factor_spells f
  term_spells (product t f) = simp (map-append, term_spells t, factor_spells f)
  term_spells (quotient t f) = simp (map-append, term_spells t, factor_spells f)

  factor_spells : (n : Factor) → words_of (factor_leaves n) ≡ factor_words n
  factor_spells (negation f) = simp (factor_spells f)
  factor_spells (atom a) = atom_spells a

  atom_spells : (n : Atom) → words_of (atom_leaves n) ≡ atom_words n
  atom_spells (number k t) = refl
  atom_spells (variable k t) = refl
  atom_spells (parenthesized e) = simp (map-append, expr_spells e)
  atom_spells (absolute e) = simp (map-append, expr_spells e)
  atom_spells (called k t e) = simp (map-append, expr_spells e)
  atom_spells (rounded o e) = simp (map-append, operator_spells, expr_spells e)
  atom_spells (fused a b c) = simp (map-append, expr_spells a, expr_spells b, expr_spells c)

range_spells : (n : Range) → words_of (range_leaves n) ≡ range_words n
range_spells asked = refl
range_spells (between a b) = simp (map-append, bound_spells)

prop_spells : (n : Prop) → words_of (prop_leaves n) ≡ prop_words n
prop_spells (lies_in e r) = simp (map-append, expr_spells, range_spells)
prop_spells (relative_in a b r) = simp (map-append, expr_spells, range_spells)
prop_spells (at_most e b) = simp (map-append, expr_spells, bound_spells)
prop_spells (at_least e b) = simp (map-append, expr_spells, bound_spells)
prop_spells (multiple f e k) = simp (map-append, special_spells, expr_spells, whole_spells)

stated_spells : (n : Stated) → words_of (stated_leaves n) ≡ stated_words n
stated_spells (affirmed p) = prop_spells p
stated_spells (denied p) = ap (λ l. sign s.Not ∷ l) (prop_spells p)

formula_spells : (n : Formula) → words_of (formula_leaves n) ≡ formula_words n
formula_spells (single p) = stated_spells p
formula_spells (and f p) = simp (map-append, formula_spells f, stated_spells)
formula_spells (or f p) = simp (map-append, formula_spells f, stated_spells)
formula_spells (implies f p) = simp (map-append, formula_spells f, stated_spells)

need_spells : (n : Need) → words_of (need_leaves n) ≡ need_words n
need_spells (nonzero e z) = simp (map-append, expr_spells)
need_spells (below e b) = simp (map-append, expr_spells, bound_spells)
need_spells (not_above e b) = simp (map-append, expr_spells, bound_spells)
need_spells (above e b) = simp (map-append, expr_spells, bound_spells)
need_spells (not_below e b) = simp (map-append, expr_spells, bound_spells)

need_list_spells : (n : NeedList) → words_of (need_list_leaves n) ≡ need_list_words n
need_list_spells (last_need n) = need_spells n
need_list_spells (more_needs n l) = simp (map-append, need_spells, need_list_spells l)

needs_spell : (n : Needs) → words_of (needs_leaves n) ≡ needs_words n
needs_spell always = refl
needs_spell (provided l) = simp (map-append, need_list_spells)

points_spell : (n : Points) → words_of (points_leaves n) ≡ points_words n
points_spell (last_point b) = bound_spells b
points_spell (more_points b l) = simp (map-append, bound_spells, points_spell l)

cut_spells : (n : CutForm) → words_of (cut_leaves n) ≡ cut_words n
cut_spells in_four = refl
cut_spells (pieces k) = simp digits_spell
cut_spells (at_points l) = simp (map-append, points_spell)

names_spell : (n : Names) → words_of (names_leaves n) ≡ names_words n
names_spell (last_name n) = name_spells _ n
names_spell (more_names n l) = simp (map-append, name_spells, names_spell l)

halving_spells : (r : Due) (n : Halving) → words_of (halving_leaves r n) ≡ halving_words n
halving_spells r (halved_by e n) = simp (map-append, expr_spells, names_spell)
halving_spells r (with_goal e h) = simp (map-append, expr_spells, halving_spells due.GoalSplit h)

hint_spells : (n : Hint) → words_of (hint_leaves n) ≡ hint_words n
hint_spells (rewrite a b n) = simp (map-append, expr_spells, needs_spell)
hint_spells (like a b) = simp (map-append, expr_spells)
hint_spells (split n c) = simp (map-append, name_spells, cut_spells)
hint_spells (halving h) = halving_spells _ h

hints_spell : (n : Hints) → words_of (hints_leaves n) ≡ hints_words n
hints_spell no_hint = refl
hints_spell (hint h l) = simp (map-append, hint_spells, hints_spell l)

how_spells : (n : How) → words_of (how_leaves n) ≡ how_words n
how_spells exactly = refl
how_spells (rounded_by k t) = refl
how_spells (rounded_apart o) = simp (map-append, operator_spells)
how_spells (rounded_joined o) = simp (map-append, operator_spells)

definition_spells : (n : Definition) → words_of (definition_leaves n) ≡ definition_words n
definition_spells (names_operator n o) = simp (map-append, name_spells, operator_spells)
definition_spells (names_value n h e) = simp (map-append, name_spells, how_spells, expr_spells)

pub script_spells : (n : Script) → words_of (script_leaves n) ≡ script_words n
script_spells (formula f h) = simp (map-append, formula_spells, hints_spell)
script_spells (define x rest) = simp (map-append, definition_spells, script_spells rest)

-- ---- and drive the stack through

one_plain : (o : Option Due) (role : Due) (next : Option (List Due))
    (go after : List Due → Option (List Due)) (end : List Due)
    → option_and_then go (checked o role next) ≡ Some end → ((left : List Due) → go left ≡ Some end
    → after left ≡ Some end) → option_and_then after next ≡ Some end
one_plain None role next go after end h k = cc h
one_plain (Some r) role next go after end h k = tested (eqb (number_of r) (number_of role)) next h
  where
    tested : (b : Bool) (next : Option (List Due))
        → option_and_then go (cond b next None) ≡ Some end → option_and_then after next ≡ Some end
    tested false next h = cc h
    tested true None h = cc h
    tested true (Some left) h = k left h

-- a run that checks roles is a run
plain_run : (ls : List Leaf) (left end : List Due) → run_as ls left ≡ Some end
    → run (words_of ls) left ≡ Some end
unfolding run run_as step_as
plain_run [] left end h = h
plain_run (l ∷ ls) left end h = one_plain (role_at l.word left) l.role (step (class_of l.word) left)
    (run_as ls) (run (words_of ls)) end h (λ next e. plain_run ls next end e)

pub script_runs : (tree : Script) → run (script_words tree) start ≡ Some (due.Hints ∷ [])
script_runs tree = ap (λ ws. run ws start) (sym (script_spells tree))
    ∙ plain_run (script_leaves tree) start _ (script_drives tree)

-- ---- and have the roles that the stack gives

one_given : (o : Option Due) (l : Leaf) (next : Option (List Due)) (more : List Due → List Leaf)
    (go : List Due → Option (List Due)) (ls : List Leaf) (end : List Due)
    → option_and_then go (checked o l.role next) ≡ Some end
    → ((left : List Due) → go left ≡ Some end → more left ≡ ls) → grown o l.word next more ≡ l ∷ ls
one_given None l next more go ls end h k = cc h
one_given (Some r) l None more go ls end h k = stuck (eqb (number_of r) (number_of l.role)) h
  where
    stuck : (b : Bool) → option_and_then go (cond b None None) ≡ Some end → [] ≡ l ∷ ls
    stuck true h = cc h
    stuck false h = cc h
one_given (Some r) l (Some left) more go ls end h k =
    given (eqb (number_of r) (number_of l.role)) refl h
  where
    given : (b : Bool) → eqb (number_of r) (number_of l.role) ≡ b
        → option_and_then go (cond b (Some left) None) ≡ Some end → at r l.word ∷ more left ≡ l ∷ ls
    given true e h = ap (λ x. at x l.word ∷ more left) (same_number r l.role (eqb-true _ _ e))
        ∙ ap (λ x. l ∷ x) (k left h)
    given false e h = cc h

given_roles : (ls : List Leaf) (left end : List Due) → run_as ls left ≡ Some end
    → roles_from (words_of ls) left ≡ ls
unfolding run_as step_as roles_from
given_roles [] left end h = refl
given_roles (l ∷ ls) left end h = one_given (role_at l.word left) l (step (class_of l.word) left)
    (roles_from (words_of ls)) (run_as ls) ls end h (λ next e. given_roles ls next end e)

one_front : (o : Option Due) (w : Word)
    (next : Option (List Due)) (more less : List Due → List Leaf) (n : ℕ) → ((left : List Due)
    → take n (more left) ≡ less left) → take (suc n) (grown o w next more) ≡ grown o w next less
one_front None w next more less n h = refl
one_front (Some r) w None more less n h = refl
one_front (Some r) w (Some left) more less n h = ap (λ l. at r w ∷ l) (h left)

front_roles : (a b : List Word) (left : List Due)
    → take (length a) (roles_from (a ++ b) left) ≡ roles_from a left
unfolding roles_from
front_roles [] b left = refl
front_roles (w ∷ a) b left = one_front (role_at w left) w (step (class_of w) left)
    (roles_from (a ++ b)) (roles_from a) (length a) (λ next. front_roles a b next)

tree_roles : (tree : Script) → roles_from (script_words tree) start ≡ script_leaves tree
tree_roles tree = ap (λ ws. roles_from ws start) (sym (script_spells tree))
    ∙ given_roles (script_leaves tree) start _ (script_drives tree)

-- in every tree that the words begin they have these roles
pub roles_in : (tree : Script) (ws more : List Word) → script_words tree ≡ ws ++ more
    → take (length ws) (script_leaves tree) ≡ roles_from ws start
roles_in tree ws more e = ap (take (length ws)) (sym (tree_roles tree)
    ∙ ap (λ l. roles_from l start) e) ∙ front_roles ws more start

pub roles_unique : (ws : List Word) (ls : List Leaf) → HasRoles ws ls → ls ≡ roles_from ws start
roles_unique ws ls h = sym h.roles ∙ roles_in h.tree ws h.words.0 h.words.1

-- ---- all words of a script

as_many : (tree : Script) (ws : List Word) → script_words tree ≡ ws
    → length ws ≡ length (script_leaves tree)
as_many tree ws e = sym (ap length (script_spells tree ∙ e))
    ∙ length-map (script_leaves tree) (λ (l : Leaf). l.word)

pub leaves_of_trees : LeavesAreOfTrees
leaves_of_trees tree ws leaves e h =
    roles_unique ws leaves h ∙ sym (roles_in tree ws [] (e ∙ sym (append-nil ws)))
    ∙ ap (λ n. take n (script_leaves tree)) (as_many tree ws e) ∙ take-length (script_leaves tree)
