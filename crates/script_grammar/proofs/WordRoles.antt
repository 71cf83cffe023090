-- The roles of the words of definitions, propositions and hints. What else holds of all such roles
-- follows by `each_as`.
use Rattle.std.proofs.Common.{◌++◌, List}
use Rattle.script_words.specs.declared.class.Spelled.TheVariants as spelled
use Rattle.script_shape.specs.declared.due.Due.{Due}
use Rattle.script_shape.specs.declared.due.Due.TheVariants as d
use Rattle.script_shape.specs.Expressions.{Whole, natural, opposite, Expr}
use Rattle.script_shape.specs.Propositions.{Range, asked, between, Prop, lies_in, relative_in}
use Rattle.script_shape.specs.Propositions.{at_most, at_least, multiple}
use Rattle.script_shape.specs.Hints.{Need, nonzero, below, not_above, above, not_below, NeedList}
use Rattle.script_shape.specs.Hints.{last_need, more_needs, Needs, always, provided, Points}
use Rattle.script_shape.specs.Hints.{last_point, more_points, CutForm, in_four, pieces, at_points}
use Rattle.script_shape.specs.Hints.{Names, last_name, more_names, Halving, halved_by, with_goal}
use Rattle.script_shape.specs.Hints.{Hint, rewrite, like, split, halving}
use Rattle.script_shape.specs.Tree.{How, exactly, rounded_by, rounded_apart, rounded_joined}
use Rattle.script_shape.specs.Tree.{Definition, names_operator, names_value}
use Rattle.script_shape.specs.Roles.{operator_leaves, how_leaves, definition_leaves}
use Rattle.script_shape.specs.Roles.{Leaf, special_leaves, whole_leaves, bound_leaves, expr_leaves}
use Rattle.script_shape.specs.Roles.{range_leaves, prop_leaves, name_leaves, need_leaves}
use Rattle.script_shape.specs.Roles.{need_list_leaves, needs_leaves, points_leaves, cut_leaves}
use Rattle.script_shape.specs.Roles.{names_leaves, halving_leaves, hint_leaves}
use Rattle.script_shape.proofs.Inner.{EachRole, IsInner, each_of_both, each_as, name_roles}
use Rattle.script_shape.proofs.Inner.{special_roles, digits_roles, bound_roles, operator_roles}
use Rattle.script_shape.proofs.Inner.{expr_inner}

-- ---- definitions

-- what may be due in a definition
abbrev pub IsOfDefinition : Due → Type 0
IsOfDefinition d.Connective = ⊥
IsOfDefinition d.CloseBrace = ⊥
IsOfDefinition d.SplitName = ⊥
IsOfDefinition r = Unit {0}

inner_definition : (r : Due) → IsInner r → IsOfDefinition r
inner_definition d.Connective h = absurd h
inner_definition d.CloseBrace h = absurd h
inner_definition d.SplitName h = absurd h
inner_definition r h = tt

how_roles : (h : How) → EachRole IsOfDefinition (how_leaves h)
how_roles exactly = (tt, tt)
how_roles (rounded_by k t) = (tt, (tt, tt))
how_roles (rounded_apart o) = each_of_both IsOfDefinition (operator_leaves d.DefinedBy o) _
    (operator_roles IsOfDefinition d.DefinedBy o tt inner_definition) (tt, (tt, tt))
how_roles (rounded_joined o) = each_of_both IsOfDefinition (operator_leaves d.DefinedBy o) _
    (operator_roles IsOfDefinition d.DefinedBy o tt inner_definition) (tt, tt)

pub definition_roles : (x : Definition) → EachRole IsOfDefinition (definition_leaves x)
definition_roles (names_operator n o) = (
  tt,
  each_of_both IsOfDefinition (name_leaves d.NewName n) _
      (name_roles IsOfDefinition d.NewName n tt) (
        tt,
        each_of_both IsOfDefinition (operator_leaves d.Operator o) _
            (operator_roles IsOfDefinition d.Operator o tt inner_definition) (tt, (tt, tt)),
      ),
)
definition_roles (names_value n h e) =
    each_of_both IsOfDefinition (name_leaves d.Script n) _
    (name_roles IsOfDefinition d.Script n tt)
    (each_of_both IsOfDefinition (how_leaves h) _ (how_roles h)
    (each_of_both IsOfDefinition (expr_leaves e) _
    (each_as IsInner IsOfDefinition inner_definition (expr_leaves e) (expr_inner e)) (tt, tt)))

-- ---- propositions

-- what may be due in a proposition
abbrev pub IsOfProp : Due → Type 0
IsOfProp d.Script = ⊥
IsOfProp d.NewName = ⊥
IsOfProp d.DefinedBy = ⊥
IsOfProp d.Equal = ⊥
IsOfProp d.Connective = ⊥
IsOfProp d.Claim = ⊥
IsOfProp d.Semicolon = ⊥
IsOfProp d.CloseBrace = ⊥
IsOfProp d.SplitName = ⊥
IsOfProp r = Unit {0}

inner_prop : (r : Due) → IsInner r → IsOfProp r
inner_prop d.Script h = absurd h
inner_prop d.NewName h = absurd h
inner_prop d.DefinedBy h = absurd h
inner_prop d.Equal h = absurd h
inner_prop d.Connective h = absurd h
inner_prop d.Claim h = absurd h
inner_prop d.Semicolon h = absurd h
inner_prop d.CloseBrace h = absurd h
inner_prop d.SplitName h = absurd h
inner_prop r h = tt

then_prop : (e : Expr) (ls : List Leaf) → EachRole IsOfProp ls
    → EachRole IsOfProp (expr_leaves e ++ ls)
then_prop e ls h = each_of_both IsOfProp (expr_leaves e) ls
    (each_as IsInner IsOfProp inner_prop (expr_leaves e) (expr_inner e)) h

whole_prop : (l : Whole) → EachRole IsOfProp (whole_leaves l)
whole_prop (natural n) = digits_roles IsOfProp d.Whole n tt
whole_prop (opposite n) = (tt, digits_roles IsOfProp d.WholeDigits n tt)

range_prop : (r : Range) → EachRole IsOfProp (range_leaves r)
range_prop asked = (tt, tt)
range_prop (between a b) = (
  tt,
  each_of_both IsOfProp (bound_leaves a) _ (bound_roles IsOfProp a tt tt)
      (tt, each_of_both IsOfProp (bound_leaves b) _ (bound_roles IsOfProp b tt tt) (tt, tt)),
)

pub prop_roles : (p : Prop) → EachRole IsOfProp (prop_leaves p)
prop_roles (lies_in e r) = then_prop e _ (tt, range_prop r)
prop_roles (relative_in a b r) = then_prop a _ (tt, then_prop b _ (tt, range_prop r))
prop_roles (at_most e b) = then_prop e _ (tt, bound_roles IsOfProp b tt tt)
prop_roles (at_least e b) = then_prop e _ (tt, bound_roles IsOfProp b tt tt)
prop_roles (multiple f e k) = (
  tt,
  each_of_both IsOfProp (special_leaves d.Fix spelled.Fix f) _
      (special_roles IsOfProp d.Fix spelled.Fix f tt)
      (tt, then_prop e _ (tt, each_of_both IsOfProp (whole_leaves k) _ (whole_prop k) (tt, tt))),
)

-- ---- the needs of rewritings, and cuts

-- what may be due in a hint, but no name of a split
abbrev pub IsOfPart : Due → Type 0
IsOfPart d.Script = ⊥
IsOfPart d.NewName = ⊥
IsOfPart d.DefinedBy = ⊥
IsOfPart d.Equal = ⊥
IsOfPart d.Connective = ⊥
IsOfPart d.Claim = ⊥
IsOfPart d.Range = ⊥
IsOfPart d.Semicolon = ⊥
IsOfPart d.SplitName = ⊥
IsOfPart r = Unit {0}

inner_part : (r : Due) → IsInner r → IsOfPart r
inner_part d.Script h = absurd h
inner_part d.NewName h = absurd h
inner_part d.DefinedBy h = absurd h
inner_part d.Equal h = absurd h
inner_part d.Connective h = absurd h
inner_part d.Claim h = absurd h
inner_part d.Range h = absurd h
inner_part d.Semicolon h = absurd h
inner_part d.SplitName h = absurd h
inner_part r h = tt

then_part : (e : Expr) (ls : List Leaf) → EachRole IsOfPart ls
    → EachRole IsOfPart (expr_leaves e ++ ls)
then_part e ls h = each_of_both IsOfPart (expr_leaves e) ls
    (each_as IsInner IsOfPart inner_part (expr_leaves e) (expr_inner e)) h

need_roles : (n : Need) → EachRole IsOfPart (need_leaves n)
need_roles (nonzero e t) = then_part e _ (tt, (tt, tt))
need_roles (below e b) = then_part e _ (tt, bound_roles IsOfPart b tt tt)
need_roles (not_above e b) = then_part e _ (tt, bound_roles IsOfPart b tt tt)
need_roles (above e b) = then_part e _ (tt, bound_roles IsOfPart b tt tt)
need_roles (not_below e b) = then_part e _ (tt, bound_roles IsOfPart b tt tt)

need_list_roles : (l : NeedList) → EachRole IsOfPart (need_list_leaves l)
need_list_roles (last_need n) = need_roles n
need_list_roles (more_needs n l) =
    each_of_both IsOfPart (need_leaves n) _ (need_roles n) (tt, need_list_roles l)

pub needs_roles : (n : Needs) → EachRole IsOfPart (needs_leaves n)
needs_roles always = tt
needs_roles (provided l) =
    (tt, each_of_both IsOfPart (need_list_leaves l) _ (need_list_roles l) (tt, tt))

points_roles : (l : Points) → EachRole IsOfPart (points_leaves l)
points_roles (last_point b) = bound_roles IsOfPart b tt tt
points_roles (more_points b l) =
    each_of_both IsOfPart (bound_leaves b) _ (bound_roles IsOfPart b tt tt) (tt, points_roles l)

pub cut_roles : (c : CutForm) → EachRole IsOfPart (cut_leaves c)
cut_roles in_four = tt
cut_roles (pieces n) = (tt, digits_roles IsOfPart d.Cut n tt)
cut_roles (at_points l) =
    (tt, (tt, each_of_both IsOfPart (points_leaves l) _ (points_roles l) (tt, tt)))

-- ---- hints

abbrev pub IsOfHint : Due → Type 0
IsOfHint d.Script = ⊥
IsOfHint d.NewName = ⊥
IsOfHint d.DefinedBy = ⊥
IsOfHint d.Equal = ⊥
IsOfHint d.Connective = ⊥
IsOfHint d.Claim = ⊥
IsOfHint d.Range = ⊥
IsOfHint d.Semicolon = ⊥
IsOfHint r = Unit {0}

part_hint : (r : Due) → IsOfPart r → IsOfHint r
part_hint d.Script h = absurd h
part_hint d.NewName h = absurd h
part_hint d.DefinedBy h = absurd h
part_hint d.Equal h = absurd h
part_hint d.Connective h = absurd h
part_hint d.Claim h = absurd h
part_hint d.Range h = absurd h
part_hint d.Semicolon h = absurd h
part_hint r h = tt

expr_hint : (e : Expr) → EachRole IsOfHint (expr_leaves e)
expr_hint e = each_as IsOfPart IsOfHint part_hint (expr_leaves e)
    (each_as IsInner IsOfPart inner_part (expr_leaves e) (expr_inner e))

then_hint : (e : Expr) (ls : List Leaf) → EachRole IsOfHint ls
    → EachRole IsOfHint (expr_leaves e ++ ls)
then_hint e ls h = each_of_both IsOfHint (expr_leaves e) ls (expr_hint e) h

names_roles : (n : Names) → EachRole IsOfHint (names_leaves n)
names_roles (last_name n) = name_roles IsOfHint d.SplitName n tt
names_roles (more_names n l) = each_of_both IsOfHint (name_leaves d.SplitName n) _
    (name_roles IsOfHint d.SplitName n tt) (tt, names_roles l)

halving_roles : (r : Due) (h : Halving) → IsOfHint r → EachRole IsOfHint (halving_leaves r h)
halving_roles r (halved_by e n) b = then_hint e _ (b, names_roles n)
halving_roles r (with_goal e h) b = then_hint e _ (b, halving_roles d.GoalSplit h tt)

pub hint_roles : (h : Hint) → EachRole IsOfHint (hint_leaves h)
hint_roles (rewrite a b n) = then_hint a _
    (tt, then_hint b _ (each_as IsOfPart IsOfHint part_hint (needs_leaves n) (needs_roles n)))
hint_roles (like a b) = then_hint a _ (tt, expr_hint b)
hint_roles (split n c) = (
  tt,
  each_of_both IsOfHint (name_leaves d.SplitName n) _ (name_roles IsOfHint d.SplitName n tt)
      (each_as IsOfPart IsOfHint part_hint (cut_leaves c) (cut_roles c)),
)
hint_roles (halving h) = halving_roles d.HintRest h tt
