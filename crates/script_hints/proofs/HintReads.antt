-- The words of hints are read as their trees.
use Rattle.std.proofs.Common.{◌≡◌, List, [], ◌∷◌, ◌++◌, None, false, refl, ap, ◌∙◌, append_assoc}
use Rattle.fx_model.specs.declared.ExprId.{ExprId}
use Rattle.dyadic.specs.declared.number.Dyadic.{Dyadic}
use Rattle.script_words.specs.declared.class.Number.TheVariants as digits_kind
use Rattle.script_words.specs.declared.class.Symbol.{Symbol}
use Rattle.script_words.specs.declared.class.Symbol.TheVariants as s
use Rattle.script_words.specs.Words.{sign, literal}
use Rattle.script_shape.specs.declared.due.Due.TheVariants as d
use Rattle.script_shape.specs.Expressions.{plain, operator, zero_alone, digits, Bound, unsigned}
use Rattle.script_shape.specs.Expressions.{positive, negative, Expr}
use Rattle.script_shape.specs.Hints.{Need, nonzero, below, not_above, above, not_below, NeedList}
use Rattle.script_shape.specs.Hints.{last_need, more_needs, Needs, always, provided, Points}
use Rattle.script_shape.specs.Hints.{last_point, more_points, CutForm, in_four, pieces, at_points}
use Rattle.script_shape.specs.Hints.{Names, last_name, more_names, Halving, halved_by, with_goal}
use Rattle.script_shape.specs.Hints.{Hint, rewrite, like, split, halving, no_hint, hint}
use Rattle.script_shape.specs.Roles.{Leaf, at, bound_leaves, expr_leaves, need_leaves}
use Rattle.script_shape.specs.Roles.{need_list_leaves, needs_leaves, points_leaves, cut_leaves}
use Rattle.script_shape.specs.Roles.{names_leaves, halving_leaves, hint_leaves, hints_leaves}
use Rattle.script_nodes.specs.Known.{Known, named}
use Rattle.script_nodes.specs.Written.{bound_written}
use Rattle.script_nodes.specs.Values.{expr_value}
use Rattle.script_nodes.specs.Waits.{read}
use Rattle.script_nodes.specs.ReadingLaw.{ReadsTrees}
use Rattle.script_hints.specs.declared.hint.Constraint.{Constraint}
use Rattle.script_hints.specs.declared.hint.HintList.{HintList}
use Rattle.script_hints.specs.declared.stage.Stage.{Stage}
use Rattle.script_hints.specs.declared.stage.Stage.TheVariants as stage
use Rattle.script_hints.specs.declared.stage.Bounded.{Bounded}
use Rattle.script_hints.specs.declared.stage.Bounded.TheVariants as bounded
use Rattle.script_hints.specs.Hints as tree
use Rattle.script_hints.specs.Drafts.{Draft, side_ended, needs_opened, related, with_bound}
use Rattle.script_hints.specs.Drafts.{hint_ended}
use Rattle.script_hints.specs.Reading.{HintReading, hints_from, by_sign, read_hint, read_hints}
use Rattle.script_hints.specs.ReadingLaw.{ReadsHints}
use Rattle.script_hints.proofs.Within.{state, EndsBy, side_ends}

-- with no expression in hand
abbrev at_rest : Known → Draft → HintReading
at_rest k h = state (record { known = k; waits = [] }) h

-- with no minus before a bound
abbrev draft : Stage → Bounded → List Constraint → List Dyadic → HintList → Draft
draft t on ns ps l =
    record { stage = t; bounded = on; negative = false; constraints = ns; points = ps; list = l }

regroup : (a b rest : List Leaf) (r : HintReading)
    → read_hints ((a ++ b) ++ rest) r ≡ read_hints (a ++ (b ++ rest)) r
regroup a b rest r = ap (λ l. read_hints l r) (append_assoc a b rest)

module _ (reads : ReadsTrees) where
  -- ---- bounds and needs

  bound_reads : (b : Bound) (rest : List Leaf) (k : Known)
      (t : Stage) (on : Bounded) (ns : List Constraint) (ps : List Dyadic) (l : HintList)
      → read_hints (bound_leaves b ++ rest) (at_rest k (draft t on ns ps l))
      ≡ read_hints rest (at_rest k (with_bound (bound_written b) (draft t on ns ps l)))
  unfolding read_hint read_hints
  bound_reads (unsigned c text) rest k t on ns ps l = refl
  bound_reads (positive c text) rest k t on ns ps l = refl
  bound_reads (negative c text) rest k t bounded.Point ns ps l = refl
  bound_reads (negative c text) rest k t (bounded.Below x o) ns ps l = refl
  bound_reads (negative c text) rest k t (bounded.Above x o) ns ps l = refl

  relation_ends : (g : Symbol) → EndsBy d.NeedRelation (sign g) (by_sign related (sign g))
  unfolding read_hint
  relation_ends g r h = refl

  relation_reads : (g : Symbol) (e : Expr) (more rest : List Leaf) (k : Known) (h : Draft)
      → read_hints ((expr_leaves e ++ (at d.NeedRelation (sign g) ∷ more)) ++ rest) (at_rest k h)
      ≡ read_hints (more ++ rest)
      (at_rest (expr_value None e k).0 (related g (expr_value None e k).1 h))
  relation_reads g e more rest k h = regroup (expr_leaves e) _ rest _ ∙ side_ends reads
      d.NeedRelation (sign g) (by_sign related (sign g)) (relation_ends g) e (more ++ rest) k h

  need_reads : (n : Need) (rest : List Leaf)
      (k : Known) (t : Stage) (ns : List Constraint) (ps : List Dyadic) (l : HintList)
      → read_hints (need_leaves n ++ rest) (at_rest k (draft t bounded.Point ns ps l))
      ≡ read_hints rest (at_rest (tree.with_need n (k, ns)).0
      (draft t bounded.Point (tree.with_need n (k, ns)).1 ps l))
  unfolding read_hint read_hints read
  need_reads (nonzero e z) rest k t ns ps l =
      relation_reads s.Unequal e (at d.Zero (literal digits_kind.Zero z) ∷ []) rest k _
  need_reads (below e b) rest k t ns ps l =
      relation_reads s.Less e (bound_leaves b) rest k _ ∙ bound_reads b rest _ t _ ns ps l
  need_reads (not_above e b) rest k t ns ps l =
      relation_reads s.LessEqual e (bound_leaves b) rest k _ ∙ bound_reads b rest _ t _ ns ps l
  need_reads (above e b) rest k t ns ps l =
      relation_reads s.Greater e (bound_leaves b) rest k _ ∙ bound_reads b rest _ t _ ns ps l
  need_reads (not_below e b) rest k t ns ps l =
      relation_reads s.GreaterEqual e (bound_leaves b) rest k _ ∙ bound_reads b rest _ t _ ns ps l

  need_list_reads : (n : NeedList) (rest : List Leaf)
      (k : Known) (t : Stage) (ns : List Constraint) (ps : List Dyadic) (l : HintList)
      → read_hints (need_list_leaves n ++ rest) (at_rest k (draft t bounded.Point ns ps l))
      ≡ read_hints rest (at_rest (tree.with_need_list n (k, ns)).0
      (draft t bounded.Point (tree.with_need_list n (k, ns)).1 ps l))
  unfolding read_hint read_hints read
  need_list_reads (last_need n) rest k t ns ps l = need_reads n rest k t ns ps l
  need_list_reads (more_needs n m) rest k t ns ps l =
      let s = tree.with_need n (k, ns) in
      regroup (need_leaves n) _ rest _ ∙ need_reads n _ k t ns ps l
      ∙ need_list_reads m rest s.0 t s.1 ps l

  -- ---- cuts

  points_read : (p : Points) (rest : List Leaf)
      (k : Known) (t : Stage) (ns : List Constraint) (ps : List Dyadic) (l : HintList)
      → read_hints (points_leaves p ++ rest) (at_rest k (draft t bounded.Point ns ps l))
      ≡ read_hints rest (at_rest k (draft t bounded.Point ns (tree.with_points p ps) l))
  unfolding read_hint read_hints read
  points_read (last_point b) rest k t ns ps l = bound_reads b rest k t _ ns ps l
  points_read (more_points b p) rest k t ns ps l =
      regroup (bound_leaves b) _ rest _ ∙ bound_reads b _ k t _ ns ps l
      ∙ points_read p rest k t ns (tree.with_point ps (bound_written b)) l

  -- ---- split variables

  names_read : (n : Names) (rest : List Leaf) (k : Known) (l : HintList)
      → read_hints (names_leaves n ++ rest) (at_rest k (draft stage.Halves bounded.Point [] [] l))
      ≡ read_hints rest (at_rest (tree.with_names n (k, l)).0
      (draft stage.Halves bounded.Point [] [] (tree.with_names n (k, l)).1))
  unfolding read_hint read_hints read
  names_read (last_name (plain c text)) rest k l = refl
  names_read (last_name (operator c text)) rest k l = refl
  names_read (more_names (plain c text) n) rest k l =
      let s = tree.with_halved (plain c text) (k, l) in names_read n rest s.0 s.1
  names_read (more_names (operator c text) n) rest k l =
      let s = tree.with_halved (operator c text) (k, l) in names_read n rest s.0 s.1

  -- ---- hints, each with its `;`

  abbrev ending : List Leaf → List Leaf
  ending rest = at d.Semicolon (sign s.Semicolon) ∷ rest

  end_ends : EndsBy d.Semicolon (sign s.Semicolon) hint_ended
  unfolding read_hint
  end_ends r h = refl

  -- the last expression of a hint
  last_reads : (e : Expr) (rest : List Leaf) (k : Known) (h : Draft)
      → read_hints (expr_leaves e ++ ending rest) (at_rest k h)
      ≡ read_hints rest (at_rest (expr_value None e k).0 (hint_ended (expr_value None e k).1 h))
  last_reads e rest k h =
      side_ends reads d.Semicolon (sign s.Semicolon) hint_ended end_ends e rest k h

  rest_ends : (g : Symbol) → EndsBy d.HintRest (sign g) (by_sign side_ended (sign g))
  unfolding read_hint
  rest_ends g r h = refl

  goal_ends : (g : Symbol) → EndsBy d.GoalSplit (sign g) (by_sign side_ended (sign g))
  unfolding read_hint
  goal_ends g r h = refl

  -- the first expression of a hint
  first_reads : (g : Symbol) (e : Expr) (more rest : List Leaf) (k : Known) (h : Draft)
      → read_hints ((expr_leaves e ++ (at d.HintRest (sign g) ∷ more)) ++ rest) (at_rest k h)
      ≡ read_hints (more ++ rest)
      (at_rest (expr_value None e k).0 (side_ended g (expr_value None e k).1 h))
  first_reads g e more rest k h = regroup (expr_leaves e) _ rest _ ∙ side_ends reads d.HintRest
      (sign g) (by_sign side_ended (sign g)) (rest_ends g) e (more ++ rest) k h

  goal_reads : (g : Symbol) (e : Expr) (more rest : List Leaf) (k : Known) (h : Draft)
      → read_hints ((expr_leaves e ++ (at d.GoalSplit (sign g) ∷ more)) ++ rest) (at_rest k h)
      ≡ read_hints (more ++ rest)
      (at_rest (expr_value None e k).0 (side_ended g (expr_value None e k).1 h))
  goal_reads g e more rest k h = regroup (expr_leaves e) _ rest _ ∙ side_ends reads d.GoalSplit
      (sign g) (by_sign side_ended (sign g)) (goal_ends g) e (more ++ rest) k h

  needs_ends : EndsBy d.Needs (sign s.OpenBrace) needs_opened
  unfolding read_hint
  needs_ends r h = refl

  -- the right side of a rewriting, and its needs
  right_reads : (x : ExprId) (b : Expr) (n : Needs) (rest : List Leaf) (k : Known) (l : HintList)
      → read_hints ((expr_leaves b ++ needs_leaves n) ++ ending rest)
      (at_rest k (draft (stage.Right x) bounded.Point [] [] l))
      ≡ read_hints rest (hints_from (tree.rewrites_left x (expr_value None b k) n l).0
      (tree.rewrites_left x (expr_value None b k) n l).1)
  unfolding read_hint read_hints read
  right_reads x b always rest k l =
      regroup (expr_leaves b) [] (ending rest) _ ∙ last_reads b rest k _
  right_reads x b (provided n) rest k l =
      let y = expr_value None b k in
      let closed = at d.CloseBrace (sign s.CloseBrace) ∷ ending rest in
      regroup (expr_leaves b) _ (ending rest) _
      ∙ side_ends reads d.Needs (sign s.OpenBrace) needs_opened needs_ends b _ k _
      ∙ regroup (need_list_leaves n) _ (ending rest) _
      ∙ need_list_reads n closed y.0 (stage.Sides x y.1) [] [] l

  cut_reads : (c : CutForm) (rest : List Leaf) (k : Known) (x : ExprId) (l : HintList)
      → read_hints (cut_leaves c ++ ending rest) (at_rest k (draft (stage.Pieces x 4) bounded.Point
      [] [] l)) ≡ read_hints rest (hints_from k (tree.with_cut l x (tree.cutting_of c)))
  unfolding read_hint read_hints read
  cut_reads in_four rest k x l = refl
  cut_reads (pieces (zero_alone t)) rest k x l = refl
  cut_reads (pieces (digits t)) rest k x l = refl
  cut_reads (at_points p) rest k x l =
      regroup (points_leaves p) _ (ending rest) _ ∙ points_read p _ k (stage.Points x) [] [] l

  names_end : (n : Names) (rest : List Leaf) (k : Known) (l : HintList) → read_hints
      (names_leaves n ++ ending rest) (at_rest k (draft stage.Halves bounded.Point [] [] l))
      ≡ read_hints rest (hints_from (tree.with_names n (k, l)).0 (tree.with_names n (k, l)).1)
  unfolding read_hint read_hints read
  names_end n rest k l = names_read n (ending rest) k l

  more_goals_read : (h : Halving) (rest : List Leaf) (k : Known) (l : HintList)
      → read_hints (halving_leaves d.GoalSplit h ++ ending rest) (hints_from k l)
      ≡ read_hints rest (hints_from (tree.with_halving h (k, l)).0 (tree.with_halving h (k, l)).1)
  more_goals_read (halved_by e n) rest k l =
      goal_reads s.Dollar e (names_leaves n) (ending rest) k _
      ∙ names_end n rest (expr_value None e k).0 l
  more_goals_read (with_goal e h) rest k l =
      goal_reads s.Comma e _ (ending rest) k _ ∙ more_goals_read h rest (expr_value None e k).0 l

  halving_reads : (h : Halving) (rest : List Leaf) (k : Known) (l : HintList)
      → read_hints (halving_leaves d.HintRest h ++ ending rest) (hints_from k l)
      ≡ read_hints rest (hints_from (tree.with_halving h (k, l)).0 (tree.with_halving h (k, l)).1)
  halving_reads (halved_by e n) rest k l = first_reads s.Dollar e (names_leaves n) (ending rest) k _
      ∙ names_end n rest (expr_value None e k).0 l
  halving_reads (with_goal e h) rest k l =
      first_reads s.Comma e _ (ending rest) k _ ∙ more_goals_read h rest (expr_value None e k).0 l

  hint_reads : (h : Hint) (rest : List Leaf) (k : Known) (l : HintList)
      → read_hints (hint_leaves h ++ ending rest) (hints_from k l)
      ≡ read_hints rest (hints_from (tree.with_hint h (k, l)).0 (tree.with_hint h (k, l)).1)
  unfolding read_hint read_hints read
  hint_reads (rewrite a b n) rest k l = first_reads s.Arrow a _ (ending rest) k _
      ∙ right_reads (expr_value None a k).1 b n rest (expr_value None a k).0 l
  hint_reads (like a b) rest k l =
      first_reads s.Tilde a _ (ending rest) k _ ∙ last_reads b rest (expr_value None a k).0 _
  hint_reads (split (plain c text) w) rest k l =
      cut_reads w rest (named k text).0 (named k text).1 (tree.ordered l (named k text).1)
  hint_reads (split (operator c text) w) rest k l =
      cut_reads w rest (named k text).0 (named k text).1 (tree.ordered l (named k text).1)
  hint_reads (halving h) rest k l = halving_reads h rest k l

  pub reads_hints : ReadsHints
  unfolding read_hints
  reads_hints no_hint k l = refl
  reads_hints (hint h hs) k l =
      let s = tree.with_hint h (k, l) in
      hint_reads h (hints_leaves hs) k l ∙ reads_hints hs s.0 s.1
