-- The expressions of hints are nodes.
use Rattle.std.specs.Prelude.{ℕ, ◌≤◌, List, [], ◌∷◌, ◌++◌, None, Bool, true, false, if◌then◌else◌}
use Rattle.std.specs.List.{AllByRecursion, list_any}
use Rattle.std.proofs.Common.{arith}
use Rattle.fx_model.specs.declared.ExprId.{ExprId}
use Rattle.facts.proofs.CommonParts.{all_as}
use Rattle.script_shape.specs.Expressions.{AnyName, Expr}
use Rattle.script_shape.specs.Hints.{Need, nonzero, below, not_above, above, not_below, NeedList}
use Rattle.script_shape.specs.Hints.{last_need, more_needs, Needs, always, provided, CutForm, Names}
use Rattle.script_shape.specs.Hints.{last_name, more_names, Halving, halved_by, with_goal, Hint}
use Rattle.script_shape.specs.Hints.{rewrite, like, split, halving, Hints, no_hint, hint}
use Rattle.script_cases.proofs.Lists.{all_joined}
use Rattle.script_nodes.specs.Known.{Known, named}
use Rattle.script_nodes.specs.Values.{expr_value}
use Rattle.script_nodes.specs.Growth.{node_count}
use Rattle.script_nodes.specs.Definitions.{name_text}
use Rattle.script_nodes.specs.Written.{bound_written}
use Rattle.script_hints.specs.declared.hint.Constraint.{Constraint}
use Rattle.script_hints.specs.declared.hint.Constraint.TheVariants as constraint
use Rattle.script_hints.specs.declared.hint.Hint.{Hint as Rewriting}
use Rattle.script_hints.specs.declared.hint.HintList.{HintList}
use Rattle.script_hints.specs.Hints.{NeedsSoFar, one_more, with_need, with_need_list, needs_value}
use Rattle.script_hints.specs.Hints.{same_number, with_variable, HintsSoFar, ordered, halved}
use Rattle.script_hints.specs.Hints.{with_halved, with_names, cuts_along, with_halving, with_hint}
use Rattle.script_hints.specs.Hints.{with_hints, no_hints}
use Rattle.script_grammar.specs.Names.{IsNode, AreNodes, ConstraintIsOf, HintIsOf, HintsAreOf}
use Rattle.script_grammar.proofs.ExpressionNames.{Fits, Grows, grows_both, named_sits, expr_sits}

-- ---- among more nodes

module _ (n m : ℕ) (h : n ≤ m) where
  node_more : (x : ExprId) → IsNode n x → IsNode m x
  node_more x f = omega arith

  both_more : (p : ExprId × ExprId) → AreNodes n p → AreNodes m p
  both_more p f = (node_more p.0 f.0, node_more p.1 f.1)

  constraint_more : (c : Constraint) → ConstraintIsOf n c → ConstraintIsOf m c
  constraint_more (constraint.NotZero x) f = omega arith
  constraint_more (constraint.Below x w strict) f = omega arith
  constraint_more (constraint.Above x w strict) f = omega arith

  constraints_more : (cs : List Constraint) → AllByRecursion (ConstraintIsOf n) cs
      → AllByRecursion (ConstraintIsOf m) cs
  constraints_more = all_as (ConstraintIsOf n) (ConstraintIsOf m) constraint_more

  rewriting_more : (r : Rewriting) → HintIsOf n r → HintIsOf m r
  rewriting_more r f = record {
    sides = both_more (r.left, r.right) f.sides;
    constraints = constraints_more r.constraints f.constraints;
  }

  list_more : (l : HintList) → HintsAreOf n l → HintsAreOf m l
  list_more l f = record {
    rewrites = all_as (HintIsOf n) (HintIsOf m) rewriting_more l.rewrites f.rewrites;
    likes = all_as (AreNodes n) (AreNodes m) both_more l.likes f.likes;
    cuts = all_as (λ c. IsNode n c.var) (λ c. IsNode m c.var) (λ c. node_more c.var) l.cuts f.cuts;
    halves = all_as (IsNode n) (IsNode m) node_more l.halves f.halves;
    order = all_as (IsNode n) (IsNode m) node_more l.order f.order;
  }

-- ---- constraints

record AreNeeded (k : Known) (s : NeedsSoFar) : Type 0 where
  grows : Grows k s.0
  constraints : AllByRecursion (ConstraintIsOf (node_count s.0)) s.1

one_needed : (f : ExprId → Constraint) (k : Known) (e : Expr) (s : NeedsSoFar)
    → ((n : ℕ) (x : ExprId) → IsNode n x → ConstraintIsOf n (f x)) → AreNeeded k s
    → AreNeeded k (one_more f (expr_value None e s.0) s.1)
one_needed f k e s h a =
    let p = expr_value None e s.0 in
    let t = expr_sits None e s.0 a.grows.fits in
    record {
      grows = grows_both a.grows t.grows;
      constraints = all_joined (ConstraintIsOf (node_count p.0)) s.1 (f p.1 ∷ [])
          (constraints_more (node_count s.0) (node_count p.0) t.grows.more s.1 a.constraints)
          (h (node_count p.0) p.1 t.below, tt);
    }

need_needed : (n : Need) (k : Known) (s : NeedsSoFar) → AreNeeded k s → AreNeeded k (with_need n s)
need_needed (nonzero e zero_text) k s a = one_needed constraint.NotZero k e s (λ n x h. h) a
need_needed (below e b) k s a =
    one_needed (λ x. constraint.Below x (bound_written b) true) k e s (λ n x h. h) a
need_needed (not_above e b) k s a =
    one_needed (λ x. constraint.Below x (bound_written b) false) k e s (λ n x h. h) a
need_needed (above e b) k s a =
    one_needed (λ x. constraint.Above x (bound_written b) true) k e s (λ n x h. h) a
need_needed (not_below e b) k s a =
    one_needed (λ x. constraint.Above x (bound_written b) false) k e s (λ n x h. h) a

list_needed : (l : NeedList) (k : Known) (s : NeedsSoFar) → AreNeeded k s
    → AreNeeded k (with_need_list l s)
list_needed (last_need n) k s a = need_needed n k s a
list_needed (more_needs n l) k s a = list_needed l k (with_need n s) (need_needed n k s a)

none_needed : (k : Known) → Fits k → AreNeeded k (k, [])
none_needed k f = record { grows = record { more = omega arith; fits = f }; constraints = tt }

needs_needed : (n : Needs) (k : Known) → Fits k → AreNeeded k (needs_value n k)
needs_needed always k f = none_needed k f
needs_needed (provided l) k f = list_needed l k (k, []) (none_needed k f)

-- ---- hints

pub record AreHinted (k : Known) (s : HintsSoFar) : Type 0 where
  pub grows : Grows k s.0
  pub hints : HintsAreOf (node_count s.0) s.1

-- the same hints, with more nodes
later_hinted : (k j : Known) (s : HintsSoFar) → AreHinted k s → Grows s.0 j → AreHinted k (j, s.1)
later_hinted k j s a g = record {
  grows = grows_both a.grows g;
  hints = list_more (node_count s.0) (node_count j) g.more s.1 a.hints;
}

variable_joined : (n : ℕ) (xs : List ExprId) (x : ExprId) → AllByRecursion (IsNode n) xs
    → IsNode n x → AllByRecursion (IsNode n) (with_variable xs x)
variable_joined n xs x h i = by_test (list_any (same_number x) xs)
  where
    by_test : (b : Bool) → AllByRecursion (IsNode n) (if b then xs else xs ++ (x ∷ []))
    by_test true = h
    by_test false = all_joined (IsNode n) xs (x ∷ []) h (i, tt)

ordered_hints : (n : ℕ) (l : HintList) (x : ExprId) → HintsAreOf n l → IsNode n x
    → HintsAreOf n (ordered l x)
ordered_hints n l x a i = record {
  rewrites = a.rewrites;
  likes = a.likes;
  cuts = a.cuts;
  halves = a.halves;
  order = variable_joined n l.order x a.order i;
}

halved_hints : (n : ℕ) (l : HintList) (x : ExprId) → HintsAreOf n l → IsNode n x
    → HintsAreOf n (halved l x)
halved_hints n l x a i = record {
  rewrites = a.rewrites;
  likes = a.likes;
  cuts = a.cuts;
  halves = variable_joined n l.halves x a.halves i;
  order = variable_joined n l.order x a.order i;
}

name_halved : (n : AnyName) (k : Known) (s : HintsSoFar) → AreHinted k s
    → AreHinted k (with_halved n s)
name_halved n k s a =
    let p = named s.0 (name_text n) in
    let t = named_sits s.0 (name_text n) a.grows.fits in
    let b = later_hinted k p.0 s a t.grows in
    record { grows = b.grows; hints = halved_hints (node_count p.0) s.1 p.1 b.hints t.below }

names_halved : (l : Names) (k : Known) (s : HintsSoFar) → AreHinted k s
    → AreHinted k (with_names l s)
names_halved (last_name n) k s a = name_halved n k s a
names_halved (more_names n l) k s a = names_halved l k (with_halved n s) (name_halved n k s a)

expression_read : (e : Expr) (k : Known) (s : HintsSoFar) → AreHinted k s
    → AreHinted k ((expr_value None e s.0).0, s.1)
expression_read e k s a = let t = expr_sits None e s.0 a.grows.fits in
    later_hinted k (expr_value None e s.0).0 s a t.grows

halving_read : (h : Halving) (k : Known) (s : HintsSoFar) → AreHinted k s
    → AreHinted k (with_halving h s)
halving_read (halved_by e n) k s a =
    names_halved n k ((expr_value None e s.0).0, s.1) (expression_read e k s a)
halving_read (with_goal e h) k s a =
    halving_read h k ((expr_value None e s.0).0, s.1) (expression_read e k s a)

cut_read : (n : AnyName) (c : CutForm) (k : Known) (s : HintsSoFar) → AreHinted k s
    → AreHinted k (cuts_along (named s.0 (name_text n)) c s.1)
cut_read n c k s a =
    let p = named s.0 (name_text n) in
    let t = named_sits s.0 (name_text n) a.grows.fits in
    let b = later_hinted k p.0 s a t.grows in
    let o = ordered_hints (node_count p.0) s.1 p.1 b.hints t.below in
    record {
      grows = b.grows;
      hints = record {
        rewrites = o.rewrites;
        likes = o.likes;
        cuts = all_joined (λ c. IsNode (node_count p.0) c.var) s.1.cuts _ o.cuts (t.below, tt);
        halves = o.halves;
        order = o.order;
      };
    }

-- the second expression behind the first, and both numbers
record AreSides (k : Known) (a b : Expr) : Type 0 where
  grows : Grows k (expr_value None b (expr_value None a k).0).0
  sides : AreNodes (node_count (expr_value None b (expr_value None a k).0).0)
      ((expr_value None a k).1, (expr_value None b (expr_value None a k).0).1)

sides_read : (a b : Expr) (k : Known) → Fits k → AreSides k a b
sides_read a b k f =
    let x = expr_value None a k in
    let y = expr_value None b x.0 in
    let s = expr_sits None a k f in
    let t = expr_sits None b x.0 s.grows.fits in
    record {
      grows = grows_both s.grows t.grows;
      sides = (node_more (node_count x.0) (node_count y.0) t.grows.more x.1 s.below, t.below);
    }

hint_read : (h : Hint) (k : Known) (s : HintsSoFar) → AreHinted k s → AreHinted k (with_hint h s)
hint_read (rewrite a b n) k s h =
    let x = expr_value None a s.0 in
    let y = expr_value None b x.0 in
    let t = sides_read a b s.0 h.grows.fits in
    let c = needs_needed n y.0 t.grows.fits in
    let j = (needs_value n y.0).0 in
    let l = later_hinted k j s h (grows_both t.grows c.grows) in
    let one : HintIsOf (node_count j)
    (record { left = x.1; right = y.1; constraints = (needs_value n y.0).1 }) = record {
      sides = both_more (node_count y.0) (node_count j) c.grows.more (x.1, y.1) t.sides;
      constraints = c.constraints;
    } in
    record {
      grows = l.grows;
      hints = record {
        rewrites = all_joined (HintIsOf (node_count j)) s.1.rewrites _ l.hints.rewrites (one, tt);
        likes = l.hints.likes;
        cuts = l.hints.cuts;
        halves = l.hints.halves;
        order = l.hints.order;
      };
    }
hint_read (like a b) k s h =
    let x = expr_value None a s.0 in
    let y = expr_value None b x.0 in
    let t = sides_read a b s.0 h.grows.fits in
    let l = later_hinted k y.0 s h t.grows in
    record {
      grows = l.grows;
      hints = record {
        rewrites = l.hints.rewrites;
        likes = all_joined (AreNodes (node_count y.0)) s.1.likes _ l.hints.likes (t.sides, tt);
        cuts = l.hints.cuts;
        halves = l.hints.halves;
        order = l.hints.order;
      };
    }
hint_read (split n c) k s h = cut_read n c k s h
hint_read (halving x) k s h = halving_read x k s h

pub hints_read : (l : Hints) (k : Known) (s : HintsSoFar) → AreHinted k s
    → AreHinted k (with_hints l s)
hints_read no_hint k s a = a
hints_read (hint h l) k s a = hints_read l k (with_hint h s) (hint_read h k s a)

pub none_read : (k : Known) → Fits k → AreHinted k (k, no_hints)
none_read k f = record {
  grows = record { more = omega arith; fits = f };
  hints = record { rewrites = tt; likes = tt; cuts = tt; halves = tt; order = tt };
}
