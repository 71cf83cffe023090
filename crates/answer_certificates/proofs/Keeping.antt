-- What is so of all that is known while a script is read: it is where each node that is put, and
-- each name that is read, keeps it so.
use Rattle.std.specs.Prelude.{[], Option, Some, None}
use Rattle.fx_model.specs.declared.Rounding.{Rounding}
use Rattle.fx_model.specs.declared.ExprId.{ExprId}
use Rattle.fx_model.specs.declared.Node.{Node}
use Rattle.fx_model.specs.declared.Node.TheVariants.{Lit, Neg, Add, Sub, Mul, Div, Abs, Round}
use Rattle.script_shape.specs.Expressions.{Expr, term, sum, difference, Term, factor, product}
use Rattle.script_shape.specs.Expressions.{quotient, Factor, negation, atom, Atom, number, variable}
use Rattle.script_shape.specs.Expressions.{parenthesized, absolute, called, rounded, fused}
use Rattle.script_shape.specs.Propositions.{Prop, lies_in, relative_in, at_most, at_least, multiple}
use Rattle.script_shape.specs.Propositions.{Stated, affirmed, denied, Formula, single, and, or}
use Rattle.script_shape.specs.Propositions.{implies}
use Rattle.script_shape.specs.Hints.{Need, nonzero, below, not_above, above, not_below, NeedList}
use Rattle.script_shape.specs.Hints.{last_need, more_needs, Needs, always, provided, Names}
use Rattle.script_shape.specs.Hints.{last_name, more_names, Halving, halved_by, with_goal, Hint}
use Rattle.script_shape.specs.Hints.{rewrite, like, split, halving, Hints, no_hint, hint}
use Rattle.script_nodes.specs.Literals.{literal_of}
use Rattle.script_nodes.specs.Operators.{rounding_of}
use Rattle.script_nodes.specs.Known.{Name, Known, PlacedNode, put, named, operator_named}
use Rattle.script_nodes.specs.Values.{then_rounded, fused_sum, expr_value, term_value, factor_value}
use Rattle.script_nodes.specs.Values.{atom_value}
use Rattle.script_nodes.specs.Definitions.{name_text}
use Rattle.script_nodes.specs.Sound.{IsMade}
use Rattle.script_claims.specs.Claims.{prop_claim, stated_claim, formula_claims}
use Rattle.script_hints.specs.Hints.{NeedsSoFar, with_need, with_need_list, needs_value, HintsSoFar}
use Rattle.script_hints.specs.Hints.{with_halved, with_names, with_halving, with_hint, with_hints}

module _ (P : Known → Type 0) (puts : (k : Known) (n : Node) → IsMade n → P k
    → P (put k n).0) (names : (k : Known) (text : Name) → P k → P (named k text).0) where
  -- ---- expressions
  module _ (q : Option Rounding) where
    rounded_so : (o : Option Rounding) (p : PlacedNode) → P p.0 → P (then_rounded o p).0
    rounded_so None p h = h
    rounded_so (Some r) p h = puts p.0 (Round r p.1) tt h

    operation_so : (p : PlacedNode) (n : Node) → IsMade n → P p.0 → P (then_rounded q (put p.0 n)).0
    operation_so p n m h = rounded_so q (put p.0 n) (puts p.0 n m h)

    fused_so : (a b : ExprId) (c : PlacedNode) → P c.0 → P (fused_sum q a b c).0
    fused_so a b c h = operation_so (put c.0 (Mul a b))
        (Add (put c.0 (Mul a b)).1 c.1) tt (puts c.0 (Mul a b) tt h)

    mutual
      pub expr_so : (e : Expr) (k : Known) → P k → P (expr_value q e k).0
      expr_so (term t) k h = term_so t k h
      expr_so (sum e t) k h =
          let x = expr_value q e k in
          let y = term_value q t x.0 in
          operation_so y (Add x.1 y.1) tt (term_so t x.0 (expr_so e k h))
      expr_so (difference e t) k h =
          let x = expr_value q e k in
          let y = term_value q t x.0 in
          operation_so y (Sub x.1 y.1) tt (term_so t x.0 (expr_so e k h))

      term_so : (t : Term) (k : Known) → P k → P (term_value q t k).0
      term_so (factor f) k h = factor_so f k h
      term_so (product t f) k h =
          let x = term_value q t k in
          let y = factor_value q f x.0 in
          operation_so y (Mul x.1 y.1) tt (factor_so f x.0 (term_so t k h))
      term_so (quotient t f) k h =
          let x = term_value q t k in
          let y = factor_value q f x.0 in
          operation_so y (Div x.1 y.1) tt (factor_so f x.0 (term_so t k h))

      factor_so : (f : Factor) (k : Known) → P k → P (factor_value q f k).0
      factor_so (negation f) k h =
          puts (factor_value q f k).0 (Neg (factor_value q f k).1) tt (factor_so f k h)
      factor_so (atom a) k h = atom_so a k h

      atom_so : (a : Atom) (k : Known) → P k → P (atom_value q a k).0
      atom_so (number c text) k h = puts k (Lit (literal_of text)) tt h
      atom_so (variable c text) k h = names k text h
      atom_so (parenthesized e) k h = expr_so e k h
      atom_so (absolute e) k h =
          puts (expr_value q e k).0 (Abs (expr_value q e k).1) tt (expr_so e k h)
      atom_so (called c text e) k h = puts (expr_value q e k).0
          (Round (operator_named k text) (expr_value q e k).1) tt (expr_so e k h)
      atom_so (rounded o e) k h =
          puts (expr_value q e k).0 (Round (rounding_of o) (expr_value q e k).1) tt (expr_so e k h)
      atom_so (fused a b c) k h =
          let x = expr_value q a k in
          let y = expr_value q b x.0 in
          fused_so x.1 y.1 (expr_value q c y.0) (expr_so c y.0 (expr_so b x.0 (expr_so a k h)))

  -- ---- formulas
  prop_so : (p : Prop) (k : Known) → P k → P (prop_claim p k).0
  prop_so (lies_in e r) k h = expr_so None e k h
  prop_so (relative_in a b r) k h = expr_so None b (expr_value None a k).0 (expr_so None a k h)
  prop_so (at_most e b) k h = expr_so None e k h
  prop_so (at_least e b) k h = expr_so None e k h
  prop_so (multiple f e w) k h = expr_so None e k h

  stated_so : (p : Stated) (k : Known) → P k → P (stated_claim p k).0
  stated_so (affirmed p) k h = prop_so p k h
  stated_so (denied p) k h = prop_so p k h

  pub formula_so : (f : Formula) (k : Known) → P k → P (formula_claims f k).known
  formula_so (single p) k h = stated_so p k h
  formula_so (and f p) k h = stated_so p (formula_claims f k).known (formula_so f k h)
  formula_so (or f p) k h = stated_so p (formula_claims f k).known (formula_so f k h)
  formula_so (implies f p) k h = stated_so p (formula_claims f k).known (formula_so f k h)

  -- ---- hints
  need_so : (n : Need) (s : NeedsSoFar) → P s.0 → P (with_need n s).0
  need_so (nonzero e zero_text) s h = expr_so None e s.0 h
  need_so (below e b) s h = expr_so None e s.0 h
  need_so (not_above e b) s h = expr_so None e s.0 h
  need_so (above e b) s h = expr_so None e s.0 h
  need_so (not_below e b) s h = expr_so None e s.0 h

  need_list_so : (l : NeedList) (s : NeedsSoFar) → P s.0 → P (with_need_list l s).0
  need_list_so (last_need n) s h = need_so n s h
  need_list_so (more_needs n l) s h = need_list_so l (with_need n s) (need_so n s h)

  pub needs_so : (n : Needs) (k : Known) → P k → P (needs_value n k).0
  needs_so always k h = h
  needs_so (provided l) k h = need_list_so l (k, []) h

  names_so : (l : Names) (s : HintsSoFar) → P s.0 → P (with_names l s).0
  names_so (last_name n) s h = names s.0 (name_text n) h
  names_so (more_names n l) s h = names_so l (with_halved n s) (names s.0 (name_text n) h)

  halving_so : (x : Halving) (s : HintsSoFar) → P s.0 → P (with_halving x s).0
  halving_so (halved_by e n) s h =
      names_so n ((expr_value None e s.0).0, s.1) (expr_so None e s.0 h)
  halving_so (with_goal e x) s h =
      halving_so x ((expr_value None e s.0).0, s.1) (expr_so None e s.0 h)

  -- both sides of a hint, and what it needs
  pub sides_so : (a b : Expr) (k : Known) → P k → P (expr_value None b (expr_value None a k).0).0
  sides_so a b k h = expr_so None b (expr_value None a k).0 (expr_so None a k h)

  hint_so : (x : Hint) (s : HintsSoFar) → P s.0 → P (with_hint x s).0
  hint_so (rewrite a b n) s h =
      needs_so n (expr_value None b (expr_value None a s.0).0).0 (sides_so a b s.0 h)
  hint_so (like a b) s h = sides_so a b s.0 h
  hint_so (split n c) s h = names s.0 (name_text n) h
  hint_so (halving x) s h = halving_so x s h

  pub hints_so : (l : Hints) (s : HintsSoFar) → P s.0 → P (with_hints l s).0
  hints_so no_hint s h = h
  hints_so (hint x l) s h = hints_so l (with_hint x s) (hint_so x s h)
