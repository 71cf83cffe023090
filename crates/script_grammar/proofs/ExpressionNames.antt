-- The number of an expression is that of a node, and so are those of all names with values.
use Rattle.std.proofs.Common.{◌≡◌, ℕ, ◌<◌, ◌≤◌, List, [], ◌∷◌, length, position, Option, Some, None}
use Rattle.std.proofs.Common.{IfSome, refl, arith, length-append, le_trans}
use Rattle.std.proofs.lemmas.List.Quantifiers.{position-Some}
use Rattle.fx_model.specs.declared.Rounding.{Rounding}
use Rattle.fx_model.specs.declared.ExprId.{ExprId}
use Rattle.fx_model.specs.declared.Node.{Node}
use Rattle.fx_model.specs.declared.Node.TheVariants.{Neg, Add, Sub, Mul, Div, Abs, Round}
use Rattle.expr_dag.specs.Nodes.{same_node, numbered, placed}
use Rattle.script_shape.specs.Expressions.{Expr, term, sum, difference, Term, factor, product}
use Rattle.script_shape.specs.Expressions.{quotient, Factor, negation, atom, Atom, number, variable}
use Rattle.script_shape.specs.Expressions.{parenthesized, absolute, called, rounded, fused}
use Rattle.script_shape.specs.Tree.{Definition, names_operator, names_value}
use Rattle.script_nodes.specs.Known.{Name, Known, PlacedNode, put, entry_of, variable_put, name_put}
use Rattle.script_nodes.specs.Known.{named}
use Rattle.script_nodes.specs.Values.{then_rounded, fused_sum, expr_value, term_value, factor_value}
use Rattle.script_nodes.specs.Values.{atom_value}
use Rattle.script_nodes.specs.Definitions.{name_text, rounding_by, definition_value}
use Rattle.script_nodes.specs.Growth.{node_count}
use Rattle.script_nodes.specs.Sound.{ValuesFit}
use Rattle.script_nodes.proofs.Kept.{put_grows, values_fit_more, value_among, value_joins}

-- each name's value is a node
abbrev pub Fits : Known → Type 0
Fits k = ValuesFit (node_count k) k.values

-- nodes stay, and names fit
pub record Grows (k later : Known) : Type 0 where
  pub more : node_count k ≤ node_count later
  pub fits : Fits later

pub grows_both : {a b c : Known} → Grows a b → Grows b c → Grows a c
grows_both g h = record { more = le_trans g.more h.more; fits = h.fits }

-- nodes stay, and the expression is one of them
pub record Sits (k : Known) (p : PlacedNode) : Type 0 where
  pub grows : Grows k p.0
  pub below : p.1.0 < node_count p.0

sits_behind : {k j : Known} {p : PlacedNode} → Grows k j → Sits j p → Sits k p
sits_behind g s = record { grows = grows_both g s.grows; below = s.below }

-- ---- one node

below_placed : (nodes : List Node) (n : Node) (o : Option ℕ) → position (same_node n) nodes ≡ o
    → (placed nodes n (numbered o)).1.0 < length (placed nodes n (numbered o)).0
below_placed nodes n None e = omega (arith, length-append nodes (n ∷ []))
below_placed nodes n (Some i) e = (position-Some (same_node n) nodes i n e).0

put_below : (k : Known) (n : Node) → (put k n).1.0 < node_count (put k n).0
unfolding put
put_below k n = below_placed k.nodes n (position (same_node n) k.nodes) refl

put_fits : (k : Known) (n : Node) → Fits k → Fits (put k n).0
unfolding put
put_fits k n f = values_fit_more _ _ k.values (put_grows k n) f

put_sits : (k : Known) (n : Node) → Fits k → Sits k (put k n)
put_sits k n f =
    record { grows = record { more = put_grows k n; fits = put_fits k n f }; below = put_below k n }

then_put : (k : Known) (p : PlacedNode) (n : Node) → Sits k p → Sits k (put p.0 n)
then_put k p n s = sits_behind s.grows (put_sits p.0 n s.grows.fits)

-- ---- names

variable_sits : (k : Known) (text : Name) → Fits k → Sits k (variable_put k text)
unfolding variable_put
variable_sits k text f =
    let s = put_sits _ _ f in
    record { grows = record { more = s.grows.more; fits = s.grows.fits }; below = s.below }

name_sits : (k : Known) (text : Name) (o : Option ExprId) → IfSome o (λ x. x.0 < node_count k)
    → Fits k → Sits k (name_put k text o)
name_sits k text None h f = variable_sits k text f
name_sits k text (Some x) h f =
    record { grows = record { more = omega arith; fits = f }; below = h }

pub named_sits : (k : Known) (text : Name) → Fits k → Sits k (named k text)
unfolding named
named_sits k text f =
    name_sits k text (entry_of k.values text) (value_among (node_count k) k.values text f) f

-- ---- expressions

module _ (q : Option Rounding) where
  rounded_sits : (o : Option Rounding) (k : Known) (p : PlacedNode) → Sits k p
      → Sits k (then_rounded o p)
  rounded_sits None k p s = s
  rounded_sits (Some r) k p s = then_put k p (Round r p.1) s

  then_operation : (k : Known) (p : PlacedNode) (n : Node) → Sits k p
      → Sits k (then_rounded q (put p.0 n))
  then_operation k p n s = rounded_sits q k (put p.0 n) (then_put k p n s)

  fused_sits : (a b : ExprId) (k : Known) (c : PlacedNode) → Sits k c → Sits k (fused_sum q a b c)
  fused_sits a b k c s = then_operation k (put c.0 (Mul a b)) (Add (put c.0 (Mul a b)).1 c.1)
      (then_put k c (Mul a b) s)

  mutual
    pub expr_sits : (e : Expr) (k : Known) → Fits k → Sits k (expr_value q e k)
    expr_sits (term t) k f = term_sits t k f
    expr_sits (sum e t) k f =
        let a = expr_sits e k f in
        then_operation k (term_value q t (expr_value q e k).0)
        (Add (expr_value q e k).1 (term_value q t (expr_value q e k).0).1)
        (sits_behind a.grows (term_sits t (expr_value q e k).0 a.grows.fits))
    expr_sits (difference e t) k f =
        let a = expr_sits e k f in
        then_operation k (term_value q t (expr_value q e k).0)
        (Sub (expr_value q e k).1 (term_value q t (expr_value q e k).0).1)
        (sits_behind a.grows (term_sits t (expr_value q e k).0 a.grows.fits))

    term_sits : (t : Term) (k : Known) → Fits k → Sits k (term_value q t k)
    term_sits (factor x) k f = factor_sits x k f
    term_sits (product t x) k f =
        let a = term_sits t k f in
        then_operation k (factor_value q x (term_value q t k).0)
        (Mul (term_value q t k).1 (factor_value q x (term_value q t k).0).1)
        (sits_behind a.grows (factor_sits x (term_value q t k).0 a.grows.fits))
    term_sits (quotient t x) k f =
        let a = term_sits t k f in
        then_operation k (factor_value q x (term_value q t k).0)
        (Div (term_value q t k).1 (factor_value q x (term_value q t k).0).1)
        (sits_behind a.grows (factor_sits x (term_value q t k).0 a.grows.fits))

    factor_sits : (x : Factor) (k : Known) → Fits k → Sits k (factor_value q x k)
    factor_sits (negation x) k f =
        then_put k (factor_value q x k) (Neg (factor_value q x k).1) (factor_sits x k f)
    factor_sits (atom a) k f = atom_sits a k f

    atom_sits : (a : Atom) (k : Known) → Fits k → Sits k (atom_value q a k)
    atom_sits (number c text) k f = put_sits k _ f
    atom_sits (variable c text) k f = named_sits k text f
    atom_sits (parenthesized e) k f = expr_sits e k f
    atom_sits (absolute e) k f =
        then_put k (expr_value q e k) (Abs (expr_value q e k).1) (expr_sits e k f)
    atom_sits (called c text e) k f = then_put k (expr_value q e k) _ (expr_sits e k f)
    atom_sits (rounded o e) k f = then_put k (expr_value q e k) _ (expr_sits e k f)
    atom_sits (fused a b c) k f =
        let x = expr_sits a k f in
        let y = expr_sits b (expr_value q a k).0 x.grows.fits in
        let j = (expr_value q b (expr_value q a k).0).0 in
        let z = expr_sits c j y.grows.fits in
        fused_sits (expr_value q a k).1 (expr_value q b (expr_value q a k).0).1 k (expr_value q c j)
        (sits_behind x.grows (sits_behind y.grows z))

-- ---- definitions

pub definition_grows : (x : Definition) (k : Known) → Fits k → Grows k (definition_value x k)
definition_grows (names_operator n o) k f = record { more = omega arith; fits = f }
definition_grows (names_value n h e) k f =
    let q = rounding_by k h in
    let p = expr_value q e k in
    let s = expr_sits q e k f in
    record {
      more = s.grows.more;
      fits = value_joins (node_count p.0) p.0.values (name_text n) p.1 s.below s.grows.fits;
    }
