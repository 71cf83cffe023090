-- The number of a name stays, whatever is read.
use Rattle.std.proofs.Common.{◌≡◌, ℕ, List, [], ◌∷◌, ◌++◌, Option, Some, None, Bool, true, false}
use Rattle.std.proofs.Common.{◌||◌}
use Rattle.std.proofs.Common.{if◌then◌else◌, refl, sym, ap, ◌∙◌, subst}
use Rattle.std.specs.List.{list_any, position, position_or_len}
use Rattle.std.specs.Option.{is_some}
use Rattle.std.specs.Str.{bytes_eq}
use Rattle.std.proofs.lemmas.Bool.{and_from, or_right}
use Rattle.fx_model.specs.declared.Rounding.{Rounding}
use Rattle.fx_model.specs.declared.ExprId.{ExprId}
use Rattle.fx_model.specs.declared.Node.{Node}
use Rattle.fx_model.specs.declared.Node.TheVariants.{Var, Neg, Add, Mul, Abs, Round}
use Rattle.expr_dag.specs.Nodes.{same_node, place_of, placed, with_node}
use Rattle.expr_dag.proofs.Same.{itself}
use Rattle.script_shape.specs.Expressions.{Expr, term, sum, difference, Term, factor, product}
use Rattle.script_shape.specs.Expressions.{quotient, Factor, negation, atom, Atom, number, variable}
use Rattle.script_shape.specs.Expressions.{parenthesized, absolute, called, rounded, fused}
use Rattle.script_nodes.specs.Known.{Name, Known, PlacedNode, entry_of, put, variables_with}
use Rattle.script_nodes.specs.Known.{variable_put, name_put, named, node_at, value_or_node}
use Rattle.script_nodes.specs.Known.{number_of}
use Rattle.script_nodes.specs.Values.{then_rounded, fused_sum, expr_value, term_value, factor_value}
use Rattle.script_nodes.specs.Values.{atom_value}
use Rattle.script_grammar.proofs.There.{past, stays, joins, any_before, node_stays, node_joins}
use Rattle.script_grammar.proofs.There.{absent, found_place, no_place, is_there, variable_there}
use Rattle.script_grammar.proofs.There.{found, has_node, name_joins, same_place}

-- ---- the number of a name

abbrev pub node_named : List Name → Name → Node
node_named names text = Var (position_or_len (bytes_eq text) names)

-- the name has no value, and its variable's node is in the list with this number
pub record IsVariable (k : Known) (text : Name) (x : ExprId) : Type 0 where
  pub none : entry_of k.values text ≡ None
  pub among : list_any (bytes_eq text) k.variables ≡ true
  pub there : has_node k.nodes (node_named k.variables text) ≡ true
  pub at : x ≡ record { 0 = position_or_len (same_node (node_named k.variables text)) k.nodes }

pub data HasNumber (k : Known) (text : Name) (x : ExprId) : Type 0 where
  by_value : entry_of k.values text ≡ Some x → HasNumber k text x
  by_variable : IsVariable k text x → HasNumber k text x

-- a place that there is
place_found : {A : Type 0} (p : A → Bool) (xs : List A) (i : ℕ) → position p xs ≡ Some i
    → (list_any p xs ≡ true) × (position_or_len p xs ≡ i)
place_found p xs i e = by_test (list_any p xs) refl
  where
    by_test : (b : Bool) → list_any p xs ≡ b → (list_any p xs ≡ true) × (position_or_len p xs ≡ i)
    by_test true h = (h, cc (sym (found_place p xs h) ∙ e))
    by_test false h = absurd (cc (sym (no_place p xs h) ∙ e))

pub number_has : (k : Known) (text : Name) (x : ExprId) → number_of k text ≡ Some x
    → HasNumber k text x
number_has k text x e = by_entry (entry_of k.values text) refl e
  where
    at : Option ℕ
    at = position (bytes_eq text) k.variables

    by_node : (none : entry_of k.values text ≡ None) (i : ℕ) → at ≡ Some i → (b : Bool)
        → has_node k.nodes (Var i) ≡ b → place_of k.nodes (Var i) ≡ Some x → HasNumber k text x
    by_node none i p true h q =
        let f = place_found (bytes_eq text) k.variables i p in
        by_variable (record {
          none = none;
          among = f.0;
          there = ap (λ n. has_node k.nodes (Var n)) f.1 ∙ h;
          at = cc (sym q ∙ found k.nodes (Var i) h)
              ∙ ap (λ n. record { 0 = position_or_len (same_node (Var n)) k.nodes }) (sym f.1);
        })
    by_node none i p false h q = absurd (cc (sym (absent k.nodes (Var i) h) ∙ q))

    by_place : entry_of k.values text ≡ None → (o : Option ℕ) → at ≡ o
        → node_at k.nodes o ≡ Some x → HasNumber k text x
    by_place none None p q = absurd (cc q)
    by_place none (Some i) p q = by_node none i p (has_node k.nodes (Var i)) refl q

    by_entry : (o : Option ExprId) → entry_of k.values text ≡ o
        → value_or_node o (node_at k.nodes at) ≡ Some x → HasNumber k text x
    by_entry (Some y) h q = by_value (h ∙ q)
    by_entry None h q = by_place h at refl q

pub number_there : (k : Known) (text : Name) (x : ExprId) → HasNumber k text x
    → is_there k text ≡ true
number_there k text x (by_value e) =
    ap (λ o. is_some o || variable_there k.nodes k.variables text) e
number_there k text x (by_variable v) = or_right (is_some (entry_of k.values text)) _
    (and_from (list_any (bytes_eq text) k.variables) _ v.among v.there)

-- what has a number keeps it
abbrev pub Keeps : Known → Known → Type 0
Keeps k j = (text : Name) (x : ExprId) → HasNumber k text x → HasNumber j text x

pub keeps_both : {a b c : Known} → Keeps a b → Keeps b c → Keeps a c
keeps_both f g text x h = g text x (f text x h)

pub keeps_itself : (k : Known) → Keeps k k
keeps_itself k text x h = h

-- ---- one node

place_stays : (nodes : List Node) (n m : Node) (o : Option ExprId) → has_node nodes m ≡ true
    → position_or_len (same_node m) (placed nodes n o).0 ≡ position_or_len (same_node m) nodes
place_stays nodes n m (Some y) h = refl
place_stays nodes n m None h = stays (same_node m) nodes (n ∷ []) h

pub put_keeps : (k : Known) (n : Node) → Keeps k (put k n).0
unfolding put
put_keeps k n text x (by_value e) = by_value e
put_keeps k n text x (by_variable v) =
    let m = node_named k.variables text in
    by_variable (record {
      none = v.none;
      among = v.among;
      there = node_stays k.nodes m n (place_of k.nodes n) v.there;
      at = v.at ∙ ap (λ (i : ℕ). record { 0 = i })
          (sym (place_stays k.nodes n m (place_of k.nodes n) v.there));
    })

-- ---- names

abbrev with_variables : Known → List Name → Known
with_variables k names = record k { variables = names }

names_keep : (k : Known) (t : Name) (b : Bool)
    → Keeps k (with_variables k (if b then k.variables else k.variables ++ (t ∷ [])))
names_keep k t true text x h = h
names_keep k t false text x (by_value e) = by_value e
names_keep k t false text x (by_variable v) =
    let same : position_or_len (bytes_eq text) (k.variables ++ (t ∷ [])) ≡ position_or_len
    (bytes_eq text) k.variables = stays (bytes_eq text) k.variables (t ∷ []) v.among in
    by_variable (record {
      none = v.none;
      among = any_before (bytes_eq text) k.variables (t ∷ []) v.among;
      there = ap (λ i. has_node k.nodes (Var i)) same ∙ v.there;
      at = v.at ∙ ap (λ i. record { 0 = position_or_len (same_node (Var i)) k.nodes }) (sym same);
    })

variable_keeps : (k : Known) (t : Name) → Keeps k (variable_put k t).0
unfolding variable_put
variable_keeps k t = keeps_both (names_keep k t (list_any (bytes_eq t) k.variables))
    (put_keeps (with_variables k (variables_with k.variables t)) _)

name_keeps : (k : Known) (t : Name) (o : Option ExprId) → Keeps k (name_put k t o).0
name_keeps k t (Some y) = keeps_itself k
name_keeps k t None = variable_keeps k t

pub named_keeps : (k : Known) (t : Name) → Keeps k (named k t).0
unfolding named
named_keeps k t = name_keeps k t (entry_of k.values t)

-- ---- expressions

module _ (q : Option Rounding) where
  rounded_keeps : (o : Option Rounding) (k : Known) (p : PlacedNode) → Keeps k p.0
      → Keeps k (then_rounded o p).0
  rounded_keeps None k p h = h
  rounded_keeps (Some r) k p h = keeps_both h (put_keeps p.0 (Round r p.1))

  operation_keeps : (k : Known) (p : PlacedNode) (n : Node) → Keeps k p.0
      → Keeps k (then_rounded q (put p.0 n)).0
  operation_keeps k p n h = rounded_keeps q k (put p.0 n) (keeps_both h (put_keeps p.0 n))

  fused_keeps : (a b : ExprId) (k : Known) (c : PlacedNode) → Keeps k c.0
      → Keeps k (fused_sum q a b c).0
  fused_keeps a b k c h = operation_keeps k (put c.0 (Mul a b)) (Add (put c.0 (Mul a b)).1 c.1)
      (keeps_both h (put_keeps c.0 (Mul a b)))

  mutual
    pub expr_keeps : (e : Expr) (k : Known) → Keeps k (expr_value q e k).0
    expr_keeps (term t) k = term_keeps t k
    expr_keeps (sum e t) k = operation_keeps k (term_value q t (expr_value q e k).0) _
        (keeps_both (expr_keeps e k) (term_keeps t (expr_value q e k).0))
    expr_keeps (difference e t) k = operation_keeps k (term_value q t (expr_value q e k).0) _
        (keeps_both (expr_keeps e k) (term_keeps t (expr_value q e k).0))

    term_keeps : (t : Term) (k : Known) → Keeps k (term_value q t k).0
    term_keeps (factor f) k = factor_keeps f k
    term_keeps (product t f) k = operation_keeps k (factor_value q f (term_value q t k).0) _
        (keeps_both (term_keeps t k) (factor_keeps f (term_value q t k).0))
    term_keeps (quotient t f) k = operation_keeps k (factor_value q f (term_value q t k).0) _
        (keeps_both (term_keeps t k) (factor_keeps f (term_value q t k).0))

    factor_keeps : (f : Factor) (k : Known) → Keeps k (factor_value q f k).0
    factor_keeps (negation f) k = keeps_both (factor_keeps f k)
        (put_keeps (factor_value q f k).0 (Neg (factor_value q f k).1))
    factor_keeps (atom a) k = atom_keeps a k

    atom_keeps : (a : Atom) (k : Known) → Keeps k (atom_value q a k).0
    atom_keeps (number c t) k = put_keeps k _
    atom_keeps (variable c t) k = named_keeps k t
    atom_keeps (parenthesized e) k = expr_keeps e k
    atom_keeps (absolute e) k =
        keeps_both (expr_keeps e k) (put_keeps (expr_value q e k).0 (Abs (expr_value q e k).1))
    atom_keeps (called c t e) k = keeps_both (expr_keeps e k) (put_keeps (expr_value q e k).0 _)
    atom_keeps (rounded o e) k = keeps_both (expr_keeps e k) (put_keeps (expr_value q e k).0 _)
    atom_keeps (fused a b c) k =
        let x = (expr_value q a k).0 in
        let y = (expr_value q b x).0 in
        fused_keeps (expr_value q a k).1 (expr_value q b x).1 k (expr_value q c y)
        (keeps_both (expr_keeps a k) (keeps_both (expr_keeps b x) (expr_keeps c y)))

-- ---- a name that is read has a number, and is read again with the same

placed_at : (nodes : List Node) (n : Node) → (placed nodes n (place_of nodes n)).1
    ≡ record { 0 = position_or_len (same_node n) (placed nodes n (place_of nodes n)).0 }
placed_at nodes n = by_test (has_node nodes n) refl
  where
    by_test : (b : Bool) → has_node nodes n ≡ b → (placed nodes n (place_of nodes n)).1
        ≡ record { 0 = position_or_len (same_node n) (placed nodes n (place_of nodes n)).0 }
    by_test true h = subst (λ o. (placed nodes n o).1
        ≡ record { 0 = position_or_len (same_node n) (placed nodes n o).0 })
        (sym (found nodes n h)) refl
    by_test false h = subst (λ o. (placed nodes n o).1
        ≡ record { 0 = position_or_len (same_node n) (placed nodes n o).0 })
        (sym (absent nodes n h)) (ap (λ (i : ℕ). record { 0 = i })
        (sym (past (same_node n) nodes h) ∙ sym (joins (same_node n) nodes n (itself n))))

variable_has : (k : Known) (text : Name) → entry_of k.values text ≡ None
    → HasNumber (variable_put k text).0 text (variable_put k text).1
unfolding variable_put put
variable_has k text e =
    let names = variables_with k.variables text in
    let n : Node = Var (position_or_len (bytes_eq text) k.variables) in
    let same : position_or_len (bytes_eq text) names ≡ position_or_len (bytes_eq text) k.variables =
    same_place k.variables text (list_any (bytes_eq text) k.variables) in
    by_variable (record {
      none = e;
      among = name_joins k.variables text (list_any (bytes_eq text) k.variables) refl;
      there = ap (λ i. has_node (with_node k.nodes n).0 (Var i)) same
          ∙ node_joins k.nodes n (has_node k.nodes n) (place_of k.nodes n) refl refl;
      at = placed_at k.nodes n ∙ ap (λ i.
          record { 0 = position_or_len (same_node (Var i)) (with_node k.nodes n).0 }) (sym same);
    })

name_has : (k : Known) (text : Name) (o : Option ExprId) → entry_of k.values text ≡ o
    → HasNumber (name_put k text o).0 text (name_put k text o).1
name_has k text (Some y) e = by_value e
name_has k text None e = variable_has k text e

pub named_has : (k : Known) (text : Name) → HasNumber (named k text).0 text (named k text).1
unfolding named
named_has k text = name_has k text (entry_of k.values text) refl

-- a name has one number
pub number_once : (k : Known) (text : Name) (x y : ExprId) → HasNumber k text x
    → HasNumber k text y → x ≡ y
number_once k text x y (by_value e) (by_value f) = let g : Some x ≡ Some y = sym e ∙ f in cc
number_once k text x y (by_value e) (by_variable v) = absurd (let n = v.none in cc)
number_once k text x y (by_variable v) (by_value e) = absurd (let n = v.none in cc)
number_once k text x y (by_variable v) (by_variable w) = v.at ∙ sym w.at
