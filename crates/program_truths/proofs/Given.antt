-- What an expression adds to what is known, and its value.
use Rattle.std.proofs.Common.{◌≡◌, ◌<◌, ◌≤◌, List, [], ◌∷◌, ◌++◌, length, Option, Some, Bool, true}
use Rattle.std.proofs.Common.{false, refl, sym, ap, ◌∙◌, arith, slice_index_or, append_assoc}
use Rattle.std.proofs.Common.{append-nil, if◌then◌else◌}
use Rattle.std.specs.List.{list_any, position_or_len}
use Rattle.std.specs.Str.{bytes_eq}
use Rattle.fx_model.specs.Fraction.{Fraction, zero_ℚ, ◌+ℚ◌, ◌-ℚ◌, ◌*ℚ◌, neg_ℚ}
use Rattle.fx_model.specs.Rounded.{rounded}
use Rattle.fx_model.specs.declared.Rounding.{Rounding}
use Rattle.fx_model.specs.declared.Literal.{Literal}
use Rattle.fx_model.specs.declared.ExprId.{ExprId}
use Rattle.fx_model.specs.declared.Node.{Node}
use Rattle.fx_model.specs.declared.Node.TheVariants.{Var, Lit, Neg, Add, Sub, Mul, Round}
use Rattle.fx_model.specs.Expression.{Assignment, ChildrenBelow, IsOrdered, node_value, value}
use Rattle.fx_model.specs.Expression.{literal_value, lift₁, lift₂}
use Rattle.expr_dag.specs.Extended.{ValuesStay}
use Rattle.script_nodes.specs.Known.{Name, Known, PlacedNode, put, variable_put, variables_with}
use Rattle.program_truths.proofs.Nodes.{put_is}

pub record Gives (a : Assignment) (k : Known) (q : PlacedNode) (v : Option Fraction) : Type 0 where
  pub ordered : IsOrdered q.0.nodes
  pub longer : length k.nodes ≤ length q.0.nodes
  pub kept : (y : ExprId) → y.0 < length k.nodes → value q.0.nodes a y ≡ value k.nodes a y
  pub within : q.1.0 < length q.0.nodes
  pub is : value q.0.nodes a q.1 ≡ v
  pub values : q.0.values ≡ k.values
  pub more : List Name
  pub variables : q.0.variables ≡ k.variables ++ more

-- a node behind what was given
module _ (stay : ValuesStay) (a : Assignment) where
  values_put : (k : Known) (n : Node) → (put k n).0.values ≡ k.values
  unfolding put
  values_put k n = refl

  variables_put : (k : Known) (n : Node) → (put k n).0.variables ≡ k.variables
  unfolding put
  variables_put k n = refl

  pub put_behind : (k : Known) (q : PlacedNode) (v w : Option Fraction) (n : Node) → Gives a k q v
      → ChildrenBelow (length q.0.nodes) n → node_value a (value q.0.nodes a) n ≡ w
      → Gives a k (put q.0 n) w
  put_behind k q v w n g c e =
      let p = put_is stay a q.0 n g.ordered c in
      record {
        ordered = p.ordered;
        longer = let x = g.longer in let y = p.longer in omega (arith, x, y);
        kept = λ y l. p.kept y (let x = g.longer in omega (arith, x)) ∙ g.kept y l;
        within = p.within;
        is = p.is ∙ e;
        values = values_put q.0 n ∙ g.values;
        more = g.more;
        variables = variables_put q.0 n ∙ g.variables;
      }

  -- one behind the other
  pub gives_both : (k : Known) (p q : PlacedNode) (v w : Option Fraction) → Gives a k p v
      → Gives a p.0 q w → Gives a k q w
  gives_both k p q v w g h = record {
    ordered = h.ordered;
    longer = let x = g.longer in let y = h.longer in omega (arith, x, y);
    kept = λ y l. h.kept y (let x = g.longer in omega (arith, x)) ∙ g.kept y l;
    within = h.within;
    is = h.is;
    values = h.values ∙ g.values;
    more = g.more ++ h.more;
    variables = h.variables ∙ ap (λ l. l ++ h.more) g.variables
        ∙ append_assoc k.variables g.more h.more;
  }

  pub literal_gives : (k : Known) (l : Literal) → IsOrdered k.nodes
      → Gives a k (put k (Lit l)) (Some (literal_value l))
  literal_gives k l o =
      let p = put_is stay a k (Lit l) o tt in
      record {
        ordered = p.ordered;
        longer = p.longer;
        kept = p.kept;
        within = p.within;
        is = p.is;
        values = values_put k (Lit l);
        more = [];
        variables = variables_put k (Lit l) ∙ sym (append-nil k.variables);
      }

  pub negation_gives : (k : Known) (q : PlacedNode) (v : Option Fraction) → Gives a k q v
      → Gives a k (put q.0 (Neg q.1)) (lift₁ neg_ℚ v)
  negation_gives k q v g = put_behind k q v (lift₁ neg_ℚ v) (Neg q.1) g g.within
      (ap (lift₁ neg_ℚ) g.is)

  pub rounded_gives : (r : Rounding) (k : Known) (q : PlacedNode) (v : Option Fraction)
      → Gives a k q v
      → Gives a k (put q.0 (Round r q.1)) (lift₁ (rounded r.dir r.lsb) v)
  rounded_gives r k q v g = put_behind k q v (lift₁ (rounded r.dir r.lsb) v) (Round r q.1) g
      g.within (ap (lift₁ (rounded r.dir r.lsb)) g.is)

  -- the first operand is still there behind the second
  first_within : (k : Known) (p q : PlacedNode) (v w : Option Fraction) → Gives a k p v
      → Gives a p.0 q w → p.1.0 < length q.0.nodes
  first_within k p q v w g h = let x = g.within in let y = h.longer in omega (arith, x, y)

  first_is : (k : Known) (p q : PlacedNode) (v w : Option Fraction)
      → Gives a k p v → Gives a p.0 q w
      → value q.0.nodes a p.1 ≡ v
  first_is k p q v w g h = h.kept p.1 g.within ∙ g.is

  pub sum_gives : (k : Known) (p q : PlacedNode) (v w : Option Fraction) → Gives a k p v
      → Gives a p.0 q w → Gives a k (put q.0 (Add p.1 q.1)) (lift₂ ◌+ℚ◌ v w)
  sum_gives k p q v w g h = put_behind k q w (lift₂ ◌+ℚ◌ v w) (Add p.1 q.1)
      (gives_both k p q v w g h) (first_within k p q v w g h, h.within)
      (ap (λ x. lift₂ ◌+ℚ◌ x (value q.0.nodes a q.1)) (first_is k p q v w g h)
      ∙ ap (lift₂ ◌+ℚ◌ v) h.is)

  pub difference_gives : (k : Known) (p q : PlacedNode) (v w : Option Fraction) → Gives a k p v
      → Gives a p.0 q w → Gives a k (put q.0 (Sub p.1 q.1)) (lift₂ ◌-ℚ◌ v w)
  difference_gives k p q v w g h = put_behind k q w (lift₂ ◌-ℚ◌ v w) (Sub p.1 q.1)
      (gives_both k p q v w g h) (first_within k p q v w g h, h.within)
      (ap (λ x. lift₂ ◌-ℚ◌ x (value q.0.nodes a q.1)) (first_is k p q v w g h)
      ∙ ap (lift₂ ◌-ℚ◌ v) h.is)

  pub product_gives : (k : Known) (p q : PlacedNode) (v w : Option Fraction) → Gives a k p v
      → Gives a p.0 q w → Gives a k (put q.0 (Mul p.1 q.1)) (lift₂ ◌*ℚ◌ v w)
  product_gives k p q v w g h = put_behind k q w (lift₂ ◌*ℚ◌ v w) (Mul p.1 q.1)
      (gives_both k p q v w g h) (first_within k p q v w g h, h.within)
      (ap (λ x. lift₂ ◌*ℚ◌ x (value q.0.nodes a q.1)) (first_is k p q v w g h)
      ∙ ap (lift₂ ◌*ℚ◌ v) h.is)

  -- a variable goes last where it is new
  pub variables_more : (names : List Name) (t : Name) (b : Bool) → (more : List Name)
      × ((if b then names else names ++ (t ∷ [])) ≡ names ++ more)
  variables_more names t true = ([], sym (append-nil names))
  variables_more names t false = (t ∷ [], refl)

  pub variable_gives : (k : Known) (t : Name) → IsOrdered k.nodes
      → Gives a k (variable_put k t) (Some (slice_index_or a
      (position_or_len (bytes_eq t) k.variables) zero_ℚ))
  unfolding variable_put
  variable_gives k t o =
      let j : Known = record k { variables = variables_with k.variables t } in
      let n = Var (position_or_len (bytes_eq t) k.variables) in
      let p = put_is stay a j n o tt in
      let m = variables_more k.variables t (list_any (bytes_eq t) k.variables) in
      record {
        ordered = p.ordered;
        longer = p.longer;
        kept = p.kept;
        within = p.within;
        is = p.is;
        values = values_put j n;
        more = m.0;
        variables = variables_put j n ∙ m.1;
      }
