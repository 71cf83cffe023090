-- The value of what a step does.
use Rattle.std.proofs.Common.{◌≡◌, ℕ, codes, List, [], ◌++◌, map, Option, Some, None, sym, ap, ◌∙◌}
use Rattle.std.proofs.Common.{subst, append_assoc, append-nil}
use Rattle.std.specs.List.{list_any}
use Rattle.std.specs.Str.{bytes_eq}
use Rattle.std.specs.Str.Parse.{digits_value}
use Rattle.std.specs.Fmt.{decimal}
use Rattle.fx_model.specs.Fraction.{Fraction, ◌*ℚ◌}
use Rattle.fx_model.specs.declared.ExprId.{ExprId}
use Rattle.fx_model.specs.declared.Node.{Node}
use Rattle.fx_model.specs.declared.Node.TheVariants.{Lit}
use Rattle.fx_model.specs.Expression.{IsOrdered}
use Rattle.expr_dag.specs.Extended.{ValuesStay}
use Rattle.script_nodes.specs.Literals.{literal_of}
use Rattle.script_nodes.specs.Known.{Name, Known, PlacedNode, put, variable_put, name_put, entry_of}
use Rattle.script_nodes.specs.Known.{named as name_placed}
use Rattle.script_nodes.specs.Values.{atom_value, expr_value}
use Rattle.fixprog.specs.Grammar.{Operand, named, given, Operation, copy, negation, sum, difference}
use Rattle.fixprog.specs.Grammar.{product, shift_right, shift_left}
use Rattle.fixprog.specs.Execution.{Values, operand_value, exact_value}
use Rattle.fixprog.specs.Printed.{IsShort}
use Rattle.program_truths.proofs.Trees.{operand_atom, operation_expr}
use Rattle.program_truths.proofs.Given.{Gives, negation_gives, sum_gives, difference_gives}
use Rattle.program_truths.proofs.Given.{product_gives, variables_more}
use Rattle.program_truths.proofs.Shifts.{right_value, left_value}
use Rattle.program_truths.proofs.Knowing.{IsFront, Knows, HasValue, knows_behind, operand_gives}
use Rattle.program_truths.proofs.Knowing.{put_variables}

-- ---- variables of an operand

abbrev Grows : Known → Known → Type 0
Grows k j = (more : List Name) × (j.variables ≡ k.variables ++ more)

pub front_put : (vars : List Name) (k : Known) (n : Node) → IsFront (put k n).0.variables vars
    → IsFront k.variables vars
unfolding put
front_put vars k n h = h

front_back : (vars : List Name) (k j : Known) → Grows k j → IsFront j.variables vars
    → IsFront k.variables vars
front_back vars k j g h = (
  g.0 ++ h.0,
  h.1 ∙ ap (λ l. l ++ h.0) g.1
      ∙ append_assoc k.variables g.0 h.0,
)

module _ (stay : ValuesStay) (f : Name → Fraction) (vars : List Name) where
  variable_grows : (k : Known) (t : Name) → Grows k (variable_put k t).0
  variable_grows k t = let m = variables_more stay (map f vars) k.variables t
      (list_any (bytes_eq t) k.variables) in (m.0, put_variables stay f vars k t ∙ m.1)

  by_entry : (k : Known) (t : Name) (e : Option ExprId) → Grows k (name_put k t e).0
  by_entry k t None = variable_grows k t
  by_entry k t (Some x) = ([], sym (append-nil k.variables))

  literal_grows : (k : Known) (n : Node) → Grows k (put k n).0
  unfolding put
  literal_grows k n = ([], sym (append-nil k.variables))

  operand_grows : (k : Known) (x : Operand) → Grows k (atom_value None (operand_atom x) k).0
  unfolding name_placed
  operand_grows k (named t) = by_entry k t (entry_of k.values t)
  operand_grows k (given t) = literal_grows k (Lit (literal_of t))

  -- ---- two operands

  abbrev Have : Values → Operand → Type 0
  Have vs x = HasValue stay f vars vs x

  abbrev placed : Operand → Known → PlacedNode
  placed x k = atom_value None (operand_atom x) k

  operands_give : (vs : Values) (k : Known) (x y : Operand) → IsOrdered k.nodes
      → Knows (map f vars) f vs k → Have vs x → Have vs y
      → IsFront (placed y (placed x k).0).0.variables vars
      → Gives (map f vars) k (placed x k) (Some (operand_value vs x))
      × Gives (map f vars) (placed x k).0 (placed y (placed x k).0) (Some (operand_value vs y))
  operands_give vs k x y o n hx hy front =
      let p = placed x k in
      let g = operand_gives stay f vars vs k x o n hx
      (front_back vars p.0 (placed y p.0).0 (operand_grows p.0 y) front) in (
        g,
        operand_gives stay f vars vs p.0 y g.ordered
            (knows_behind (map f vars) f vs k p (Some (operand_value vs x)) g n) hy front,
      )

  -- ---- operations

  abbrev pub Operands : Values → Operation → Type 0
  Operands vs (copy a) = Have vs a
  Operands vs (negation a) = Have vs a
  Operands vs (sum a b) = Have vs a × Have vs b
  Operands vs (difference a b) = Have vs a × Have vs b
  Operands vs (product a b) = Have vs a × Have vs b
  Operands vs (shift_right a k) = Have vs a
  Operands vs (shift_left a k) = Have vs a

  shift_gives : (vs : Values) (k : Known) (a : Operand) (t : List ℕ) → IsOrdered k.nodes
      → Knows (map f vars) f vs k → Have vs a
      → IsFront (expr_value None (operation_expr (product a (given t))) k).0.variables vars
      → Gives (map f vars) k (expr_value None (operation_expr (product a (given t))) k)
      (Some (operand_value vs a *ℚ operand_value vs (given t)))
  shift_gives vs k a t o n h front =
      let g = operands_give vs k a (given t) o n h tt
      (front_put vars (placed (given t) (placed a k).0).0 _ front) in
      product_gives stay (map f vars) k (placed a k) (placed (given t) (placed a k).0) _ _ g.0 g.1

  -- the exact result
  pub operation_gives : (vs : Values) (k : Known) (x : Operation) → IsShort x → IsOrdered k.nodes
      → Knows (map f vars) f vs k → Operands vs x
      → IsFront (expr_value None (operation_expr x) k).0.variables vars
      → Gives (map f vars) k (expr_value None (operation_expr x) k) (Some (exact_value vs x))
  operation_gives vs k (copy a) s o n h front = operand_gives stay f vars vs k a o n h front
  operation_gives vs k (negation a) s o n h front = negation_gives stay (map f vars) k (placed a k)
      _ (operand_gives stay f vars vs k a o n h (front_put vars (placed a k).0 _ front))
  operation_gives vs k (sum a b) s o n h front =
      let g = operands_give vs k a b o n h.0 h.1 (front_put vars (placed b (placed a k).0).0 _
      front) in sum_gives stay (map f vars) k (placed a k) (placed b (placed a k).0) _ _ g.0 g.1
  operation_gives vs k (difference a b) s o n h front =
      let g = operands_give vs k a b o n h.0 h.1 (front_put vars (placed b (placed a k).0).0 _
      front) in difference_gives stay (map f vars) k (placed a k) (placed b (placed a k).0) _ _
      g.0 g.1
  operation_gives vs k (product a b) s o n h front =
      let g = operands_give vs k a b o n h.0 h.1 (front_put vars (placed b (placed a k).0).0 _
      front) in product_gives stay (map f vars) k (placed a k) (placed b (placed a k).0) _ _
      g.0 g.1
  operation_gives vs k (shift_right a d) s o n h front =
      subst (λ z. Gives (map f vars) k (expr_value None (operation_expr (shift_right a d)) k)
      (Some (operand_value vs a *ℚ z))) (right_value (digits_value 10 d.text) s)
      (shift_gives vs k a (codes "1b-" ++ decimal (digits_value 10 d.text)) o n h front)
  operation_gives vs k (shift_left a d) s o n h front =
      subst (λ z. Gives (map f vars) k (expr_value None (operation_expr (shift_left a d)) k)
      (Some (operand_value vs a *ℚ z))) (left_value (digits_value 10 d.text) s)
      (shift_gives vs k a (codes "1b" ++ decimal (digits_value 10 d.text)) o n h front)
