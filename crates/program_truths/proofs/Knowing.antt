-- The names of a run and their nodes.
use Rattle.std.proofs.Common.{◌≡◌, ◌<◌, ◌⊎◌, inl, inr, List, [], ◌++◌, length, map, Option, Some}
use Rattle.std.proofs.Common.{None, refl, sym, ap, ◌∙◌, subst, arith, append-nil, slice_index_or}
use Rattle.std.specs.List.{position_or_len}
use Rattle.std.specs.Str.{bytes_eq}
use Rattle.fx_model.specs.Fraction.{Fraction, zero_ℚ}
use Rattle.fx_model.specs.declared.ExprId.{ExprId}
use Rattle.fx_model.specs.Expression.{Assignment, IsOrdered, value}
use Rattle.expr_dag.specs.Extended.{ValuesStay}
use Rattle.script_nodes.specs.Literals.{literal_of}
use Rattle.script_nodes.specs.Known.{Name, Known, PlacedNode, entry_of, put, variable_put}
use Rattle.script_nodes.specs.Known.{variables_with, name_put, named as name_placed}
use Rattle.script_nodes.specs.Values.{atom_value}
use Rattle.fixprog.specs.Grammar.{Operand, named, given}
use Rattle.fixprog.specs.Execution.{Values, value_or_zero, operand_value}
use Rattle.program_truths.proofs.Trees.{operand_atom}
use Rattle.program_truths.proofs.Given.{Gives, literal_gives, variable_gives}
use Rattle.program_truths.proofs.Variables.{variable_value}

-- these variables are the first of those
abbrev pub IsFront : List Name → List Name → Type 0
IsFront names vars = (more : List Name) × (vars ≡ names ++ more)

-- the name has a node of this value, or is a variable that has it
abbrev pub NameIs : Assignment → (Name → Fraction) → Known → Name → Fraction → Type 0
NameIs a f k t v = ((x : ExprId) × (entry_of k.values t ≡ Some x) × (x.0 < length k.nodes)
    × (value k.nodes a x ≡ Some v)) ⊎ ((entry_of k.values t ≡ None) × (f t ≡ v))

abbrev pub Knows : Assignment → (Name → Fraction) → Values → Known → Type 0
Knows a f vs k = (t : Name) (v : Fraction) → entry_of vs t ≡ Some v → NameIs a f k t v

-- What is known stays so.
pub knows_behind : (a : Assignment) (f : Name → Fraction) (vs : Values) (k : Known) (q : PlacedNode)
    (w : Option Fraction) → Gives a k q w → Knows a f vs k → Knows a f vs q.0
knows_behind a f vs k q w g h t v e = elim (h t v e) [
  | inl n ↦ inl (
    n.0,
    ap (λ l. entry_of l t) g.values ∙ n.1,
    (let x = n.2 in let y = g.longer in omega (arith, x, y)),
    g.kept n.0 n.2 ∙ n.3,
  )
  | inr n ↦ inr (ap (λ l. entry_of l t) g.values ∙ n.0, n.1)
]

module _ (stay : ValuesStay) (f : Name → Fraction) (vars : List Name) where
  there : (k : Known) (x : ExprId) (v : Fraction) → IsOrdered k.nodes → x.0 < length k.nodes
      → value k.nodes (map f vars) x ≡ Some v → Gives (map f vars) k (k, x) (Some v)
  there k x v o l e = record {
    ordered = o;
    longer = omega arith;
    kept = λ y m. refl;
    within =
        l;
    is = e;
    values = refl;
    more = [];
    variables = sym (append-nil k.variables);
  }

  pub put_variables : (k : Known) (t : Name) → (variable_put k t).0.variables
      ≡ variables_with k.variables t
  unfolding put variable_put
  put_variables k t = refl

  variable_is : (k : Known) (t : Name) → IsFront (variable_put k t).0.variables vars
      → slice_index_or (map f vars) (position_or_len (bytes_eq t) k.variables) zero_ℚ ≡ f t
  variable_is k t h =
      ap (λ l. slice_index_or (map f l) (position_or_len (bytes_eq t) k.variables) zero_ℚ) (h.1
      ∙ ap (λ l. l ++ h.0) (put_variables k t)) ∙ variable_value f t h.0 k.variables

  retold : (k : Known) (q : PlacedNode) (v w : Option Fraction) → v ≡ w → Gives (map f vars) k q v
      → Gives (map f vars) k q w
  retold k q v w e g = subst (Gives (map f vars) k q) e g

  by_entry : (k : Known) (t : Name) (v : Fraction) → IsOrdered k.nodes
      → NameIs (map f vars) f k t v → IsFront (name_put k t (entry_of k.values t)).0.variables vars
      → Gives (map f vars) k (name_put k t (entry_of k.values t)) (Some v)
  by_entry k t v o n h = elim n [
    | inl m ↦ subst (λ e. Gives (map f vars) k (name_put k t e) (Some v)) (sym m.1)
        (there k m.0 v o m.2 m.3)
    | inr m ↦
        let front : IsFront (variable_put k t).0.variables vars =
        subst (λ e. IsFront (name_put k t e).0.variables vars) m.0 h in
        subst (λ e. Gives (map f vars) k (name_put k t e) (Some v)) (sym m.0)
        (retold k (variable_put k t) _ (Some v) (ap Some (variable_is k t front ∙ m.1))
        (variable_gives stay (map f vars) k t o))
  ]

  pub name_gives : (k : Known) (t : Name) (v : Fraction) → IsOrdered k.nodes
      → NameIs (map f vars) f k t v → IsFront (name_placed k t).0.variables vars
      → Gives (map f vars) k (name_placed k t) (Some v)
  unfolding name_placed
  name_gives k t v o n h = by_entry k t v o n h

  -- the operand has a value in the run
  abbrev pub HasValue : Values → Operand → Type 0
  HasValue vs (named t) = (v : Fraction) × (entry_of vs t ≡ Some v)
  HasValue vs (given t) = Unit {0}

  pub operand_gives : (vs : Values) (k : Known) (x : Operand) → IsOrdered k.nodes
      → Knows (map f vars) f vs k → HasValue vs x
      → IsFront (atom_value None (operand_atom x) k).0.variables vars
      → Gives (map f vars) k (atom_value None (operand_atom x) k) (Some (operand_value vs x))
  operand_gives vs k (named t) o h e front =
      retold k (name_placed k t) (Some e.0) _ (ap (λ y. Some (value_or_zero y)) (sym e.1))
      (name_gives k t e.0 o (h t e.0 e.1) front)
  operand_gives vs k (given t) o h e front = literal_gives stay (map f vars) k (literal_of t) o
