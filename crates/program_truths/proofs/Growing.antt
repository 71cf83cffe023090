-- The names of variables only join.
use Rattle.std.proofs.Common.{◌≡◌, List, [], ◌∷◌, ◌++◌, Option, Some, None, Bool, true, false, refl}
use Rattle.std.proofs.Common.{sym, ap, ◌∙◌, append_assoc, append-nil, codes, if◌then◌else◌}
use Rattle.std.specs.List.{list_any}
use Rattle.std.specs.Str.{bytes_eq}
use Rattle.std.specs.Str.Parse.{digits_value}
use Rattle.std.specs.Fmt.{decimal}
use Rattle.fx_model.specs.declared.ExprId.{ExprId}
use Rattle.fx_model.specs.declared.Node.{Node}
use Rattle.fx_model.specs.declared.Node.TheVariants.{Lit}
use Rattle.script_nodes.specs.Literals.{literal_of}
use Rattle.script_nodes.specs.Known.{Name, Known, PlacedNode, put, variable_put, name_put, entry_of}
use Rattle.script_nodes.specs.Known.{named as name_placed}
use Rattle.script_nodes.specs.Definitions.{with_value}
use Rattle.script_nodes.specs.Values.{atom_value, expr_value}
use Rattle.fixprog.specs.Grammar.{Operand, named, given, Operation, copy, negation, sum, difference}
use Rattle.fixprog.specs.Grammar.{product, shift_right, shift_left, Step}
use Rattle.program_truths.proofs.Trees.{operand_atom, operation_expr, step_expr}
use Rattle.program_truths.proofs.Knowing.{IsFront}

pub record Grows (k j : Known) : Type 0 where
  pub more : List Name
  pub all : j.variables ≡ k.variables ++ more

pub front_of : {k j : Known} {vars : List Name} → Grows k j → IsFront j.variables vars
    → IsFront k.variables vars
front_of {k} {j} g h = (
  g.more ++ h.0,
  h.1 ∙ ap (λ l. l ++ h.0) g.all
      ∙ append_assoc k.variables g.more h.0,
)

pub grows_still : (k : Known) → Grows k k
grows_still k = record { more = []; all = sym (append-nil k.variables) }

pub grows_both : {a b c : Known} → Grows a b → Grows b c → Grows a c
grows_both {a} g h = record {
  more = g.more ++ h.more;
  all = h.all ∙ ap (λ l. l ++ h.more) g.all ∙ append_assoc a.variables g.more h.more;
}

grows_put : (k : Known) (n : Node) → Grows k (put k n).0
unfolding put
grows_put k n = record { more = []; all = sym (append-nil k.variables) }

one_more : (k j : Known) (names : List Name) (t : Name) (b : Bool) → k.variables ≡ names
    → j.variables ≡ (if b then names else names ++ (t ∷ [])) → Grows k j
one_more k j names t true e h = record { more = []; all = h ∙ sym e ∙ sym (append-nil k.variables) }
one_more k j names t false e h = record {
  more = t ∷ [];
  all = h ∙ ap (λ l. l ++ (t ∷ [])) (sym e);
}

variable_grows : (k : Known) (t : Name) → Grows k (variable_put k t).0
unfolding variable_put put
variable_grows k t = one_more k (variable_put k t).0 k.variables t
    (list_any (bytes_eq t) k.variables) refl refl

by_entry : (k : Known) (t : Name) (e : Option ExprId) → Grows k (name_put k t e).0
by_entry k t (Some x) = grows_still k
by_entry k t None = variable_grows k t

pub grows_named : (k : Known) (t : Name) → Grows k (name_placed k t).0
unfolding name_placed
grows_named k t = by_entry k t (entry_of k.values t)

-- ---- steps

operand_grows : (a : Operand) (k : Known) → Grows k (atom_value None (operand_atom a) k).0
operand_grows (named t) k = grows_named k t
operand_grows (given t) k = grows_put k (Lit (literal_of t))

two_grow : (a b : Operand) (k : Known) (n : Node)
    → Grows k (put (atom_value None (operand_atom b) (atom_value None (operand_atom a) k).0).0 n).0
two_grow a b k n =
    let p = atom_value None (operand_atom a) k in
    let q = atom_value None (operand_atom b) p.0 in
    grows_both (operand_grows a k) (grows_both (operand_grows b p.0) (grows_put q.0 n))

operation_grows : (o : Operation) (k : Known) → Grows k (expr_value None (operation_expr o) k).0
operation_grows (copy a) k = operand_grows a k
operation_grows (negation a) k =
    grows_both (operand_grows a k) (grows_put (atom_value None (operand_atom a) k).0 _)
operation_grows (sum a b) k = two_grow a b k _
operation_grows (difference a b) k = two_grow a b k _
operation_grows (product a b) k = two_grow a b k _
operation_grows (shift_right a d) k =
    two_grow a (given (codes "1b-" ++ decimal (digits_value 10 d.text))) k _
operation_grows (shift_left a d) k =
    two_grow a (given (codes "1b" ++ decimal (digits_value 10 d.text))) k _

step_grows : (x : Step) (k : Known) → Grows k (expr_value None (step_expr x) k).0
step_grows x k = grows_both (operation_grows x.operation k)
    (grows_put (expr_value None (operation_expr x.operation) k).0 _)

-- what is known behind the definitions of steps
abbrev pub steps_known : List Step → Known → Known
steps_known [] k = k
steps_known (x ∷ xs) k = steps_known xs (with_value x.name (expr_value None (step_expr x) k))

named_so : (n : Name) (k : Known) (q : PlacedNode) → Grows k q.0 → Grows k (with_value n q)
named_so n k q g = record { more = g.more; all = g.all }

pub steps_grow : (xs : List Step) (k : Known) → Grows k (steps_known xs k)
steps_grow [] k = grows_still k
steps_grow (x ∷ xs) k =
    let q = expr_value None (step_expr x) k in
    grows_both (named_so x.name k q (step_grows x k)) (steps_grow xs (with_value x.name q))
