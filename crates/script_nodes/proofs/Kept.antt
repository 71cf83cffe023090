-- Nodes never go where one is put, and entries keep standing for nodes that there are.
use Rattle.std.proofs.Common.{ℕ, ◌<◌, ◌≤◌, List, [], ◌∷◌, length, Option, Some, None, IfSome, Bool}
use Rattle.std.proofs.Common.{true, false, if◌then◌else◌, arith, length-append, le_refl}
use Rattle.std.specs.Str.{bytes_eq}
use Rattle.fx_model.specs.declared.ExprId.{ExprId}
use Rattle.fx_model.specs.declared.Node.{Node}
use Rattle.expr_dag.specs.Nodes.{place_of, placed}
use Rattle.script_nodes.specs.Known.{Name, Known, put, entry_of, with_entry}
use Rattle.script_nodes.specs.Sound.{ValuesFit}
use Rattle.script_nodes.specs.Growth.{node_count}

pub placed_grows : (nodes : List Node) (n : Node) (o : Option ExprId)
    → length nodes ≤ length (placed nodes n o).0
placed_grows nodes n (Some x) = le_refl (length nodes)
placed_grows nodes n None = omega (arith, length-append nodes (n ∷ []))

pub put_grows : (k : Known) (n : Node) → node_count k ≤ node_count (put k n).0
unfolding put
put_grows k n = placed_grows k.nodes n (place_of k.nodes n)

-- ---- entries
pub values_fit_more : (n m : ℕ) (es : List (Name × ExprId)) → n ≤ m
    → ValuesFit n es → ValuesFit m es
values_fit_more n m [] h f = tt
values_fit_more n m (e ∷ es) h f = (let a = f.0 in omega arith, values_fit_more n m es h f.1)

pub value_among : (n : ℕ) (es : List (Name × ExprId)) (text : Name) → ValuesFit n es
    → IfSome (entry_of es text) (λ x. x.0 < n)
value_among n [] text f = tt
value_among n (e ∷ es) text f = by_test (bytes_eq text e.0) f.0 (value_among n es text f.1)
  where
    by_test : (b : Bool) → e.1.0 < n → IfSome (entry_of es text) (λ x. x.0 < n)
        → IfSome (if b then Some e.1 else entry_of es text) (λ x. x.0 < n)
    by_test true h more = h
    by_test false h more = more

pub value_joins : (n : ℕ) (es : List (Name × ExprId)) (text : Name) (x : ExprId) → x.0 < n
    → ValuesFit n es → ValuesFit n (with_entry es text x)
value_joins n [] text x h f = (h, tt)
value_joins n (e ∷ es) text x h f = by_test (bytes_eq text e.0) (value_joins n es text x h f.1)
  where
    by_test : (b : Bool) → ValuesFit n (with_entry es text x)
        → ValuesFit n (if b then (e.0, x) ∷ es else e ∷ with_entry es text x)
    by_test true more = (h, f.1)
    by_test false more = (f.0, more)
