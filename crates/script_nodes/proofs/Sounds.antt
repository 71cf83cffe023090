-- What every reading keeps, when a node joins.
use Rattle.std.proofs.Common.{◌≡◌, ◌⊎◌, ℕ, zero, suc, ◌<◌, ◌≤◌, List, [], ◌∷◌, ◌++◌, length}
use Rattle.std.proofs.Common.{slice_get, Some, Result, Ok, Err, IfOk, OnErr, sym, ap, subst, ◌∙◌}
use Rattle.std.proofs.Common.{arith, inl, inr, ⊎_elim, length-append, le_trans}
use Rattle.fx_model.specs.declared.ExprId.{ExprId}
use Rattle.fx_model.specs.declared.Node.{Node}
use Rattle.fx_model.specs.declared.Node.TheVariants.{Var}
use Rattle.expr_dag.specs.declared.dag.DagFault.{DagFault}
use Rattle.expr_dag.specs.Nodes.{IsAt, IsPlaced, with_node}
use Rattle.script_nodes.specs.declared.waits.Waits.{Waits}
use Rattle.script_nodes.specs.declared.waits.Waits.TheVariants as wait
use Rattle.script_nodes.specs.Known.{Known, PlacedNode, put}
use Rattle.script_nodes.specs.Waits.{Reading}
use Rattle.script_nodes.specs.Sound.{Fits, AllFit, IsSound, IsMade}
use Rattle.script_nodes.proofs.Kept.{values_fit_more}

-- ---- below a greater number

fits_more : (n m : ℕ) (w : Waits) → n ≤ m → Fits n w → Fits m w
fits_more n m (wait.Term x) h f = omega arith
fits_more n m (wait.Sum x) h f = omega arith
fits_more n m (wait.Difference x) h f = omega arith
fits_more n m (wait.Product x) h f = omega arith
fits_more n m (wait.Quotient x) h f = omega arith
fits_more n m wait.Minus h f = tt
fits_more n m wait.Paren h f = tt
fits_more n m wait.Bar h f = tt
fits_more n m (wait.Call r) h f = f
fits_more n m wait.Fma h f = tt
fits_more n m (wait.FmaWithOne x) h f = omega arith
fits_more n m (wait.FmaWithTwo x y) h f = (let a = f.0 in omega arith, let b = f.1 in omega arith)
fits_more n m (wait.Operator r) h f = f

pub all_fit_more : (n m : ℕ) (ws : List Waits) → n ≤ m → AllFit n ws → AllFit m ws
all_fit_more n m [] h f = tt
all_fit_more n m (w ∷ ws) h f = (fits_more n m w h f.0, all_fit_more n m ws h f.1)

-- ---- one node more

-- a node of the longer list is one of the list, or the last
pub ends_with : (nodes : List Node) (n : Node) (i : ℕ) (m : Node)
    → slice_get (nodes ++ n ∷ []) i ≡ Some m → (slice_get nodes i ≡ Some m) ⊎ (n ≡ m)
ends_with [] n zero m h = inr (cc)
ends_with [] n (suc i) m h = absurd (cc)
ends_with (y ∷ ys) n zero m h = inl h
ends_with (y ∷ ys) n (suc i) m h = ends_with ys n i m h

abbrev pub Joins : List Node → Node → List Node → Type 0
Joins old n new = (new ≡ old) ⊎ (new ≡ old ++ n ∷ [])

joins_by : (r : Result ExprId DagFault) (old new : List Node) (n : Node)
    → IfOk r (IsPlaced old n new) → OnErr r (new ≡ old) → Joins old n new
joins_by (Ok x) old new n p e = ⊎_elim (λ f. inl f.same) (λ l. inr l.list) p.how
joins_by (Err f) old new n p e = inl e

pub joins_longer : (old new : List Node) (n : Node) → Joins old n new → length old ≤ length new
joins_longer old new n (inl e) = omega (arith, ap length e)
joins_longer old new n (inr e) = omega (arith, ap length e, length-append old (n ∷ []))

abbrev pub with_nodes : Reading → List Node → Reading
with_nodes r nodes = record {
  known = record {
    nodes = nodes;
    variables = r.known.variables;
    values = r.known.values;
    operators = r.known.operators;
  };
  waits = r.waits;
}

made_numbered : (old new : List Node) (n : Node) (variables : ℕ) → IsMade n → Joins old n new
    → ((x : ExprId) (k : ℕ) → IsAt old x (Var k) → k < variables) → (x : ExprId) (k : ℕ)
    → IsAt new x (Var k) → k < variables
made_numbered old new n variables m (inl e) h x k at =
    h x k (ap (λ l. slice_get l x.0) (sym e) ∙ at)
made_numbered old new n variables m (inr e) h x k at =
    ⊎_elim (h x k) (λ is. absurd (subst IsMade is m))
    (ends_with old n x.0 (Var k) (ap (λ l. slice_get l x.0) (sym e) ∙ at))

joins_sound : (r : Reading) (n : Node) (new : List Node) → IsMade n → Joins r.known.nodes n new
    → IsSound r → IsSound (with_nodes r new)
joins_sound r n new m j s =
    let h : length r.known.nodes ≤ length new = joins_longer r.known.nodes new n j in
    record {
      waits = all_fit_more _ _ r.waits h s.waits;
      values = values_fit_more _ _ r.known.values h s.values;
      operators = s.operators;
      variables = le_trans s.variables h;
      numbered = made_numbered r.known.nodes new n (length r.known.variables) m j s.numbered;
    }

pub added_sound : (r : Reading) (n : Node) (new : List Node) (answer : Result ExprId DagFault)
    → IsMade n → IfOk answer (IsPlaced r.known.nodes n new) → OnErr answer (new ≡ r.known.nodes)
    → IsSound r → IsSound (with_nodes r new)
added_sound r n new answer m p e s =
    joins_sound r n new m (joins_by answer r.known.nodes new n p e) s

-- and the node's number
pub added_put : (k : Known)
    (n : Node) (new : List Node) (known : Known) (answer : Result ExprId DagFault) → k ≡ known
    → IfOk answer (λ x. (new, x) ≡ with_node k.nodes n) → IfOk answer (λ x. ◌≡◌ {A = PlacedNode}
    (record { nodes = new; variables = k.variables; values = k.values; operators = k.operators }, x)
    (put known n))
unfolding put
added_put k n new known (Ok x) e h = ap (λ (p : List Node × ExprId). (
  record { nodes = p.0; variables = k.variables; values = k.values; operators = k.operators },
  p.1,
)) h ∙ ap (λ (j : Known). (
  record {
    nodes = (with_node j.nodes n).0;
    variables = j.variables;
    values = j.values;
    operators = j.operators;
  },
  (with_node j.nodes n).1,
)) e
added_put k n new known (Err f) e h = h
