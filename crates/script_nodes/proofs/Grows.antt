-- Nodes never go.
use Rattle.std.proofs.Common.{◌≡◌, ◌<◌, ◌≤◌, List, [], ◌∷◌, Option, Some, None, true, refl, ap}
use Rattle.std.proofs.Common.{arith, le_refl, le_trans, ◌∙◌}
use Rattle.std.specs.Option.{IsSomeAnd}
use Rattle.fx_model.specs.declared.Rounding.{Rounding}
use Rattle.fx_model.specs.declared.ExprId.{ExprId}
use Rattle.fx_model.specs.declared.Node.{Node}
use Rattle.fx_model.specs.declared.Node.TheVariants.{Neg, Add, Mul, Div, Abs, Round}
use Rattle.script_nodes.specs.declared.waits.Waits.{Waits}
use Rattle.script_nodes.specs.declared.waits.Waits.TheVariants as wait
use Rattle.script_nodes.specs.Known.{Name, Known, PlacedNode, put, variable_put, name_put, named}
use Rattle.script_nodes.specs.Known.{entry_of}
use Rattle.script_nodes.specs.Values.{then_rounded, one_operand, fused_sum}
use Rattle.script_nodes.specs.Growth.{node_count, NamesGrow}
use Rattle.script_nodes.proofs.Kept.{placed_grows, put_grows}
use Rattle.script_nodes.specs.Waits.{Reading, is_minus_first, Complete, factor_done, closing}
use Rattle.script_nodes.specs.Waits.{closed, parting, parted, then_operation}

pub rounded_grows : (q : Option Rounding) (p : PlacedNode)
    → node_count p.0 ≤ node_count (then_rounded q p).0
rounded_grows None p = le_refl (node_count p.0)
rounded_grows (Some r) p = put_grows p.0 (Round r p.1)

pub two_grow : (q : Option Rounding) (k : Known) (n : Node)
    → node_count k ≤ node_count (then_rounded q (put k n)).0
two_grow q k n = le_trans (put_grows k n) (rounded_grows q (put k n))

variable_grows : (k : Known) (text : Name) → node_count k ≤ node_count (variable_put k text).0
unfolding put variable_put
variable_grows k text = placed_grows k.nodes _ _

name_grows : (k : Known) (text : Name) (o : Option ExprId)
    → node_count k ≤ node_count (name_put k text o).0
name_grows k text (Some x) = le_refl (node_count k)
name_grows k text None = variable_grows k text

pub named_grows : NamesGrow
unfolding named
named_grows k text = name_grows k text (entry_of k.values text)

module _ (q : Option Rounding) where
  pub factor_grows : (ws : List Waits) (p : PlacedNode)
      → node_count p.0 ≤ node_count (factor_done q ws p).known
  factor_grows [] p = le_refl (node_count p.0)
  factor_grows (wait.Minus ∷ ws) p =
      le_trans (put_grows p.0 (Neg p.1)) (factor_grows ws (one_operand Neg p))
  factor_grows (wait.Product u ∷ ws) p = two_grow q p.0 (Mul u p.1)
  factor_grows (wait.Quotient u ∷ ws) p = two_grow q p.0 (Div u p.1)
  factor_grows (w ∷ ws) p = le_refl (node_count p.0)

  -- a list that is full behind a minus sign
  minus_grows : (ws : List Waits) (k : Known) (x : ExprId) → is_minus_first ws ≡ true
      → node_count (put k (Neg x)).0 ≤ node_count (factor_done q ws (k, x)).known
  minus_grows [] k x h = cc
  minus_grows (wait.Minus ∷ ws) k x h = factor_grows ws (put k (Neg x))
  minus_grows (w ∷ ws) k x h = cc

  pub minus_past : (ws : List Waits) (k j : Known) (x : ExprId) (whole : Reading)
      → whole ≡ factor_done q ws (k, x) → is_minus_first ws ≡ true → j ≡ k
      → 1024 < node_count (put j (Neg x)).0 → 1024 < node_count whole.known
  minus_past ws k j x whole e h i f = let g = minus_grows ws k x h in omega
      (arith, ap (λ (r : Reading). node_count r.known) e, ap (λ j. node_count (put j (Neg x)).0) i)

  fused_grows : (a b : ExprId) (c : PlacedNode) → node_count c.0 ≤ node_count (fused_sum q a b c).0
  fused_grows a b c = le_trans (put_grows c.0 (Mul a b))
      (two_grow q (put c.0 (Mul a b)).0 (Add (put c.0 (Mul a b)).1 c.1))

  pub product_past : (a b : ExprId) (c : PlacedNode) → 1024 < node_count (put c.0 (Mul a b)).0
      → 1024 < node_count (fused_sum q a b c).0
  product_past a b c h =
      let g = two_grow q (put c.0 (Mul a b)).0 (Add (put c.0 (Mul a b)).1 c.1) in omega arith

  pub closing_grows : (p : PlacedNode) (ws : List Waits)
      → node_count p.0 ≤ node_count (closing q p ws).known
  closing_grows p [] = le_refl (node_count p.0)
  closing_grows p (wait.Paren ∷ ws) = factor_grows ws p
  closing_grows p (wait.Bar ∷ ws) =
      le_trans (put_grows p.0 (Abs p.1)) (factor_grows ws (one_operand Abs p))
  closing_grows p (wait.Call r ∷ ws) =
      le_trans (put_grows p.0 (Round r p.1)) (factor_grows ws (one_operand (Round r) p))
  closing_grows p (wait.FmaWithTwo a b ∷ ws) =
      le_trans (fused_grows a b p) (factor_grows ws (fused_sum q a b p))
  closing_grows p (w ∷ ws) = le_refl (node_count p.0)

  -- a list that is full at an operation, behind what waits
  enclosed_past : (p x : PlacedNode) (ws later : List Waits)
      → closing q p ws ≡ factor_done q later x → 1024 < node_count x.0
      → 1024 < node_count (closing q p ws).known
  enclosed_past p x ws later e h = let g = factor_grows later x in
      omega (arith, ap (λ (r : Reading). node_count r.known) e)

  module _ (p : PlacedNode) (ws later : List Waits) (w : Waits) (e : ws ≡ w ∷ later) where
    first_is : (v : Waits) → w ≡ v → closing q p ws ≡ closing q p (v ∷ later)
    first_is v h = ap (closing q p) (e ∙ ap (λ w. w ∷ later) h)

    pub bar_past : w ≡ wait.Bar → 1024 < node_count (put p.0 (Abs p.1)).0
        → 1024 < node_count (closing q p ws).known
    bar_past h f = enclosed_past p (put p.0 (Abs p.1)) ws later (first_is wait.Bar h) f

    pub call_past : (r : Rounding) → w ≡ wait.Call r → 1024 < node_count (put p.0 (Round r p.1)).0
        → 1024 < node_count (closing q p ws).known
    call_past r h f = enclosed_past p (put p.0 (Round r p.1)) ws later (first_is (wait.Call r) h) f

    pub fma_past : (a b : ExprId) → w ≡ wait.FmaWithTwo a b
        → 1024 < node_count (fused_sum q a b p).0 → 1024 < node_count (closing q p ws).known
    fma_past a b h f =
        enclosed_past p (fused_sum q a b p) ws later (first_is (wait.FmaWithTwo a b) h) f

  pub closed_past : (r : Reading) (o : Option Complete) → IsSomeAnd o (λ c. 1024 < node_count c.0.0)
      → 1024 < node_count (closed q r o).known
  closed_past r None h = absurd h
  closed_past r (Some c) h = let g = closing_grows c.0 c.1 in omega arith

pub parting_count : (p : PlacedNode) (ws : List Waits)
    → node_count (parting p ws).known ≡ node_count p.0
parting_count p [] = refl
parting_count p (wait.Fma ∷ ws) = refl
parting_count p (wait.FmaWithOne a ∷ ws) = refl
parting_count p (w ∷ ws) = refl

pub parted_past : (r : Reading) (o : Option Complete) → IsSomeAnd o (λ c. 1024 < node_count c.0.0)
    → 1024 < node_count (parted r o).known
parted_past r None h = absurd h
parted_past r (Some c) h = let g = parting_count c.0 c.1 in omega arith

pub operation_past : (w : ExprId → Waits) (r : Reading) (o : Option Complete)
    → IsSomeAnd o (λ c. 1024 < node_count c.0.0) → 1024 < node_count (then_operation w r o).known
operation_past w r None h = absurd h
operation_past w r (Some c) h = h
