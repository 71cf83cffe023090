-- Comparing numbers of expressions.
use Rattle.std.specs.Prelude.{◌≡◌, ◌≢◌, ◌==◌, Bool, true, false, List, refl}
use Rattle.std.proofs.Common.{eqb-true, eq-eqb, sym, ◌∙◌, ap, subst, true≢false}
use Rattle.fx_model.specs.declared.ExprId.{ExprId}
use Rattle.fx_model.specs.declared.Node.{Node}
use Rattle.expr_dag.specs.Nodes.{IsAt}

-- expressions with one number are one
pub id_of : (x y : ExprId) → x.0 ≡ y.0 → x ≡ y
id_of x y e = (λ i. record { 0 = e i })

pub same_ids : (x y : ExprId) → (x.0 == y.0) ≡ true → x ≡ y
same_ids x y h = id_of x y (eqb-true x.0 y.0 h)

pub self_same : (x : ExprId) → (x.0 == x.0) ≡ true
self_same x = eq-eqb x.0 x.0 refl

pub apart_ids : (x y : ExprId) → (x.0 == y.0) ≡ false → x ≢ y
apart_ids x y h e = true≢false (sym (eq-eqb x.0 y.0 (ap (λ (z : ExprId). z.0) e)) ∙ h)

pub same_at : (nodes : List Node) (x y : ExprId) (n : Node) → x ≡ y
    → IsAt nodes x n → IsAt nodes y n
same_at nodes x y n e = subst (λ z. IsAt nodes z n) e

pub not_same : (x y : ExprId) → x ≢ y → (b : Bool) → (x.0 == y.0) ≡ b → b ≡ false
not_same x y ne true e = absurd (ne (same_ids x y e))
not_same x y ne false e = refl
