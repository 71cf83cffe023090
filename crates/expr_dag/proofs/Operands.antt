-- The value of a node and those of its operands.
use Rattle.std.specs.Prelude.{◌≡◌, ◌≢◌, Bool, true, false, List, Option, Some, None, if◌then◌else◌}
use Rattle.std.specs.Prelude.{refl}
use Rattle.std.proofs.Common.{sym, ap, ◌∙◌}
use Rattle.fx_model.specs.Fraction.{Fraction, ◌/ℚ◌, zero_ℚ, is_zero_ℚ, is_zero_out}
use Rattle.fx_model.proofs.Fraction.{is_zero_not}
use Rattle.fx_model.specs.Expression.{Assignment, IsOrdered, value, node_value, lift₁, lift₂}
use Rattle.fx_model.specs.Expression.{quotient}
use Rattle.fx_model.specs.declared.ExprId.{ExprId}
use Rattle.fx_model.specs.declared.Node.{Node}
use Rattle.expr_dag.specs.Shapes.{is_at}
use Rattle.expr_dag.proofs.Shapes.{is_at_out, node_at-value}

same_some : (x y : Fraction) → Some x ≡ Some y → x ≡ y
same_some x y e = cc

pub at_value : (nodes : List Node) (a : Assignment) (e : ExprId) (n : Node) → IsOrdered nodes
    → is_at nodes e n ≡ true → value nodes a e ≡ node_value a (value nodes a) n
at_value nodes a e n o t = node_at-value nodes a e n o (is_at_out nodes e n t)

-- where an operation has a value, both operands have
pub lifted_out : (g : Fraction → Fraction → Fraction) (u v : Option Fraction) (z : Fraction)
    → lift₂ g u v ≡ Some z → (x : Fraction) × (y : Fraction) × (u ≡ Some x)
    × (v ≡ Some y) × (z ≡ g x y)
lifted_out g None v z e = cc
lifted_out g (Some x) None z e = cc
lifted_out g (Some x) (Some y) z e = (x, y, refl, refl, same_some z (g x y) (sym e))

-- the value of an operation
pub lifted_in : (g : Fraction → Fraction → Fraction) (u v : Option Fraction) (x y : Fraction)
    → u ≡ Some x → v ≡ Some y → lift₂ g u v ≡ Some (g x y)
lifted_in g u v x y p q = ap (λ o. lift₂ g o v) p ∙ ap (lift₂ g (Some x)) q

pub lifted_one : (g : Fraction → Fraction) (u : Option Fraction) (x : Fraction) → u ≡ Some x
    → lift₁ g u ≡ Some (g x)
lifted_one g u x p = ap (lift₁ g) p

-- of a quotient, by a value other than 0
pub quotient_in : (u v : Option Fraction) (x y : Fraction) → u ≡ Some x → v ≡ Some y → y ≢ zero_ℚ
    → quotient u v ≡ Some (x /ℚ y)
quotient_in u v x y p q n =
    ap (λ o. quotient o v) p ∙ ap (quotient (Some x)) q ∙ by_test (is_zero_ℚ y) refl
  where
    by_test : (b : Bool) → is_zero_ℚ y ≡ b → (if b then None else Some (x /ℚ y)) ≡ Some (x /ℚ y)
    by_test true e = absurd (n (is_zero_out y e))
    by_test false e = refl

-- a quotient that has a value has a divisor other than 0
pub quotient_out : (u v : Option Fraction) (x y z : Fraction) → u ≡ Some x → v ≡ Some y
    → quotient u v ≡ Some z → (y ≢ zero_ℚ) × (z ≡ x /ℚ y)
quotient_out u v x y z p q e =
    by_test (is_zero_ℚ y) refl (sym (ap (λ o. quotient o v) p ∙ ap (quotient (Some x)) q) ∙ e)
  where
    by_test : (b : Bool) → is_zero_ℚ y ≡ b → (if b then None else Some (x /ℚ y)) ≡ Some z
        → (y ≢ zero_ℚ) × (z ≡ x /ℚ y)
    by_test true t k = cc
    by_test false t k = (is_zero_not y t, same_some z (x /ℚ y) (sym k))
