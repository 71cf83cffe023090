-- What holds of the value of a node, from what holds of those of its parts.
use Rattle.std.specs.Prelude.{◌≡◌, ◌≢◌, Bool, true, false, List, Option, Some, None, if◌then◌else◌}
use Rattle.std.specs.Prelude.{refl}
use Rattle.std.specs.Option.{IsSomeAnd}
use Rattle.std.proofs.Common.{sym, subst}
use Rattle.fx_model.specs.Fraction.{Fraction, ◌/ℚ◌, zero_ℚ, is_zero_ℚ, is_zero_out}
use Rattle.fx_model.specs.Expression.{Assignment, IsOrdered, value, node_value, lift₁, lift₂}
use Rattle.fx_model.specs.Expression.{quotient}
use Rattle.fx_model.specs.declared.ExprId.{ExprId}
use Rattle.fx_model.specs.declared.Node.{Node}
use Rattle.expr_dag.specs.Shapes.{is_at}
use Rattle.expr_dag.proofs.Shapes.{is_at_out, node_at-value}

pub lifted₁ : (f : Fraction → Fraction) (u : Option Fraction) (P Q : Fraction → Type 0)
    → ((x : Fraction) → P x → Q (f x)) → IsSomeAnd u P → IsSomeAnd (lift₁ f u) Q
lifted₁ f None P Q h p = p
lifted₁ f (Some x) P Q h p = h x p

pub lifted₂ : (f : Fraction → Fraction → Fraction) (u v : Option Fraction)
    (P Q R : Fraction → Type 0) → ((x y : Fraction) → P x → Q y → R (f x y)) → IsSomeAnd u P
    → IsSomeAnd v Q → IsSomeAnd (lift₂ f u v) R
lifted₂ f None v P Q R h p q = absurd p
lifted₂ f (Some x) None P Q R h p q = absurd q
lifted₂ f (Some x) (Some y) P Q R h p q = h x y p q

-- of one value with itself
pub lifted_twice : (f : Fraction → Fraction → Fraction) (u : Option Fraction)
    (P R : Fraction → Type 0) → ((x : Fraction) → P x → R (f x x)) → IsSomeAnd u P
    → IsSomeAnd (lift₂ f u u) R
lifted_twice f None P R h p = absurd p
lifted_twice f (Some x) P R h p = h x p

-- a quotient by a value other than 0
pub lifted_quotient : (u v : Option Fraction) (P Q R : Fraction → Type 0)
    → ((y : Fraction) → Q y → y ≢ zero_ℚ) → ((x y : Fraction) → P x → Q y → R (x /ℚ y))
    → IsSomeAnd u P → IsSomeAnd v Q → IsSomeAnd (quotient u v) R
lifted_quotient u None P Q R n h p q = absurd q
lifted_quotient None (Some y) P Q R n h p q = absurd p
lifted_quotient (Some x) (Some y) P Q R n h p q = at_test (is_zero_ℚ y) refl
  where
    at_test : (b : Bool) → is_zero_ℚ y ≡ b → IsSomeAnd (if b then None else Some (x /ℚ y)) R
    at_test true e = absurd (n y q (is_zero_out y e))
    at_test false e = h x y p q

-- the value of an expression that is a node
module _ (nodes : List Node) (a : Assignment) (o : IsOrdered nodes) where
  pub at_node : (e : ExprId) (n : Node) (P : Fraction → Type 0) → is_at nodes e n ≡ true
      → IsSomeAnd (node_value a (value nodes a) n) P → IsSomeAnd (value nodes a e) P
  at_node e n P t h =
      subst (λ v. IsSomeAnd v P) (sym (node_at-value nodes a e n o (is_at_out nodes e n t))) h
