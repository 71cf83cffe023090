-- The list of an expression has exactly the instances of its operation, each once.
use Rattle.std.specs.Prelude.{◌≡◌, List, [], ◌∷◌, ◌++◌, refl}
use Rattle.std.specs.List.{AllByRecursion}
use Rattle.std.proofs.Common.{inl, inr, sym, subst}
use Rattle.fx_model.specs.declared.ExprId.{ExprId}
use Rattle.fx_model.specs.declared.Node.{Node}
use Rattle.fx_model.specs.declared.Node.TheVariants.{Var, Lit, Neg, Add, Sub, Mul, Div, Abs, Round}
use Rattle.expr_dag.specs.Nodes.{IsAt}
use Rattle.expr_dag.proofs.Nodes.{one_node}
use Rattle.pair_closure.specs.Reached.{Has, IsListOf, IsEachOnce}
use Rattle.pair_closure.specs.Closure.{is_same}
use Rattle.pair_closure.proofs.Ids.{same_ids, self_same}
use Rattle.pair_closure.proofs.Members.{no_member, has_all, has_right, has_either, once_nil}
use Rattle.facts.specs.declared.fact.Slot.TheVariants as slot
use Rattle.facts.specs.declared.instance.Instance.{Instance}
use Rattle.rule_instances.specs.Slots.{rule}
use Rattle.rule_instances.specs.Instances.{OfAny, OfOperation}
use Rattle.rule_instances.specs.Instances.OfAny.{rule_11, rule_12, rule_13, rule_27, rule_28}
use Rattle.rule_instances.specs.Instances.OfAny.{rule_31, rule_32, rule_90, rule_91}
use Rattle.rule_instances.specs.Instances.OfOperation.{rule_1, rule_21, rule_2, rule_16, rule_22}
use Rattle.rule_instances.specs.Instances.OfOperation.{rule_35, rule_3, rule_19_sum, rule_23_sum}
use Rattle.rule_instances.specs.Instances.OfOperation.{rule_4, rule_19_difference}
use Rattle.rule_instances.specs.Instances.OfOperation.{rule_23_difference, rule_5, rule_6, rule_17}
use Rattle.rule_instances.specs.Instances.OfOperation.{rule_24, rule_33, rule_7, rule_8, rule_9}
use Rattle.rule_instances.specs.Instances.OfOperation.{rule_18, rule_34, rule_10, rule_14, rule_15}
use Rattle.rule_instances.specs.Instances.OfOperation.{rule_25, rule_26, rule_41}
use Rattle.rule_instances.specs.Lists.{given, at_any, difference_rules, product_rules}
use Rattle.rule_instances.specs.Lists.{quotient_rules, at_operation}
use Rattle.rule_instances.proofs.Lists.{once_by_number, once_given, given_out, given_in}

-- ---- of any expression
any_in : (x : ExprId) (i : Instance) → OfAny x i → Has (at_any x) i
any_in x i rule_11 = (0, refl)
any_in x i rule_12 = (1, refl)
any_in x i rule_13 = (2, refl)
any_in x i rule_27 = (3, refl)
any_in x i rule_28 = (4, refl)
any_in x i rule_90 = (5, refl)
any_in x i rule_31 = (6, refl)
any_in x i rule_32 = (7, refl)
any_in x i rule_91 = (8, refl)

pub any_list : (x : ExprId) → IsListOf (OfAny x) (at_any x)
any_list x = record {
  only = has_all (OfAny x) (at_any x) (
    rule_11,
    (rule_12, (rule_13, (rule_27, (rule_28, (rule_90, (rule_31, (rule_32, (rule_91, tt)))))))),
  );
  each = any_in x;
  once = once_by_number (at_any x) refl;
}

-- ---- of an operation
module _ (nodes : List Node) (x : ExprId) where
  -- a list and one more behind the test that both operands are one
  with_twin : (base : List Instance) (a b : ExprId) (twin : Instance)
      → AllByRecursion (OfOperation nodes x) base → (a ≡ b → OfOperation nodes x twin)
      → (i : Instance) → Has (base ++ given (is_same a b) twin) i → OfOperation nodes x i
  with_twin base a b twin all t i m = elim (has_either base (given (is_same a b) twin) i m) [
    | inl h ↦ has_all (OfOperation nodes x) base all i h
    | inr h ↦ (let g = given_out (is_same a b) twin i h in
        subst (OfOperation nodes x) (sym g.1) (t (same_ids a b g.0)))
  ]

  same_second : (f : ExprId → ExprId → Node) (a b : ExprId) → a ≡ b
      → IsAt nodes x (f a b) → IsAt nodes x (f a a)
  same_second f a b e at = subst (λ c. IsAt nodes x (f a c)) (sym e) at

  operation_only : (n : Node) → IsAt nodes x n → (i : Instance)
      → Has (at_operation x n) i → OfOperation nodes x i
  operation_only (Var k) at i m = absurd (no_member i m)
  operation_only (Lit l) at i m =
      has_all (OfOperation nodes x) (at_operation x (Lit l)) (rule_1 l at, (rule_21 l at, tt)) i m
  operation_only (Neg a) at i m = has_all (OfOperation nodes x) (at_operation x (Neg a))
      (rule_2 a at, (rule_16 a at, (rule_22 a at, (rule_35 a at, tt)))) i m
  operation_only (Add a b) at i m = has_all (OfOperation nodes x) (at_operation x (Add a b))
      (rule_3 a b at, (rule_19_sum a b at, (rule_23_sum a b at, tt))) i m
  operation_only (Sub a b) at i m =
      with_twin (difference_rules x a b) a b (rule 5 (slot.Bnd a ∷ []) (slot.Bnd x))
      (rule_4 a b at, (rule_19_difference a b at, (rule_23_difference a b at, tt)))
      (λ e. rule_5 a (same_second Sub a b e at)) i m
  operation_only (Mul a b) at i m =
      with_twin (product_rules x a b) a b (rule 7 (slot.Abs a ∷ []) (slot.Bnd x))
      (rule_6 a b at, (rule_17 a b at, (rule_24 a b at, (rule_33 a b at, tt))))
      (λ e. rule_7 a (same_second Mul a b e at)) i m
  operation_only (Div a b) at i m =
      with_twin (quotient_rules x a b) a b (rule 10 (slot.Nzr a ∷ []) (slot.Bnd x))
      (rule_8 a b at, (rule_9 a b at, (rule_18 a b at, (rule_34 a b at, tt))))
      (λ e. rule_10 a (same_second Div a b e at)) i m
  operation_only (Abs a) at i m =
      has_all (OfOperation nodes x) (at_operation x (Abs a)) (rule_14 a at, (rule_15 a at, tt)) i m
  operation_only (Round r a) at i m = has_all (OfOperation nodes x) (at_operation x (Round r a))
      (rule_25 r a at, (rule_26 r a at, (rule_41 r a at, tt))) i m

  -- an instance of the node that x is stands in its list
  stands : (m n : Node) (i : Instance) → IsAt nodes x m → IsAt nodes x n → Has (at_operation x m) i
      → Has (at_operation x n) i
  stands m n i a b h = subst (λ k. Has (at_operation x k) i) (one_node nodes x m n a b) h

  twin_in : (base : List Instance) (a : ExprId) (twin : Instance)
      → Has (base ++ given (is_same a a) twin) twin
  twin_in base a twin =
      has_right base (given (is_same a a) twin) twin (given_in (is_same a a) twin (self_same a))

  operation_in : (n : Node) → IsAt nodes x n → (i : Instance) → OfOperation nodes x i
      → Has (at_operation x n) i
  operation_in n at i (rule_1 l e) = stands (Lit l) n i e at (0, refl)
  operation_in n at i (rule_21 l e) = stands (Lit l) n i e at (1, refl)
  operation_in n at i (rule_2 a e) = stands (Neg a) n i e at (0, refl)
  operation_in n at i (rule_16 a e) = stands (Neg a) n i e at (1, refl)
  operation_in n at i (rule_22 a e) = stands (Neg a) n i e at (2, refl)
  operation_in n at i (rule_35 a e) = stands (Neg a) n i e at (3, refl)
  operation_in n at i (rule_3 a b e) = stands (Add a b) n i e at (0, refl)
  operation_in n at i (rule_19_sum a b e) = stands (Add a b) n i e at (1, refl)
  operation_in n at i (rule_23_sum a b e) = stands (Add a b) n i e at (2, refl)
  operation_in n at i (rule_4 a b e) = stands (Sub a b) n i e at (0, refl)
  operation_in n at i (rule_19_difference a b e) = stands (Sub a b) n i e at (1, refl)
  operation_in n at i (rule_23_difference a b e) = stands (Sub a b) n i e at (2, refl)
  operation_in n at i (rule_5 a e) = stands (Sub a a) n i e at
      (twin_in (difference_rules x a a) a (rule 5 (slot.Bnd a ∷ []) (slot.Bnd x)))
  operation_in n at i (rule_6 a b e) = stands (Mul a b) n i e at (0, refl)
  operation_in n at i (rule_17 a b e) = stands (Mul a b) n i e at (1, refl)
  operation_in n at i (rule_24 a b e) = stands (Mul a b) n i e at (2, refl)
  operation_in n at i (rule_33 a b e) = stands (Mul a b) n i e at (3, refl)
  operation_in n at i (rule_7 a e) = stands (Mul a a) n i e at
      (twin_in (product_rules x a a) a (rule 7 (slot.Abs a ∷ []) (slot.Bnd x)))
  operation_in n at i (rule_8 a b e) = stands (Div a b) n i e at (0, refl)
  operation_in n at i (rule_9 a b e) = stands (Div a b) n i e at (1, refl)
  operation_in n at i (rule_18 a b e) = stands (Div a b) n i e at (2, refl)
  operation_in n at i (rule_34 a b e) = stands (Div a b) n i e at (3, refl)
  operation_in n at i (rule_10 a e) = stands (Div a a) n i e at
      (twin_in (quotient_rules x a a) a (rule 10 (slot.Nzr a ∷ []) (slot.Bnd x)))
  operation_in n at i (rule_14 a e) = stands (Abs a) n i e at (0, refl)
  operation_in n at i (rule_15 a e) = stands (Abs a) n i e at (1, refl)
  operation_in n at i (rule_25 r a e) = stands (Round r a) n i e at (0, refl)
  operation_in n at i (rule_26 r a e) = stands (Round r a) n i e at (1, refl)
  operation_in n at i (rule_41 r a e) = stands (Round r a) n i e at (2, refl)

  operation_once : (n : Node) → IsEachOnce (at_operation x n)
  operation_once (Var k) = once_nil
  operation_once (Lit l) = once_by_number (at_operation x (Lit l)) refl
  operation_once (Neg a) = once_by_number (at_operation x (Neg a)) refl
  operation_once (Add a b) = once_by_number (at_operation x (Add a b)) refl
  operation_once (Sub a b) = once_given (is_same a b) (difference_rules x a b)
      (rule 5 (slot.Bnd a ∷ []) (slot.Bnd x)) refl refl
  operation_once (Mul a b) = once_given (is_same a b) (product_rules x a b)
      (rule 7 (slot.Abs a ∷ []) (slot.Bnd x)) refl refl
  operation_once (Div a b) = once_given (is_same a b) (quotient_rules x a b)
      (rule 10 (slot.Nzr a ∷ []) (slot.Bnd x)) refl refl
  operation_once (Abs a) = once_by_number (at_operation x (Abs a)) refl
  operation_once (Round r a) = once_by_number (at_operation x (Round r a)) refl

  pub operation_list : (n : Node) → IsAt nodes x n
      → IsListOf (OfOperation nodes x) (at_operation x n)
  operation_list n at =
      record { only = operation_only n at; each = operation_in n at; once = operation_once n }
