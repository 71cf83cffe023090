-- Laws of what specs/Licensed defines.
use Rattle.std.specs.Prelude.{◌≡◌, ◌<◌, ℕ, List, [], ◌∷◌, ◌++◌, Some, length, slice_get, map}
use Rattle.std.specs.List.{AllByRecursion}
use Rattle.std.proofs.Common.{arith, sym, subst}
use Rattle.std.proofs.lemmas.Option.{slice_get_within, get_or_from_slice_get}
use Rattle.fx_model.specs.declared.ExprId.{ExprId}
use Rattle.fx_model.specs.declared.Node.{Node}
use Rattle.fx_model.specs.declared.Node.TheVariants as node
use Rattle.fx_model.specs.Expression.{ChildrenBelow, IsOrdered}
use Rattle.fx_model.proofs.Expression.{children_later}
use Rattle.expr_dag.specs.Nodes.{IsAt}
use Rattle.pair_closure.specs.Reached.{Has}
use Rattle.pair_closure.specs.Closure.{Pair, AreKnown}
use Rattle.facts.specs.declared.fact.Slot.{Slot}
use Rattle.facts.specs.declared.fact.Slot.TheVariants.{Nzr}
use Rattle.facts.specs.declared.hint.Need.{Need}
use Rattle.facts.specs.declared.hint.Need.TheVariants.{NotZero, Below, Above}
use Rattle.facts.specs.declared.hint.HintRow.{HintRow}
use Rattle.facts.specs.declared.instance.Instance.{Instance}
use Rattle.rule_instances.specs.Slots.{need_slot, conditions}
use Rattle.rule_instances.specs.Instances.{OfAny, OfOperation, OfError, OfTerms, OfChain, OfPair}
use Rattle.rule_instances.specs.Instances.{OfHint, IsInstance}
use Rattle.rule_instances.specs.Instances.IsInstance.{of_any, of_operation, of_error, of_terms}
use Rattle.rule_instances.specs.Instances.IsInstance.{of_chain, of_pair, of_hint}
use Rattle.rule_instances.specs.Instances.OfAny.{rule_11, rule_12, rule_13, rule_27, rule_28}
use Rattle.rule_instances.specs.Instances.OfAny.{rule_31, rule_32, rule_90, rule_91}
use Rattle.rule_instances.specs.Instances.OfOperation.{rule_1, rule_21, rule_2, rule_16, rule_22}
use Rattle.rule_instances.specs.Instances.OfOperation.{rule_35, rule_3, rule_19_sum, rule_23_sum}
use Rattle.rule_instances.specs.Instances.OfOperation.{rule_4, rule_19_difference}
use Rattle.rule_instances.specs.Instances.OfOperation.{rule_23_difference, rule_5, rule_6, rule_17}
use Rattle.rule_instances.specs.Instances.OfOperation.{rule_24, rule_33, rule_7, rule_8, rule_9}
use Rattle.rule_instances.specs.Instances.OfOperation.{rule_18, rule_34, rule_10, rule_14, rule_15}
use Rattle.rule_instances.specs.Instances.OfOperation.{rule_25, rule_26, rule_41}
use Rattle.rule_instances.specs.Instances.OfError.{rule_42, rule_43, rule_44}
use Rattle.rule_instances.specs.Instances.OfTerms.{rule_71, rule_72, rule_73, rule_74}
use Rattle.rule_instances.specs.Instances.OfChain.{rule_75, rule_76}
use Rattle.rule_instances.specs.Instances.OfPair.{rule_36_second, rule_36_first, rule_51, rule_52}
use Rattle.rule_instances.specs.Instances.OfPair.{rule_53, rule_54, rule_55, rule_56, rule_57}
use Rattle.rule_instances.specs.Instances.OfPair.{rule_58, rule_59, rule_60, rule_61, rule_77}
use Rattle.rule_instances.specs.Instances.OfPair.{rule_78, rule_92}
use Rattle.rule_instances.specs.Instances.OfHint.{rule_80_bound, rule_80_size, rule_80_multiple}
use Rattle.rule_instances.specs.Instances.OfHint.{rule_80_nonzero}
use Rattle.rule_universe.specs.Worlds.{IsSlot}
use Rattle.rule_universe.specs.Licensed.{NeedIsKnown, RowIsKnown}

module _ (nodes : List Node) (pairs : List Pair) (ordered : IsOrdered nodes)
    (known : AreKnown nodes pairs) where
  pub here : (x : ExprId) (n : Node) → IsAt nodes x n → x.0 < length nodes
  here x n e = slice_get_within nodes x.0 n e

  pub kid : (x : ExprId) (n : Node) → IsAt nodes x n → ChildrenBelow (length nodes) n
  kid x n e = children_later x.0 (length nodes) n (let l = here x n e in omega (arith, l)) (subst
      (ChildrenBelow x.0) (get_or_from_slice_get nodes x.0 n n e) (ordered x.0 n (here x n e)))

  -- target and premises are slots of these nodes and pairs
  abbrev pub HasSlots : Instance → Type 0
  HasSlots i = IsSlot (length nodes) pairs i.target
      × AllByRecursion (IsSlot (length nodes) pairs) i.premises

  pub any_slots : (x : ExprId) (i : Instance) → x.0 < length nodes → OfAny x i → HasSlots i
  any_slots x _ h rule_11 = (h, (h, tt))
  any_slots x _ h rule_12 = (h, (h, tt))
  any_slots x _ h rule_13 = (h, (h, (h, tt)))
  any_slots x _ h rule_27 = (h, (h, tt))
  any_slots x _ h rule_28 = (h, (h, (h, tt)))
  any_slots x _ h rule_31 = (h, (h, tt))
  any_slots x _ h rule_32 = (h, (h, tt))
  any_slots x _ h rule_90 = (tt, (h, (h, tt)))
  any_slots x _ h rule_91 = (tt, (h, (h, tt)))

  pub operation_slots : (x : ExprId) (i : Instance) → OfOperation nodes x i → HasSlots i
  operation_slots x _ (rule_1 l e0) = (here x (node.Lit l) e0, tt)
  operation_slots x _ (rule_21 l e0) = (here x (node.Lit l) e0, tt)
  operation_slots x _ (rule_2 a e0) = (here x (node.Neg a) e0, (kid x (node.Neg a) e0, tt))
  operation_slots x _ (rule_16 a e0) = (here x (node.Neg a) e0, (kid x (node.Neg a) e0, tt))
  operation_slots x _ (rule_22 a e0) = (here x (node.Neg a) e0, (kid x (node.Neg a) e0, tt))
  operation_slots x _ (rule_35 a e0) = (here x (node.Neg a) e0, (kid x (node.Neg a) e0, tt))
  operation_slots x _ (rule_3 a b e0) =
      (here x (node.Add a b) e0, ((kid x (node.Add a b) e0).0, ((kid x (node.Add a b) e0).1, tt)))
  operation_slots x _ (rule_19_sum a b e0) =
      (here x (node.Add a b) e0, ((kid x (node.Add a b) e0).0, ((kid x (node.Add a b) e0).1, tt)))
  operation_slots x _ (rule_23_sum a b e0) =
      (here x (node.Add a b) e0, ((kid x (node.Add a b) e0).0, ((kid x (node.Add a b) e0).1, tt)))
  operation_slots x _ (rule_4 a b e0) =
      (here x (node.Sub a b) e0, ((kid x (node.Sub a b) e0).0, ((kid x (node.Sub a b) e0).1, tt)))
  operation_slots x _ (rule_19_difference a b e0) =
      (here x (node.Sub a b) e0, ((kid x (node.Sub a b) e0).0, ((kid x (node.Sub a b) e0).1, tt)))
  operation_slots x _ (rule_23_difference a b e0) =
      (here x (node.Sub a b) e0, ((kid x (node.Sub a b) e0).0, ((kid x (node.Sub a b) e0).1, tt)))
  operation_slots x _ (rule_5 a e0) = (here x (node.Sub a a) e0, ((kid x (node.Sub a a) e0).0, tt))
  operation_slots x _ (rule_6 a b e0) =
      (here x (node.Mul a b) e0, ((kid x (node.Mul a b) e0).0, ((kid x (node.Mul a b) e0).1, tt)))
  operation_slots x _ (rule_17 a b e0) =
      (here x (node.Mul a b) e0, ((kid x (node.Mul a b) e0).0, ((kid x (node.Mul a b) e0).1, tt)))
  operation_slots x _ (rule_24 a b e0) =
      (here x (node.Mul a b) e0, ((kid x (node.Mul a b) e0).0, ((kid x (node.Mul a b) e0).1, tt)))
  operation_slots x _ (rule_33 a b e0) =
      (here x (node.Mul a b) e0, ((kid x (node.Mul a b) e0).0, ((kid x (node.Mul a b) e0).1, tt)))
  operation_slots x _ (rule_7 a e0) = (here x (node.Mul a a) e0, ((kid x (node.Mul a a) e0).0, tt))
  operation_slots x _ (rule_8 a b e0) =
      (here x (node.Div a b) e0, ((kid x (node.Div a b) e0).0, ((kid x (node.Div a b) e0).1, tt)))
  operation_slots x _ (rule_9 a b e0) =
      (here x (node.Div a b) e0, ((kid x (node.Div a b) e0).0, ((kid x (node.Div a b) e0).1, tt)))
  operation_slots x _ (rule_18 a b e0) =
      (here x (node.Div a b) e0, ((kid x (node.Div a b) e0).0, ((kid x (node.Div a b) e0).1, tt)))
  operation_slots x _ (rule_34 a b e0) =
      (here x (node.Div a b) e0, ((kid x (node.Div a b) e0).0, ((kid x (node.Div a b) e0).1, tt)))
  operation_slots x _ (rule_10 a e0) = (here x (node.Div a a) e0, ((kid x (node.Div a a) e0).0, tt))
  operation_slots x _ (rule_14 a e0) = (here x (node.Abs a) e0, (kid x (node.Abs a) e0, tt))
  operation_slots x _ (rule_15 a e0) = (kid x (node.Abs a) e0, (here x (node.Abs a) e0, tt))
  operation_slots x _ (rule_25 r a e0) =
      (here x (node.Round r a) e0, (kid x (node.Round r a) e0, tt))
  operation_slots x _ (rule_26 r a e0) =
      (here x (node.Round r a) e0, (kid x (node.Round r a) e0, tt))
  operation_slots x _ (rule_41 r a e0) =
      (here x (node.Round r a) e0, (kid x (node.Round r a) e0, tt))

  pub error_slots : (x : ExprId) (i : Instance) → OfError nodes x i → HasSlots i
  error_slots x _ (rule_42 r y a e0 e1) =
      (here x (node.Sub y a) e0, ((kid x (node.Sub y a) e0).1, tt))
  error_slots x _ (rule_43 r y a e0 e1 e2) =
      (here x (node.Sub y a) e0, ((kid x (node.Sub y a) e0).1, tt))
  error_slots x _ (rule_44 r y a e0 e1) =
      (here x (node.Sub y a) e0, ((kid x (node.Sub y a) e0).1, tt))

  pub terms_slots : (x : ExprId) (i : Instance) → OfTerms nodes x i → HasSlots i
  terms_slots x _ (rule_71 y z a b c d p q e0 e1 e2 e3 e4) =
      (here x (node.Sub y z) e0, (here p (node.Sub a c) e3, (here q (node.Sub b d) e4, tt)))
  terms_slots x _ (rule_72 y z a b c d p q e0 e1 e2 e3 e4) =
      (here x (node.Sub y z) e0, (here p (node.Sub a c) e3, (here q (node.Sub b d) e4, tt)))
  terms_slots x _ (rule_73 y z a b c d p q e0 e1 e2 e3 e4) = (
    here x (node.Sub y z) e0,
    (
      (kid y (node.Mul a b) e1).0,
      (here q (node.Sub b d) e4, (here p (node.Sub a c) e3, ((kid z (node.Mul c d) e2).1, tt))),
    ),
  )
  terms_slots x _ (rule_74 y z a b p e0 e1 e2 e3) =
      (here x (node.Sub y z) e0, (here p (node.Sub a b) e3, tt))

  pub chain_slots : (x : ExprId) (i : Instance) → OfChain nodes (Has pairs) x i → HasSlots i
  chain_slots x _ (rule_75 a b c p q e0 e1 e2 e3 e4) =
      (here x (node.Sub a c) e0, (here p (node.Sub a b) e1, (here q (node.Sub b c) e2, tt)))
  chain_slots x _ (rule_76 a b c p q e0 e1 e2 e3 e4) =
      (here x (node.Sub a c) e0, (here p (node.Sub a b) e1, (here q (node.Sub c b) e2, tt)))

  pub pair_slots : (x y : ExprId) (i : Instance) → Has pairs (x, y)
      → OfPair nodes (Has pairs) x y i → HasSlots i
  pair_slots x y _ p rule_36_second = ((known (x, y) p).1, (p, ((known (x, y) p).0, tt)))
  pair_slots x y _ p rule_36_first = ((known (x, y) p).0, (p, ((known (x, y) p).1, tt)))
  pair_slots x y _ p (rule_51 e0) =
      (subst (λ z. Has pairs (x, z)) (sym e0) p, ((known (x, y) p).0, tt))
  pair_slots x y _ p (rule_52 d e0) = (p, (here d (node.Sub x y) e0, ((known (x, y) p).1, tt)))
  pair_slots x y _ p (rule_53 d e0) = (here d (node.Sub x y) e0, (p, ((known (x, y) p).1, tt)))
  pair_slots x y _ p rule_54 = ((known (x, y) p).0, (p, ((known (x, y) p).1, tt)))
  pair_slots x y _ p (rule_55 q e0) = (here q (node.Div x y) e0, (p, ((known (x, y) p).1, tt)))
  pair_slots x y _ p (rule_56 a b c d e0 e1 e2 e3) = (p, (e2, (e3, tt)))
  pair_slots x y _ p (rule_57 a b c d e0 e1 e2 e3) =
      (p, (e2, (e3, ((kid y (node.Div c d) e1).1, tt))))
  pair_slots x y _ p (rule_58 c e0 e1) = (e1, (p, (e0, tt)))
  pair_slots x y _ p (rule_59 e0) = (e0, (p, tt))
  pair_slots x y _ p (rule_60 a b e0 e1 e2) = (p, (e2, tt))
  pair_slots x y _ p (rule_61 a b c d share e0 e1 e2 e3 e4) =
      (p, (e3, (e4, (here share (node.Div c y) e2, tt))))
  pair_slots x y _ p (rule_77 d e0 e1) =
      ((known (x, y) p).0, ((known (x, y) p).1, (here d (node.Sub x y) e0, tt)))
  pair_slots x y _ p (rule_78 d e0 e1) =
      ((known (x, y) p).1, ((known (x, y) p).0, (here d (node.Sub x y) e0, tt)))
  pair_slots x y _ p rule_92 = (tt, (p, ((known (x, y) p).1, tt)))

  divisor_slots : (ds : List ExprId) (rest : List Slot)
      → AllByRecursion (λ (d : ExprId). d.0 < length nodes) ds
      → AllByRecursion (IsSlot (length nodes) pairs) rest
      → AllByRecursion (IsSlot (length nodes) pairs) (map Nzr ds ++ rest)
  divisor_slots [] rest h r = r
  divisor_slots (d ∷ ds) rest h r = (h.0, divisor_slots ds rest h.1 r)

  need_has_slot : (m : Need) → NeedIsKnown (length nodes) m
      → IsSlot (length nodes) pairs (need_slot m)
  need_has_slot (NotZero x) h = h
  need_has_slot (Below x end apart) h = h
  need_has_slot (Above x end apart) h = h

  need_slots : (ms : List Need) → AllByRecursion (NeedIsKnown (length nodes)) ms
      → AllByRecursion (IsSlot (length nodes) pairs) (map need_slot ms)
  need_slots [] h = tt
  need_slots (m ∷ ms) h = (need_has_slot m h.0, need_slots ms h.1)

  condition_slots : (h : HintRow) → RowIsKnown (length nodes) h
      → AllByRecursion (IsSlot (length nodes) pairs) (conditions h)
  condition_slots h k =
      divisor_slots h.divisors (map need_slot h.needs) k.divisors (need_slots h.needs k.needs)

  pub hint_slots : (k : ℕ) (h : HintRow) (i : Instance) → RowIsKnown (length nodes) h
      → OfHint k h i → HasSlots i
  hint_slots k h _ r rule_80_bound = (r.left, (r.right, condition_slots h r))
  hint_slots k h _ r rule_80_size = (r.left, (r.right, condition_slots h r))
  hint_slots k h _ r rule_80_multiple = (r.left, (r.right, condition_slots h r))
  hint_slots k h _ r rule_80_nonzero = (r.left, (r.right, condition_slots h r))

  -- Target and premises of each instance are slots of these nodes and pairs, where the hints' rows
  -- are about these nodes.
  pub instance_slots : (hints : List HintRow)
      → ((k : ℕ) (h : HintRow) → slice_get hints k ≡ Some h → RowIsKnown (length nodes) h)
      → (i : Instance) → IsInstance nodes (Has pairs) hints i → HasSlots i
  instance_slots hints rows i (of_any x n _ at o) = any_slots x i (here x n at) o
  instance_slots hints rows i (of_operation x _ o) = operation_slots x i o
  instance_slots hints rows i (of_error x _ o) = error_slots x i o
  instance_slots hints rows i (of_terms x _ o) = terms_slots x i o
  instance_slots hints rows i (of_chain x _ o) = chain_slots x i o
  instance_slots hints rows i (of_pair x y _ p o) = pair_slots x y i p o
  instance_slots hints rows i (of_hint k h _ s o) = hint_slots k h i (rows k h s) o
