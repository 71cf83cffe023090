-- The arguments of instances.
use Rattle.std.specs.Prelude.{◌≡◌, ◌<◌, ℕ, List, length, refl}
use Rattle.std.proofs.Common.{arith}
use Rattle.std.proofs.lemmas.Option.{slice_get_within}
use Rattle.fx_model.specs.declared.ExprId.{ExprId}
use Rattle.fx_model.specs.declared.Node.{Node}
use Rattle.pair_closure.specs.Closure.{Pair}
use Rattle.facts.specs.declared.hint.HintRow.{HintRow}
use Rattle.facts.specs.declared.instance.Instance.{Instance}
use Rattle.rule_instances.specs.Instances.{OfAny, OfOperation, OfError, OfTerms, OfChain, OfPair}
use Rattle.rule_instances.specs.Instances.{OfHint, IsInstance}
use Rattle.rule_instances.specs.Instances.IsInstance.{of_any, of_operation, of_error, of_terms}
use Rattle.rule_instances.specs.Instances.IsInstance.{of_chain, of_pair, of_hint}
use Rattle.rule_instances.specs.Instances.OfAny.{rule_11, rule_12, rule_13, rule_27, rule_28}
use Rattle.rule_instances.specs.Instances.OfAny.{rule_31, rule_32, rule_90, rule_91}
use Rattle.rule_instances.specs.Instances.OfOperation.{rule_1, rule_21, rule_2, rule_16, rule_22}
use Rattle.rule_instances.specs.Instances.OfOperation.{rule_35, rule_3, rule_19_sum, rule_23_sum}
use Rattle.rule_instances.specs.Instances.OfOperation.{rule_4, rule_19_difference}
use Rattle.rule_instances.specs.Instances.OfOperation.{rule_23_difference, rule_5, rule_6, rule_17}
use Rattle.rule_instances.specs.Instances.OfOperation.{rule_24, rule_33, rule_7, rule_8, rule_9}
use Rattle.rule_instances.specs.Instances.OfOperation.{rule_18, rule_34, rule_10, rule_14, rule_15}
use Rattle.rule_instances.specs.Instances.OfOperation.{rule_25, rule_26, rule_41}
use Rattle.rule_instances.specs.Instances.OfError.{rule_42, rule_43, rule_44}
use Rattle.rule_instances.specs.Instances.OfTerms.{rule_71, rule_72, rule_73, rule_74}
use Rattle.rule_instances.specs.Instances.OfChain.{rule_75, rule_76}
use Rattle.rule_instances.specs.Instances.OfPair.{rule_36_second, rule_36_first, rule_51, rule_52}
use Rattle.rule_instances.specs.Instances.OfPair.{rule_53, rule_54, rule_55, rule_56, rule_57}
use Rattle.rule_instances.specs.Instances.OfPair.{rule_58, rule_59, rule_60, rule_61, rule_77}
use Rattle.rule_instances.specs.Instances.OfPair.{rule_78, rule_92}
use Rattle.rule_instances.specs.Instances.OfHint.{rule_80_bound, rule_80_size, rule_80_multiple}
use Rattle.rule_instances.specs.Instances.OfHint.{rule_80_nonzero}

module _ (nodes : List Node) (P : Pair → Type 0) where
  any_arg : (x : ExprId) (i : Instance) → OfAny x i → i.arg ≡ 0
  any_arg x _ rule_11 = refl
  any_arg x _ rule_12 = refl
  any_arg x _ rule_13 = refl
  any_arg x _ rule_27 = refl
  any_arg x _ rule_28 = refl
  any_arg x _ rule_31 = refl
  any_arg x _ rule_32 = refl
  any_arg x _ rule_90 = refl
  any_arg x _ rule_91 = refl

  operation_arg : (x : ExprId) (i : Instance) → OfOperation nodes x i → i.arg ≡ 0
  operation_arg x _ (rule_1 l e0) = refl
  operation_arg x _ (rule_21 l e0) = refl
  operation_arg x _ (rule_2 a e0) = refl
  operation_arg x _ (rule_16 a e0) = refl
  operation_arg x _ (rule_22 a e0) = refl
  operation_arg x _ (rule_35 a e0) = refl
  operation_arg x _ (rule_3 a b e0) = refl
  operation_arg x _ (rule_19_sum a b e0) = refl
  operation_arg x _ (rule_23_sum a b e0) = refl
  operation_arg x _ (rule_4 a b e0) = refl
  operation_arg x _ (rule_19_difference a b e0) = refl
  operation_arg x _ (rule_23_difference a b e0) = refl
  operation_arg x _ (rule_5 a e0) = refl
  operation_arg x _ (rule_6 a b e0) = refl
  operation_arg x _ (rule_17 a b e0) = refl
  operation_arg x _ (rule_24 a b e0) = refl
  operation_arg x _ (rule_33 a b e0) = refl
  operation_arg x _ (rule_7 a e0) = refl
  operation_arg x _ (rule_8 a b e0) = refl
  operation_arg x _ (rule_9 a b e0) = refl
  operation_arg x _ (rule_18 a b e0) = refl
  operation_arg x _ (rule_34 a b e0) = refl
  operation_arg x _ (rule_10 a e0) = refl
  operation_arg x _ (rule_14 a e0) = refl
  operation_arg x _ (rule_15 a e0) = refl
  operation_arg x _ (rule_25 r a e0) = refl
  operation_arg x _ (rule_26 r a e0) = refl
  operation_arg x _ (rule_41 r a e0) = refl

  error_arg : (x : ExprId) (i : Instance) → OfError nodes x i → i.arg ≡ 0
  error_arg x _ (rule_42 r y a e0 e1) = refl
  error_arg x _ (rule_43 r y a e0 e1 e2) = refl
  error_arg x _ (rule_44 r y a e0 e1) = refl

  terms_arg : (x : ExprId) (i : Instance) → OfTerms nodes x i → i.arg ≡ 0
  terms_arg x _ (rule_71 y z a b c d p q e0 e1 e2 e3 e4) = refl
  terms_arg x _ (rule_72 y z a b c d p q e0 e1 e2 e3 e4) = refl
  terms_arg x _ (rule_73 y z a b c d p q e0 e1 e2 e3 e4) = refl
  terms_arg x _ (rule_74 y z a b p e0 e1 e2 e3) = refl

  chain_arg : (x : ExprId) (i : Instance) → OfChain nodes P x i → i.arg ≡ 0
  chain_arg x _ (rule_75 a b c p q e0 e1 e2 e3 e4) = refl
  chain_arg x _ (rule_76 a b c p q e0 e1 e2 e3 e4) = refl

  pair_arg : (x y : ExprId) (i : Instance) → OfPair nodes P x y i → i.arg ≡ 0
  pair_arg x y _ rule_36_second = refl
  pair_arg x y _ rule_36_first = refl
  pair_arg x y _ (rule_51 e0) = refl
  pair_arg x y _ (rule_52 d e0) = refl
  pair_arg x y _ (rule_53 d e0) = refl
  pair_arg x y _ rule_54 = refl
  pair_arg x y _ (rule_55 q e0) = refl
  pair_arg x y _ (rule_56 a b c d e0 e1 e2 e3) = refl
  pair_arg x y _ (rule_57 a b c d e0 e1 e2 e3) = refl
  pair_arg x y _ (rule_58 c e0 e1) = refl
  pair_arg x y _ (rule_59 e0) = refl
  pair_arg x y _ (rule_60 a b e0 e1 e2) = refl
  pair_arg x y _ (rule_61 a b c d share e0 e1 e2 e3 e4) = refl
  pair_arg x y _ (rule_77 d e0 e1) = refl
  pair_arg x y _ (rule_78 d e0 e1) = refl
  pair_arg x y _ rule_92 = refl

  hint_arg : (k : ℕ) (h : HintRow) (i : Instance) → OfHint k h i → i.arg ≡ k
  hint_arg k h _ rule_80_bound = refl
  hint_arg k h _ rule_80_size = refl
  hint_arg k h _ rule_80_multiple = refl
  hint_arg k h _ rule_80_nonzero = refl

  -- 0, or the number of a hint
  pub arg_below : (hints : List HintRow) (n : ℕ) → 0 < n → length hints < n → (i : Instance)
      → IsInstance nodes P hints i → i.arg < n
  arg_below hints n z l i (of_any x m _ at o) = let e = any_arg x i o in omega (arith, e, z)
  arg_below hints n z l i (of_operation x _ o) = let e = operation_arg x i o in omega (arith, e, z)
  arg_below hints n z l i (of_error x _ o) = let e = error_arg x i o in omega (arith, e, z)
  arg_below hints n z l i (of_terms x _ o) = let e = terms_arg x i o in omega (arith, e, z)
  arg_below hints n z l i (of_chain x _ o) = let e = chain_arg x i o in omega (arith, e, z)
  arg_below hints n z l i (of_pair x y _ p o) = let e = pair_arg x y i o in omega (arith, e, z)
  arg_below hints n z l i (of_hint k h _ s o) = let e = hint_arg k h i o in
      let w = slice_get_within hints k h s in omega (arith, e, w, l)
