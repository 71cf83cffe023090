-- Laws of what specs/Beside defines.
use Rattle.std.specs.Prelude.{◌≡◌, ◌==◌, Bool, false, ℕ, List, refl}
use Rattle.std.proofs.Common.{ap, sym, ◌∙◌, true≢false}
use Rattle.fx_model.specs.declared.ExprId.{ExprId}
use Rattle.fx_model.specs.declared.Node.{Node}
use Rattle.pair_closure.specs.Closure.{Pair}
use Rattle.facts.specs.declared.fact.Slot.TheVariants.{Void}
use Rattle.facts.specs.declared.hint.HintRow.{HintRow}
use Rattle.facts.specs.declared.instance.Instance.{Instance}
use Rattle.rule_instances.specs.Slots.{rule}
use Rattle.rule_instances.specs.Instances.{OfAny, OfOperation, OfError, OfTerms, OfChain, OfPair}
use Rattle.rule_instances.specs.Instances.{OfHint, IsInstance}
use Rattle.rule_instances.specs.Instances.IsInstance.{of_any, of_operation, of_error, of_terms}
use Rattle.rule_instances.specs.Instances.IsInstance.{of_chain, of_pair, of_hint}
use Rattle.rule_instances.specs.Instances.OfAny.{rule_11, rule_12, rule_13, rule_27, rule_28}
use Rattle.rule_instances.specs.Instances.OfAny.{rule_90, rule_31, rule_32, rule_91}
use Rattle.rule_instances.specs.Instances.OfOperation.{rule_1, rule_21, rule_2, rule_16, rule_22}
use Rattle.rule_instances.specs.Instances.OfOperation.{rule_35, rule_3, rule_19_sum, rule_23_sum}
use Rattle.rule_instances.specs.Instances.OfOperation.{rule_4, rule_19_difference}
use Rattle.rule_instances.specs.Instances.OfOperation.{rule_23_difference, rule_5, rule_6, rule_17}
use Rattle.rule_instances.specs.Instances.OfOperation.{rule_24, rule_33, rule_7, rule_8, rule_9}
use Rattle.rule_instances.specs.Instances.OfOperation.{rule_18, rule_34, rule_10, rule_14, rule_15}
use Rattle.rule_instances.specs.Instances.OfOperation.{rule_25, rule_26, rule_41}
use Rattle.rule_instances.specs.Instances.OfError.{rule_42, rule_43, rule_44}
use Rattle.rule_instances.specs.Instances.OfTerms.{rule_71, rule_72, rule_73, rule_74}
use Rattle.rule_instances.specs.Instances.OfChain.{rule_75, rule_76}
use Rattle.rule_instances.specs.Instances.OfPair.{rule_36_second, rule_36_first, rule_51, rule_52}
use Rattle.rule_instances.specs.Instances.OfPair.{rule_53, rule_54, rule_55, rule_56, rule_57}
use Rattle.rule_instances.specs.Instances.OfPair.{rule_58, rule_59, rule_60, rule_61, rule_77}
use Rattle.rule_instances.specs.Instances.OfPair.{rule_78, rule_92}
use Rattle.rule_instances.specs.Instances.OfHint.{rule_80_bound, rule_80_size, rule_80_multiple}
use Rattle.rule_instances.specs.Instances.OfHint.{rule_80_nonzero}

abbrev is_28 : ℕ → Bool
is_28 n = n == 28

operation_other : (nodes : List Node) (x : ExprId) (i : Instance)
    → OfOperation nodes x i → is_28 i.rule ≡ false
operation_other nodes x i (rule_1 l e) = refl
operation_other nodes x i (rule_21 l e) = refl
operation_other nodes x i (rule_2 a e) = refl
operation_other nodes x i (rule_16 a e) = refl
operation_other nodes x i (rule_22 a e) = refl
operation_other nodes x i (rule_35 a e) = refl
operation_other nodes x i (rule_3 a b e) = refl
operation_other nodes x i (rule_19_sum a b e) = refl
operation_other nodes x i (rule_23_sum a b e) = refl
operation_other nodes x i (rule_4 a b e) = refl
operation_other nodes x i (rule_19_difference a b e) = refl
operation_other nodes x i (rule_23_difference a b e) = refl
operation_other nodes x i (rule_5 a e) = refl
operation_other nodes x i (rule_6 a b e) = refl
operation_other nodes x i (rule_17 a b e) = refl
operation_other nodes x i (rule_24 a b e) = refl
operation_other nodes x i (rule_33 a b e) = refl
operation_other nodes x i (rule_7 a e) = refl
operation_other nodes x i (rule_8 a b e) = refl
operation_other nodes x i (rule_9 a b e) = refl
operation_other nodes x i (rule_18 a b e) = refl
operation_other nodes x i (rule_34 a b e) = refl
operation_other nodes x i (rule_10 a e) = refl
operation_other nodes x i (rule_14 a e) = refl
operation_other nodes x i (rule_15 a e) = refl
operation_other nodes x i (rule_25 r a e) = refl
operation_other nodes x i (rule_26 r a e) = refl
operation_other nodes x i (rule_41 r a e) = refl

error_other : (nodes : List Node) (x : ExprId) (i : Instance)
    → OfError nodes x i → is_28 i.rule ≡ false
error_other nodes x i (rule_42 r y a e f) = refl
error_other nodes x i (rule_43 r y a e f s) = refl
error_other nodes x i (rule_44 r y a e f) = refl

terms_other : (nodes : List Node) (x : ExprId) (i : Instance)
    → OfTerms nodes x i → is_28 i.rule ≡ false
terms_other nodes x i (rule_71 y z a b c d p q e f g h j) = refl
terms_other nodes x i (rule_72 y z a b c d p q e f g h j) = refl
terms_other nodes x i (rule_73 y z a b c d p q e f g h j) = refl
terms_other nodes x i (rule_74 y z a b p e f g h) = refl

module _ (nodes : List Node) (P : Pair → Type 0) where
  chain_other : (x : ExprId) (i : Instance) → OfChain nodes P x i → is_28 i.rule ≡ false
  chain_other x i (rule_75 a b c p q e f g h t) = refl
  chain_other x i (rule_76 a b c p q e f g h t) = refl

  pair_other : (x y : ExprId) (i : Instance) → OfPair nodes P x y i → is_28 i.rule ≡ false
  pair_other x y i rule_36_second = refl
  pair_other x y i rule_36_first = refl
  pair_other x y i (rule_51 e) = refl
  pair_other x y i (rule_52 d e) = refl
  pair_other x y i (rule_53 d e) = refl
  pair_other x y i rule_54 = refl
  pair_other x y i (rule_55 q e) = refl
  pair_other x y i (rule_56 a b c d e f p q) = refl
  pair_other x y i (rule_57 a b c d e f p q) = refl
  pair_other x y i (rule_58 c p q) = refl
  pair_other x y i (rule_59 p) = refl
  pair_other x y i (rule_60 a b e f p) = refl
  pair_other x y i (rule_61 a b c d s e f g p q) = refl
  pair_other x y i (rule_77 d e n) = refl
  pair_other x y i (rule_78 d e n) = refl
  pair_other x y i rule_92 = refl

hint_other : (k : ℕ) (h : HintRow) (i : Instance) → OfHint k h i → is_28 i.rule ≡ false
hint_other k h i rule_80_bound = refl
hint_other k h i rule_80_size = refl
hint_other k h i rule_80_multiple = refl
hint_other k h i rule_80_nonzero = refl

not_28 : (n : ℕ) → is_28 n ≡ false → n ≡ 28 → ⊥
not_28 n e s = true≢false (sym (ap is_28 s) ∙ e)

any_beside : (x : ExprId) (i : Instance) → OfAny x i → i.rule ≡ 28
    → OfAny x (rule 90 i.premises Void)
any_beside x i rule_11 e = absurd (not_28 11 refl e)
any_beside x i rule_12 e = absurd (not_28 12 refl e)
any_beside x i rule_13 e = absurd (not_28 13 refl e)
any_beside x i rule_27 e = absurd (not_28 27 refl e)
any_beside x i rule_28 e = rule_90
any_beside x i rule_31 e = absurd (not_28 31 refl e)
any_beside x i rule_32 e = absurd (not_28 32 refl e)
any_beside x i rule_90 e = absurd (not_28 90 refl e)
any_beside x i rule_91 e = absurd (not_28 91 refl e)

pub shrinking_beside : (nodes : List Node) (P : Pair → Type 0) (hints : List HintRow) (i : Instance)
    → IsInstance nodes P hints i → i.rule ≡ 28 → IsInstance nodes P hints (rule 90 i.premises Void)
shrinking_beside nodes P hints i (of_any x n _ at a) e =
    of_any x n (rule 90 i.premises Void) at (any_beside x i a e)
shrinking_beside nodes P hints i (of_operation x _ o) e =
    absurd (not_28 i.rule (operation_other nodes x i o) e)
shrinking_beside nodes P hints i (of_error x _ o) e =
    absurd (not_28 i.rule (error_other nodes x i o) e)
shrinking_beside nodes P hints i (of_terms x _ o) e =
    absurd (not_28 i.rule (terms_other nodes x i o) e)
shrinking_beside nodes P hints i (of_chain x _ o) e =
    absurd (not_28 i.rule (chain_other nodes P x i o) e)
shrinking_beside nodes P hints i (of_pair x y _ p o) e =
    absurd (not_28 i.rule (pair_other nodes P x y i o) e)
shrinking_beside nodes P hints i (of_hint k h _ s o) e =
    absurd (not_28 i.rule (hint_other k h i o) e)
