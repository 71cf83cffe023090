-- Which kind an instance is of, by its rule's number, and which expression, or pair, it is read
-- off.
use Rattle.std.specs.Prelude.{◌≡◌, ◌⊎◌, ◌||◌, ◌==◌, ℕ, Bool, if◌then◌else◌, List, [], ◌∷◌, nat_lt}
use Rattle.std.specs.Prelude.{refl}
use Rattle.std.proofs.Common.{inl, inr}
use Rattle.fx_model.specs.declared.ExprId.{ExprId}
use Rattle.fx_model.specs.declared.Node.{Node}
use Rattle.expr_dag.specs.Nodes.{IsAt}
use Rattle.pair_closure.specs.Closure.{Pair}
use Rattle.facts.specs.declared.fact.Slot.{Slot}
use Rattle.facts.specs.declared.fact.Slot.TheVariants.{Bnd, Abs, Rel, Fix, Nzr, Void}
use Rattle.facts.specs.declared.hint.HintRow.{HintRow}
use Rattle.facts.specs.declared.instance.Instance.{Instance}
use Rattle.rule_instances.specs.Instances.{OfAny, OfOperation, OfError, OfTerms, OfChain, OfPair}
use Rattle.rule_instances.specs.Instances.{OfHint}
use Rattle.rule_instances.specs.Instances.OfAny.{rule_11, rule_12, rule_13, rule_27, rule_28}
use Rattle.rule_instances.specs.Instances.OfAny.{rule_31, rule_32, rule_90, rule_91}
use Rattle.rule_instances.specs.Instances.OfOperation.{rule_1, rule_21, rule_2, rule_16, rule_22}
use Rattle.rule_instances.specs.Instances.OfOperation.{rule_35, rule_3, rule_19_sum, rule_23_sum}
use Rattle.rule_instances.specs.Instances.OfOperation.{rule_4, rule_19_difference}
use Rattle.rule_instances.specs.Instances.OfOperation.{rule_23_difference, rule_5, rule_6, rule_17}
use Rattle.rule_instances.specs.Instances.OfOperation.{rule_24, rule_33, rule_7, rule_8, rule_9}
use Rattle.rule_instances.specs.Instances.OfOperation.{rule_18, rule_34, rule_10, rule_14, rule_15}
use Rattle.rule_instances.specs.Instances.OfOperation.{rule_25, rule_26, rule_41}
use Rattle.rule_instances.specs.Instances.OfError.{rule_42, rule_43, rule_44}
use Rattle.rule_instances.specs.Instances.OfTerms.{rule_71, rule_72, rule_73, rule_74}
use Rattle.rule_instances.specs.Instances.OfChain.{rule_75, rule_76}
use Rattle.rule_instances.specs.Instances.OfPair.{rule_36_second, rule_36_first, rule_51, rule_52}
use Rattle.rule_instances.specs.Instances.OfPair.{rule_53, rule_54, rule_55, rule_56, rule_57}
use Rattle.rule_instances.specs.Instances.OfPair.{rule_58, rule_59, rule_60, rule_61, rule_77}
use Rattle.rule_instances.specs.Instances.OfPair.{rule_78, rule_92}
use Rattle.rule_instances.specs.Instances.OfHint.{rule_80_bound, rule_80_size, rule_80_multiple}
use Rattle.rule_instances.specs.Instances.OfHint.{rule_80_nonzero}

-- ---- kinds
abbrev is_any : ℕ → Bool
is_any n = (n == 11) || ((n == 12) || ((n == 13)
    || ((n == 27) || ((n == 28) || ((n == 31) || ((n == 32) || ((n == 90) || (n == 91))))))))

-- 0 of any expression, 1 of its operation, 2 of an error, 3 of terms, 4 and 5 of chains, 6 of a
-- pair, 7 of a pair and a third expression, 8 of a hint
abbrev pub kind : ℕ → ℕ
kind n = if is_any n then 0 else (if n == 36 then 6 else (if nat_lt n 42 then 1 else (if nat_lt n 45
    then 2 else (if n == 58 then 7 else (if nat_lt n 62 then 6 else (if nat_lt n 75 then 3
    else (if n == 75 then 4 else (if n == 76 then 5 else (if n == 80 then 8 else 6)))))))))

-- ---- expressions
abbrev none : ExprId
none = record { 0 = 0 }

abbrev pub expression_of : Slot → ExprId
expression_of (Bnd x) = x
expression_of (Abs x) = x
expression_of (Rel x y) = x
expression_of (Fix x) = x
expression_of (Nzr x) = x
expression_of Void = none

abbrev pub first_of : List Slot → ExprId
first_of [] = none
first_of (s ∷ ss) = expression_of s

-- the rules that are read off a premise
abbrev is_of_premise : ℕ → Bool
is_of_premise n = (n == 15) || ((n == 90) || (n == 91))

abbrev pub home : Instance → ExprId
home i = if is_of_premise i.rule then first_of i.premises else expression_of i.target

pub any_home : (x : ExprId) (i : Instance) → OfAny x i → (home i ≡ x) × (kind i.rule ≡ 0)
any_home x i rule_11 = (refl, refl)
any_home x i rule_12 = (refl, refl)
any_home x i rule_13 = (refl, refl)
any_home x i rule_27 = (refl, refl)
any_home x i rule_28 = (refl, refl)
any_home x i rule_31 = (refl, refl)
any_home x i rule_32 = (refl, refl)
any_home x i rule_90 = (refl, refl)
any_home x i rule_91 = (refl, refl)

pub operation_home : (nodes : List Node) (x : ExprId) (i : Instance) → OfOperation nodes x i
    → (home i ≡ x) × (kind i.rule ≡ 1)
operation_home nodes x i (rule_1 l e) = (refl, refl)
operation_home nodes x i (rule_21 l e) = (refl, refl)
operation_home nodes x i (rule_2 a e) = (refl, refl)
operation_home nodes x i (rule_16 a e) = (refl, refl)
operation_home nodes x i (rule_22 a e) = (refl, refl)
operation_home nodes x i (rule_35 a e) = (refl, refl)
operation_home nodes x i (rule_3 a b e) = (refl, refl)
operation_home nodes x i (rule_19_sum a b e) = (refl, refl)
operation_home nodes x i (rule_23_sum a b e) = (refl, refl)
operation_home nodes x i (rule_4 a b e) = (refl, refl)
operation_home nodes x i (rule_19_difference a b e) = (refl, refl)
operation_home nodes x i (rule_23_difference a b e) = (refl, refl)
operation_home nodes x i (rule_5 a e) = (refl, refl)
operation_home nodes x i (rule_6 a b e) = (refl, refl)
operation_home nodes x i (rule_17 a b e) = (refl, refl)
operation_home nodes x i (rule_24 a b e) = (refl, refl)
operation_home nodes x i (rule_33 a b e) = (refl, refl)
operation_home nodes x i (rule_7 a e) = (refl, refl)
operation_home nodes x i (rule_8 a b e) = (refl, refl)
operation_home nodes x i (rule_9 a b e) = (refl, refl)
operation_home nodes x i (rule_18 a b e) = (refl, refl)
operation_home nodes x i (rule_34 a b e) = (refl, refl)
operation_home nodes x i (rule_10 a e) = (refl, refl)
operation_home nodes x i (rule_14 a e) = (refl, refl)
operation_home nodes x i (rule_15 a e) = (refl, refl)
operation_home nodes x i (rule_25 r a e) = (refl, refl)
operation_home nodes x i (rule_26 r a e) = (refl, refl)
operation_home nodes x i (rule_41 r a e) = (refl, refl)

-- what an expression with an instance by its operation is
pub operation_node : (nodes : List Node) (x : ExprId) (i : Instance) → OfOperation nodes x i
    → (n : Node) × IsAt nodes x n
operation_node nodes x i (rule_1 l e) = (_, e)
operation_node nodes x i (rule_21 l e) = (_, e)
operation_node nodes x i (rule_2 a e) = (_, e)
operation_node nodes x i (rule_16 a e) = (_, e)
operation_node nodes x i (rule_22 a e) = (_, e)
operation_node nodes x i (rule_35 a e) = (_, e)
operation_node nodes x i (rule_3 a b e) = (_, e)
operation_node nodes x i (rule_19_sum a b e) = (_, e)
operation_node nodes x i (rule_23_sum a b e) = (_, e)
operation_node nodes x i (rule_4 a b e) = (_, e)
operation_node nodes x i (rule_19_difference a b e) = (_, e)
operation_node nodes x i (rule_23_difference a b e) = (_, e)
operation_node nodes x i (rule_5 a e) = (_, e)
operation_node nodes x i (rule_6 a b e) = (_, e)
operation_node nodes x i (rule_17 a b e) = (_, e)
operation_node nodes x i (rule_24 a b e) = (_, e)
operation_node nodes x i (rule_33 a b e) = (_, e)
operation_node nodes x i (rule_7 a e) = (_, e)
operation_node nodes x i (rule_8 a b e) = (_, e)
operation_node nodes x i (rule_9 a b e) = (_, e)
operation_node nodes x i (rule_18 a b e) = (_, e)
operation_node nodes x i (rule_34 a b e) = (_, e)
operation_node nodes x i (rule_10 a e) = (_, e)
operation_node nodes x i (rule_14 a e) = (_, e)
operation_node nodes x i (rule_15 a e) = (_, e)
operation_node nodes x i (rule_25 r a e) = (_, e)
operation_node nodes x i (rule_26 r a e) = (_, e)
operation_node nodes x i (rule_41 r a e) = (_, e)

pub error_home : (nodes : List Node) (x : ExprId) (i : Instance) → OfError nodes x i
    → (home i ≡ x) × (kind i.rule ≡ 2)
error_home nodes x i (rule_42 r y a e f) = (refl, refl)
error_home nodes x i (rule_43 r y a e f s) = (refl, refl)
error_home nodes x i (rule_44 r y a e f) = (refl, refl)

pub terms_home : (nodes : List Node) (x : ExprId) (i : Instance) → OfTerms nodes x i
    → (home i ≡ x) × (kind i.rule ≡ 3)
terms_home nodes x i (rule_71 y z a b c d p q e f g h j) = (refl, refl)
terms_home nodes x i (rule_72 y z a b c d p q e f g h j) = (refl, refl)
terms_home nodes x i (rule_73 y z a b c d p q e f g h j) = (refl, refl)
terms_home nodes x i (rule_74 y z a b p e f g h) = (refl, refl)

pub chain_home : (nodes : List Node) (P : Pair → Type 0) (x : ExprId) (i : Instance)
    → OfChain nodes P x i → (home i ≡ x) × ((kind i.rule ≡ 4) ⊎ (kind i.rule ≡ 5))
chain_home nodes P x i (rule_75 a b c p q e f g h t) = (refl, inl refl)
chain_home nodes P x i (rule_76 a b c p q e f g h t) = (refl, inr refl)

-- ---- pairs
abbrev sides : Slot → Pair
sides (Rel x y) = (x, y)
sides s = (none, none)

abbrev first_sides : List Slot → Pair
first_sides [] = (none, none)
first_sides (s ∷ ss) = sides s

-- the rules that are read off the target
abbrev is_of_target : ℕ → Bool
is_of_target n = (n == 51) || ((n == 52) || ((n == 56) || ((n == 57) || ((n == 60) || (n == 61)))))

abbrev pub pair_home : Instance → Pair
pair_home i = if i.rule == 77 then (expression_of i.target, first_of i.premises)
    else (if i.rule == 78 then (first_of i.premises, expression_of i.target)
    else (if is_of_target i.rule then sides i.target else first_sides i.premises))

module _ (nodes : List Node) (P : Pair → Type 0) (x y : ExprId) where
  pub pair_read : (i : Instance) → OfPair nodes P x y i
      → (pair_home i ≡ (x, y)) × ((kind i.rule ≡ 6) ⊎ (kind i.rule ≡ 7))
  pair_read i rule_36_second = (refl, inl refl)
  pair_read i rule_36_first = (refl, inl refl)
  pair_read i (rule_52 d e) = (refl, inl refl)
  pair_read i (rule_53 d e) = (refl, inl refl)
  pair_read i rule_54 = (refl, inl refl)
  pair_read i (rule_55 q e) = (refl, inl refl)
  pair_read i (rule_56 a b c d e f p q) = (refl, inl refl)
  pair_read i (rule_57 a b c d e f p q) = (refl, inl refl)
  pair_read i (rule_59 p) = (refl, inl refl)
  pair_read i (rule_60 a b e f p) = (refl, inl refl)
  pair_read i (rule_61 a b c d s e f g p q) = (refl, inl refl)
  pair_read i (rule_77 d e n) = (refl, inl refl)
  pair_read i (rule_78 d e n) = (refl, inl refl)
  pair_read i rule_92 = (refl, inl refl)
  pair_read i (rule_58 c p q) = (refl, inr refl)
  pair_read i (rule_51 e) = ((λ j. (x, e j)), inl refl)

-- ---- hints
pub hint_read : (k : ℕ) (h : HintRow) (i : Instance) → OfHint k h i
    → (i.arg ≡ k) × (kind i.rule ≡ 8)
hint_read k h i rule_80_bound = (refl, refl)
hint_read k h i rule_80_size = (refl, refl)
hint_read k h i rule_80_multiple = (refl, refl)
hint_read k h i rule_80_nonzero = (refl, refl)
