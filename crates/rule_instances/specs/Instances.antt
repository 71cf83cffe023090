-- The instances of the rules over a list of nodes, pairs of expressions and hints: each row of the
-- list of rules, with all its expressions among the nodes and each relative error on one of the
-- pairs. One line is one row; premises stand before the target.
use Rattle.std.specs.Prelude.{◌≡◌, ◌≢◌, ◌⊎◌, ℕ, List, [], ◌∷◌, Some, slice_get}
use Rattle.fx_model.specs.declared.ExprId.{ExprId}
use Rattle.fx_model.specs.declared.Literal.{Literal}
use Rattle.fx_model.specs.declared.Direction.TheVariants.{Zr, Aw}
use Rattle.fx_model.specs.declared.Rounding.{Rounding}
use Rattle.fx_model.specs.declared.Node.{Node}
use Rattle.fx_model.specs.declared.Node.TheVariants as node
use Rattle.expr_dag.specs.Nodes.{IsAt}
use Rattle.pair_closure.specs.Closure.{Pair, AreApart}
use Rattle.facts.specs.declared.fact.Slot.TheVariants.{Bnd, Abs, Rel, Fix, Nzr, Void}
use Rattle.facts.specs.declared.hint.HintRow.{HintRow}
use Rattle.facts.specs.declared.instance.Instance.{Instance}
use Rattle.rule_instances.specs.Slots.{rule, rewriting}

-- Of any expression x.
pub data OfAny (x : ExprId) : Instance → Type 0 where
  rule_11 : OfAny x (rule 11 (Bnd x ∷ []) (Abs x))
  rule_12 : OfAny x (rule 12 (Abs x ∷ []) (Bnd x))
  rule_13 : OfAny x (rule 13 (Bnd x ∷ Abs x ∷ []) (Bnd x))
  rule_27 : OfAny x (rule 27 (Bnd x ∷ []) (Fix x))
  rule_28 : OfAny x (rule 28 (Bnd x ∷ Fix x ∷ []) (Bnd x))
  rule_31 : OfAny x (rule 31 (Bnd x ∷ []) (Nzr x))
  rule_32 : OfAny x (rule 32 (Abs x ∷ []) (Nzr x))
  rule_90 : OfAny x (rule 90 (Bnd x ∷ Fix x ∷ []) Void)
  rule_91 : OfAny x (rule 91 (Bnd x ∷ Nzr x ∷ []) Void)

module _ (nodes : List Node) where
  -- Of an expression x, by its operation.
  pub data OfOperation (x : ExprId) : Instance → Type 0 where
    rule_1 : (l : Literal) → IsAt nodes x (node.Lit l) → OfOperation x (rule 1 [] (Bnd x))
    rule_21 : (l : Literal) → IsAt nodes x (node.Lit l) → OfOperation x (rule 21 [] (Fix x))
    rule_2 : (a : ExprId) → IsAt nodes x (node.Neg a) → OfOperation x (rule 2 (Bnd a ∷ []) (Bnd x))
    rule_16 : (a : ExprId) → IsAt nodes x (node.Neg a)
        → OfOperation x (rule 16 (Abs a ∷ []) (Abs x))
    rule_22 : (a : ExprId) → IsAt nodes x (node.Neg a)
        → OfOperation x (rule 22 (Fix a ∷ []) (Fix x))
    rule_35 : (a : ExprId) → IsAt nodes x (node.Neg a)
        → OfOperation x (rule 35 (Nzr a ∷ []) (Nzr x))
    rule_3 : (a b : ExprId) → IsAt nodes x (node.Add a b)
        → OfOperation x (rule 3 (Bnd a ∷ Bnd b ∷ []) (Bnd x))
    rule_19_sum : (a b : ExprId) → IsAt nodes x (node.Add a b)
        → OfOperation x (rule 19 (Abs a ∷ Abs b ∷ []) (Abs x))
    rule_23_sum : (a b : ExprId) → IsAt nodes x (node.Add a b)
        → OfOperation x (rule 23 (Fix a ∷ Fix b ∷ []) (Fix x))
    rule_4 : (a b : ExprId) → IsAt nodes x (node.Sub a b)
        → OfOperation x (rule 4 (Bnd a ∷ Bnd b ∷ []) (Bnd x))
    rule_19_difference : (a b : ExprId) → IsAt nodes x (node.Sub a b)
        → OfOperation x (rule 19 (Abs a ∷ Abs b ∷ []) (Abs x))
    rule_23_difference : (a b : ExprId) → IsAt nodes x (node.Sub a b)
        → OfOperation x (rule 23 (Fix a ∷ Fix b ∷ []) (Fix x))
    rule_5 : (a : ExprId) → IsAt nodes x (node.Sub a a)
        → OfOperation x (rule 5 (Bnd a ∷ []) (Bnd x))
    rule_6 : (a b : ExprId) → IsAt nodes x (node.Mul a b)
        → OfOperation x (rule 6 (Bnd a ∷ Bnd b ∷ []) (Bnd x))
    rule_17 : (a b : ExprId) → IsAt nodes x (node.Mul a b)
        → OfOperation x (rule 17 (Abs a ∷ Abs b ∷ []) (Abs x))
    rule_24 : (a b : ExprId) → IsAt nodes x (node.Mul a b)
        → OfOperation x (rule 24 (Fix a ∷ Fix b ∷ []) (Fix x))
    rule_33 : (a b : ExprId) → IsAt nodes x (node.Mul a b)
        → OfOperation x (rule 33 (Nzr a ∷ Nzr b ∷ []) (Nzr x))
    rule_7 : (a : ExprId) → IsAt nodes x (node.Mul a a)
        → OfOperation x (rule 7 (Abs a ∷ []) (Bnd x))
    rule_8 : (a b : ExprId) → IsAt nodes x (node.Div a b)
        → OfOperation x (rule 8 (Bnd a ∷ Bnd b ∷ []) (Bnd x))
    rule_9 : (a b : ExprId) → IsAt nodes x (node.Div a b)
        → OfOperation x (rule 9 (Bnd a ∷ Nzr b ∷ []) (Bnd x))
    rule_18 : (a b : ExprId) → IsAt nodes x (node.Div a b)
        → OfOperation x (rule 18 (Abs a ∷ Abs b ∷ []) (Abs x))
    rule_34 : (a b : ExprId) → IsAt nodes x (node.Div a b)
        → OfOperation x (rule 34 (Nzr a ∷ Nzr b ∷ []) (Nzr x))
    rule_10 : (a : ExprId) → IsAt nodes x (node.Div a a)
        → OfOperation x (rule 10 (Nzr a ∷ []) (Bnd x))
    rule_14 : (a : ExprId) → IsAt nodes x (node.Abs a)
        → OfOperation x (rule 14 (Abs a ∷ []) (Bnd x))
    rule_15 : (a : ExprId) → IsAt nodes x (node.Abs a)
        → OfOperation x (rule 15 (Bnd x ∷ []) (Abs a))
    rule_25 : (r : Rounding) (a : ExprId) → IsAt nodes x (node.Round r a)
        → OfOperation x (rule 25 (Bnd a ∷ []) (Fix x))
    rule_26 : (r : Rounding) (a : ExprId) → IsAt nodes x (node.Round r a)
        → OfOperation x (rule 26 (Fix a ∷ []) (Fix x))
    rule_41 : (r : Rounding) (a : ExprId) → IsAt nodes x (node.Round r a)
        → OfOperation x (rule 41 (Bnd a ∷ []) (Bnd x))

  -- Of the error of a rounding: x = R(a) - a. The rule with a sign is that of the directions toward
  -- zero and away from it.
  pub data OfError (x : ExprId) : Instance → Type 0 where
    rule_42 : (r : Rounding) (y a : ExprId) → IsAt nodes x (node.Sub y a)
        → IsAt nodes y (node.Round r a) → OfError x (rule 42 (Bnd a ∷ []) (Bnd x))
    rule_43 : (r : Rounding) (y a : ExprId)
        → IsAt nodes x (node.Sub y a) → IsAt nodes y (node.Round r a) → (r.dir ≡ Zr) ⊎ (r.dir ≡ Aw)
        → OfError x (rule 43 (Bnd a ∷ []) (Bnd x))
    rule_44 : (r : Rounding) (y a : ExprId) → IsAt nodes x (node.Sub y a)
        → IsAt nodes y (node.Round r a) → OfError x (rule 44 (Fix a ∷ []) (Bnd x))

  -- Of a difference x of two operations of one kind, with p = a - c and q = b - d (for negations p
  -- = a - b).
  pub data OfTerms (x : ExprId) : Instance → Type 0 where
    rule_71 : (y z a b c d p q : ExprId) → IsAt nodes x (node.Sub y z) → IsAt nodes y (node.Add a b)
        → IsAt nodes z (node.Add c d) → IsAt nodes p (node.Sub a c) → IsAt nodes q (node.Sub b d)
        → OfTerms x (rule 71 (Bnd p ∷ Bnd q ∷ []) (Bnd x))
    rule_72 : (y z a b c d p q : ExprId) → IsAt nodes x (node.Sub y z) → IsAt nodes y (node.Sub a b)
        → IsAt nodes z (node.Sub c d) → IsAt nodes p (node.Sub a c) → IsAt nodes q (node.Sub b d)
        → OfTerms x (rule 72 (Bnd p ∷ Bnd q ∷ []) (Bnd x))
    rule_73 : (y z a b c d p q : ExprId) → IsAt nodes x (node.Sub y z) → IsAt nodes y (node.Mul a b)
        → IsAt nodes z (node.Mul c d) → IsAt nodes p (node.Sub a c) → IsAt nodes q (node.Sub b d)
        → OfTerms x (rule 73 (Bnd a ∷ Bnd q ∷ Bnd p ∷ Bnd d ∷ []) (Bnd x))
    rule_74 : (y z a b p : ExprId) → IsAt nodes x (node.Sub y z) → IsAt nodes y (node.Neg a)
        → IsAt nodes z (node.Neg b) → IsAt nodes p (node.Sub a b)
        → OfTerms x (rule 74 (Bnd p ∷ []) (Bnd x))

module _ (nodes : List Node) (IsPair : Pair → Type 0) where
  -- Of a difference x = a - c and a pair with one of its sides: p = a - b; q = b - c, or q = c - b.
  -- The three differ.
  pub data OfChain (x : ExprId) : Instance → Type 0 where
    rule_75 : (a b c p q : ExprId) → IsAt nodes x (node.Sub a c)
        → IsAt nodes p (node.Sub a b) → IsAt nodes q (node.Sub b c) → IsPair (a, b) → AreApart a b c
        → OfChain x (rule 75 (Bnd p ∷ Bnd q ∷ []) (Bnd x))
    rule_76 : (a b c p q : ExprId) → IsAt nodes x (node.Sub a c)
        → IsAt nodes p (node.Sub a b) → IsAt nodes q (node.Sub c b) → IsPair (c, b) → AreApart a b c
        → OfChain x (rule 76 (Bnd p ∷ Bnd q ∷ []) (Bnd x))

  -- Of a pair (x, y) and what its sides are made of; d = x - y.
  pub data OfPair (x y : ExprId) : Instance → Type 0 where
    rule_36_second : OfPair x y (rule 36 (Rel x y ∷ Nzr x ∷ []) (Nzr y))
    rule_36_first : OfPair x y (rule 36 (Rel x y ∷ Nzr y ∷ []) (Nzr x))
    rule_51 : x ≡ y → OfPair x y (rule 51 (Bnd x ∷ []) (Rel x x))
    rule_52 : (d : ExprId) → IsAt nodes d (node.Sub x y)
        → OfPair x y (rule 52 (Bnd d ∷ Bnd y ∷ []) (Rel x y))
    rule_53 : (d : ExprId) → IsAt nodes d (node.Sub x y)
        → OfPair x y (rule 53 (Rel x y ∷ Bnd y ∷ []) (Bnd d))
    rule_54 : OfPair x y (rule 54 (Rel x y ∷ Bnd y ∷ []) (Bnd x))
    rule_55 : (q : ExprId) → IsAt nodes q (node.Div x y)
        → OfPair x y (rule 55 (Rel x y ∷ Nzr y ∷ []) (Bnd q))
    rule_56 : (a b c d : ExprId) → IsAt nodes x (node.Mul a b) → IsAt nodes y (node.Mul c d)
        → IsPair (a, c) → IsPair (b, d) → OfPair x y (rule 56 (Rel a c ∷ Rel b d ∷ []) (Rel x y))
    rule_57 : (a b c d : ExprId)
        → IsAt nodes x (node.Div a b) → IsAt nodes y (node.Div c d) → IsPair (a, c) → IsPair (b, d)
        → OfPair x y (rule 57 (Rel a c ∷ Rel b d ∷ Nzr d ∷ []) (Rel x y))
    rule_58 : (c : ExprId) → IsPair (y, c) → IsPair (x, c)
        → OfPair x y (rule 58 (Rel x y ∷ Rel y c ∷ []) (Rel x c))
    rule_59 : IsPair (y, x) → OfPair x y (rule 59 (Rel x y ∷ []) (Rel y x))
    rule_60 : (a b : ExprId) → IsAt nodes x (node.Neg a) → IsAt nodes y (node.Neg b) → IsPair (a, b)
        → OfPair x y (rule 60 (Rel a b ∷ []) (Rel x y))
    rule_61 : (a b c d share : ExprId) → IsAt nodes x (node.Add a b) → IsAt nodes y (node.Add c d)
        → IsAt nodes share (node.Div c y) → IsPair (a, c) → IsPair (b, d)
        → OfPair x y (rule 61 (Rel a c ∷ Rel b d ∷ Bnd share ∷ []) (Rel x y))
    rule_77 : (d : ExprId) → IsAt nodes d (node.Sub x y) → x ≢ y
        → OfPair x y (rule 77 (Bnd y ∷ Bnd d ∷ []) (Bnd x))
    rule_78 : (d : ExprId) → IsAt nodes d (node.Sub x y) → x ≢ y
        → OfPair x y (rule 78 (Bnd x ∷ Bnd d ∷ []) (Bnd y))
    rule_92 : OfPair x y (rule 92 (Rel x y ∷ Nzr y ∷ []) Void)

-- Of hint number k: a fact of one kind on its left side, from the same on its right side.
pub data OfHint (k : ℕ) (h : HintRow) : Instance → Type 0 where
  rule_80_bound : OfHint k h (rewriting k h Bnd)
  rule_80_size : OfHint k h (rewriting k h Abs)
  rule_80_multiple : OfHint k h (rewriting k h Fix)
  rule_80_nonzero : OfHint k h (rewriting k h Nzr)

-- The instances: of each expression, of each pair, of each hint.
pub data IsInstance (nodes : List Node) (IsPair : Pair → Type 0) (hints : List HintRow) : Instance
    → Type 0 where
  of_any : (x : ExprId) (n : Node) (i : Instance) → IsAt nodes x n → OfAny x i
      → IsInstance nodes IsPair hints i
  of_operation : (x : ExprId) (i : Instance) → OfOperation nodes x i
      → IsInstance nodes IsPair hints i
  of_error : (x : ExprId) (i : Instance) → OfError nodes x i → IsInstance nodes IsPair hints i
  of_terms : (x : ExprId) (i : Instance) → OfTerms nodes x i → IsInstance nodes IsPair hints i
  of_chain : (x : ExprId) (i : Instance) → OfChain nodes IsPair x i
      → IsInstance nodes IsPair hints i
  of_pair : (x y : ExprId) (i : Instance) → IsPair (x, y) → OfPair nodes IsPair x y i
      → IsInstance nodes IsPair hints i
  of_hint : (k : ℕ) (h : HintRow) (i : Instance) → slice_get hints k ≡ Some h → OfHint k h i
      → IsInstance nodes IsPair hints i
