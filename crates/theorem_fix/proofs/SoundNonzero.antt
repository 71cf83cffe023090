-- The rules on values other than 0 are sound: where the premises hold, the conclusion does.
use Rattle.std.specs.Prelude.{◌≡◌, ◌≢◌, ◌⊎◌, ◌&&◌, ◌||◌, not, Bool, true, false, List, [], ◌∷◌}
use Rattle.std.specs.Prelude.{Option, Some, None}
use Rattle.std.specs.Option.{IsSomeAnd}
use Rattle.std.proofs.Common.{sym, ap, subst, ◌∙◌, inl, inr, ⊎_elim}
use Rattle.std.proofs.lemmas.Bool.{and_parts, or_cases}
use Rattle.fx_model.specs.Fraction.{Fraction, ◌*ℚ◌, ◌/ℚ◌, neg_ℚ, abs_ℚ, zero_ℚ, one_ℚ, inverse_ℚ}
use Rattle.fx_model.specs.Fraction.{abs-from, le_refl, lt_not, mul_comm, mul_assoc, mul-inverse}
use Rattle.fx_model.specs.Fraction.{one-mul, zero-mul, zero-add, neg-neg, add-neg}
use Rattle.fx_model.proofs.Fraction.{div-mul}
use Rattle.fx_model.specs.Grid.{Bound, Below, At, Above}
use Rattle.fx_model.specs.Enclosure.{IsFrom, Lies}
use Rattle.fx_model.specs.Expression.{Assignment, value}
use Rattle.fx_model.specs.declared.ExprId.{ExprId}
use Rattle.fx_model.specs.declared.Node.{Node}
use Rattle.fx_model.specs.declared.Node.TheVariants as node
use Rattle.interval.specs.Intervals.{range_of}
use Rattle.interval.specs.Results.{has_zero}
use Rattle.interval.proofs.Members.{zero_test}
use Rattle.expr_dag.specs.Shapes.{is_at, are_known}
use Rattle.expr_dag.proofs.Lifted.{at_node, lifted_quotient, lifted₁, lifted₂}
use Rattle.facts.specs.declared.relative.RelativeError.{RelativeError}
use Rattle.facts.specs.declared.fact.Fact.{Fact}
use Rattle.facts.specs.declared.fact.Fact.TheVariants as fact
use Rattle.facts.specs.declared.fact.Slot.TheVariants as slot
use Rattle.facts.specs.Holds.{AreZero, IsRelated, Holds}
use Rattle.facts.proofs.CommonParts.{if-some, expr_same}
use Rattle.facts.proofs.Held.{some-and}
use Rattle.facts.specs.Order.{is_same}
use Rattle.facts.specs.Ranges.{IsBelow, is_below, is_below_in}
use Rattle.facts.specs.Promises.{IsSound}
use Rattle.facts.proofs.Conclusions.{given}
use Rattle.facts.specs.RelativeConclusions.{void_only}
use Rattle.facts.proofs.RelatedZeros.{first_nonzero, second_nonzero}
use Rattle.theorem_arith.specs.Shapes.{is_one}
use Rattle.theorem_arith.proofs.Shapes.{one_same}
use Rattle.theorem_fix.specs.Nonzero.{nonzero_bound_rule, nonzero_size_rule, nonzero_product_rule}
use Rattle.theorem_fix.specs.Nonzero.{nonzero_quotient_rule, nonzero_negation_rule, are_sides}
use Rattle.theorem_fix.specs.Nonzero.{nonzero_or_void, nonzero_side_rule}

-- the value isn't 0
abbrev IsNonzero : Fraction → Type 0
IsNonzero v = v ≢ zero_ℚ

-- ---- numbers other than 0
nonzero-mul : (x y : Fraction) → IsNonzero x → IsNonzero y → IsNonzero (x *ℚ y)
nonzero-mul x y m n e =
    m (sym (mul_comm x one_ℚ ∙ one-mul x) ∙ ap (λ z. x *ℚ z) (sym (mul-inverse y n))
    ∙ sym (mul_assoc x y (inverse_ℚ y)) ∙ ap (λ z. z *ℚ inverse_ℚ y) e ∙ zero-mul (inverse_ℚ y))

nonzero-div : (x y : Fraction) → IsNonzero x → IsNonzero y → IsNonzero (x /ℚ y)
nonzero-div x y m n e = m (sym (div-mul x y n) ∙ ap (λ z. z *ℚ y) e ∙ zero-mul y)

neg_zero : neg_ℚ zero_ℚ ≡ zero_ℚ
neg_zero = sym (zero-add (neg_ℚ zero_ℚ)) ∙ add-neg zero_ℚ

nonzero-neg : (x : Fraction) → IsNonzero x → IsNonzero (neg_ℚ x)
nonzero-neg x n e = n (sym (neg-neg x) ∙ ap neg_ℚ e ∙ neg_zero)

-- ---- from intervals
both_ways : (b : Bool) → not b ≡ true → b ≡ true → ⊥
both_ways true m e = cc
both_ways false m e = cc

pub nonzero_bound_rule-sound : IsSound nonzero_bound_rule
nonzero_bound_rule-sound nodes (fact.Bnd x i ∷ []) (slot.Nzr e) f o q = λ a h.
    let t = if-some (is_one nodes x e && not (has_zero (range_of i))) (fact.Nzr e) f q in
    let b = and_parts (is_one nodes x e) (not (has_zero (range_of i))) t.0 in
    subst (Holds nodes a) t.1
    (subst (λ z. IsSomeAnd (value nodes a z) IsNonzero) (one_same nodes x e b.0)
    (some-and (value nodes a x) (Lies (range_of i)) IsNonzero (λ v l z.
    both_ways (has_zero (range_of i)) b.1 (zero_test i (subst (Lies (range_of i)) z l))) h.0))
nonzero_bound_rule-sound nodes _ _ f o q = cc

above_zero : (b : Bound) → IsBelow zero_ℚ b → IsFrom b zero_ℚ → ⊥
above_zero Below l p = l
above_zero (At g) l p = lt_not zero_ℚ g l p
above_zero Above l p = p

zero_size : abs_ℚ zero_ℚ ≡ zero_ℚ
zero_size = abs-from zero_ℚ (le_refl zero_ℚ)

pub nonzero_size_rule-sound : IsSound nonzero_size_rule
nonzero_size_rule-sound nodes (fact.Abs x s ∷ []) (slot.Nzr e) f o q = λ a h.
    let low = (range_of s.interval).low in
    let t = if-some (is_one nodes x e && is_below zero_ℚ low) (fact.Nzr e) f q in
    let b = and_parts (is_one nodes x e) (is_below zero_ℚ low) t.0 in
    subst (Holds nodes a) t.1
    (subst (λ z. IsSomeAnd (value nodes a z) IsNonzero) (one_same nodes x e b.0)
    (some-and (value nodes a x) (λ v. Lies (range_of s.interval) (abs_ℚ v)) IsNonzero
    (λ v l z. above_zero low (is_below_in zero_ℚ low b.1)
    (subst (IsFrom low) (ap abs_ℚ z ∙ zero_size) l.0)) h.0))
nonzero_size_rule-sound nodes _ _ f o q = cc

-- ---- from values other than 0
pub nonzero_product_rule-sound : IsSound nonzero_product_rule
nonzero_product_rule-sound nodes (fact.Nzr x ∷ fact.Nzr y ∷ []) (slot.Nzr e) f o q = λ a h.
    let t = if-some (is_at nodes e (node.Mul x y)) (fact.Nzr e) f q in
    subst (Holds nodes a) t.1 (at_node nodes a o e (node.Mul x y) IsNonzero t.0
    (lifted₂ ◌*ℚ◌ (value nodes a x)
    (value nodes a y) IsNonzero IsNonzero IsNonzero nonzero-mul h.0 h.1.0))
nonzero_product_rule-sound nodes _ _ f o q = cc

pub nonzero_quotient_rule-sound : IsSound nonzero_quotient_rule
nonzero_quotient_rule-sound nodes (fact.Nzr x ∷ fact.Nzr y ∷ []) (slot.Nzr e) f o q = λ a h.
    let t = if-some (is_at nodes e (node.Div x y)) (fact.Nzr e) f q in
    subst (Holds nodes a) t.1 (at_node nodes a o e (node.Div x y) IsNonzero t.0
    (lifted_quotient (value nodes a x)
    (value nodes a y) IsNonzero IsNonzero IsNonzero (λ v n. n) nonzero-div h.0 h.1.0))
nonzero_quotient_rule-sound nodes _ _ f o q = cc

pub nonzero_negation_rule-sound : IsSound nonzero_negation_rule
nonzero_negation_rule-sound nodes (fact.Nzr x ∷ []) (slot.Nzr e) f o q = λ a h.
    let t = if-some (is_at nodes e (node.Neg x)) (fact.Nzr e) f q in
    subst (Holds nodes a) t.1 (at_node nodes a o e (node.Neg x) IsNonzero t.0
    (lifted₁ neg_ℚ (value nodes a x) IsNonzero IsNonzero nonzero-neg h.0))
nonzero_negation_rule-sound nodes _ _ f o q = cc

-- ---- from a relative error
-- what holds of both values of a pair
pair_first : (u v : Option Fraction) (R : Fraction → Fraction → Type 0) (P Q : Fraction → Type 0)
    → ((x y : Fraction) → R x y → P y → Q x) → IsSomeAnd u (λ x. IsSomeAnd v (R x))
    → IsSomeAnd v P → IsSomeAnd u Q
pair_first None v R P Q h r p = r
pair_first (Some x) None R P Q h r p = absurd r
pair_first (Some x) (Some y) R P Q h r p = h x y r p

pair_second : (u v : Option Fraction) (R : Fraction → Fraction → Type 0) (P Q : Fraction → Type 0)
    → ((x y : Fraction) → R x y → P x → Q y) → IsSomeAnd u (λ x. IsSomeAnd v (R x))
    → IsSomeAnd u P → IsSomeAnd v Q
pair_second None v R P Q h r p = absurd r
pair_second (Some x) None R P Q h r p = r
pair_second (Some x) (Some y) R P Q h r p = h x y r p

no_pair : (u v : Option Fraction) → IsSomeAnd u (λ x. IsSomeAnd v (AreZero x))
    → (IsSomeAnd u IsNonzero ⊎ IsSomeAnd v IsNonzero) → ⊥
no_pair None v r s = r
no_pair (Some x) None r s = r
no_pair (Some x) (Some y) r s = ⊎_elim (λ n. n r.0) (λ n. n r.1) s

second_holds : (nodes : List Node) (a : Assignment) (x y : ExprId) (d : Option RelativeError)
    → Holds nodes a (fact.Rel x y d) → IsSomeAnd (value nodes a x) IsNonzero
    → Holds nodes a (nonzero_or_void y d)
second_holds nodes a x y None r n = absurd (no_pair (value nodes a x) (value nodes a y) r (inl n))
second_holds nodes a x y (Some d) r n = pair_second (value nodes a x) (value nodes a y)
    (IsRelated d.interval) IsNonzero IsNonzero (second_nonzero d) r n

first_holds : (nodes : List Node) (a : Assignment) (x y : ExprId) (d : Option RelativeError)
    → Holds nodes a (fact.Rel x y d) → IsSomeAnd (value nodes a y) IsNonzero
    → Holds nodes a (nonzero_or_void x d)
first_holds nodes a x y None r n = absurd (no_pair (value nodes a x) (value nodes a y) r (inr n))
first_holds nodes a x y (Some d) r n = pair_first (value nodes a x) (value nodes a y)
    (IsRelated d.interval) IsNonzero IsNonzero (first_nonzero d) r n

-- of the side that isn't z
other_holds : (nodes : List Node) (a : Assignment) (x y z e : ExprId) (d : Option RelativeError)
    → are_sides x y z e ≡ true → Holds nodes a (fact.Rel x y d)
    → IsSomeAnd (value nodes a z) IsNonzero → Holds nodes a (nonzero_or_void e d)
other_holds nodes a x y z e d s r n = ⊎_elim
    (λ t. let b = and_parts (is_same z x) (is_same e y) t in
    subst (λ w. Holds nodes a (nonzero_or_void w d)) (sym (expr_same e y b.1)) (second_holds nodes a
    x y d r (subst (λ w. IsSomeAnd (value nodes a w) IsNonzero) (expr_same z x b.0) n)))
    (λ t. let b = and_parts (is_same z y) (is_same e x) t in
    subst (λ w. Holds nodes a (nonzero_or_void w d)) (sym (expr_same e x b.1)) (first_holds nodes a
    x y d r (subst (λ w. IsSomeAnd (value nodes a w) IsNonzero) (expr_same z y b.0) n)))
    (or_cases (is_same z x && is_same e y) (is_same z y && is_same e x) s)

-- VOID is said of either side
nothing_holds : (nodes : List Node) (a : Assignment)
    (x y z : ExprId) (d : Option RelativeError) (f : Fact) → (is_same z x || is_same z y) ≡ true
    → void_only (Some (nonzero_or_void z d)) ≡ Some f → Holds nodes a (fact.Rel x y d)
    → IsSomeAnd (value nodes a z) IsNonzero → Holds nodes a f
nothing_holds nodes a x y z None f s q r n =
    absurd (no_pair (value nodes a x) (value nodes a y) r (⊎_elim
    (λ t. inl (subst (λ w. IsSomeAnd (value nodes a w) IsNonzero) (expr_same z x t) n))
    (λ t. inr (subst (λ w. IsSomeAnd (value nodes a w) IsNonzero) (expr_same z y t) n))
    (or_cases (is_same z x) (is_same z y) s)))
nothing_holds nodes a x y z (Some d) f s q r n = cc

pub nonzero_side_rule-sound : IsSound nonzero_side_rule
nonzero_side_rule-sound nodes (fact.Rel x y d ∷ fact.Nzr z ∷ []) (slot.Nzr e) f o q = λ a h.
    let t = if-some (are_known nodes x y && are_sides x y z e) (nonzero_or_void e d) f q in
    subst (Holds nodes a) t.1 (other_holds nodes a x y z e d
    (and_parts (are_known nodes x y) (are_sides x y z e) t.0).1 h.0 h.1.0)
nonzero_side_rule-sound nodes (fact.Rel x y d ∷ fact.Nzr z ∷ []) slot.Void f o q = λ a h.
    let t = given (are_known nodes x y && (is_same z x || is_same z y))
    (void_only (Some (nonzero_or_void z d))) f q in
    nothing_holds nodes a x y z d f
    (and_parts (are_known nodes x y) (is_same z x || is_same z y) t.0).1 t.1 h.0 h.1.0
nonzero_side_rule-sound nodes _ _ f o q = cc
