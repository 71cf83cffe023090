-- What a rule gives stands on its target, or is VOID.
use Rattle.std.specs.Prelude.{◌≡◌, ◌⊎◌, Bool, true, false, ◌&&◌, ◌||◌, [], ◌∷◌, Option, Some, None}
use Rattle.std.specs.Prelude.{slice_get, refl}
use Rattle.std.proofs.Common.{inl, inr}
use Rattle.fx_model.specs.Fraction.{zero_ℚ, one_ℚ}
use Rattle.fx_model.specs.Expression.{literal_value}
use Rattle.fx_model.specs.declared.ExprId.{ExprId}
use Rattle.fx_model.specs.declared.Node.{Node}
use Rattle.fx_model.specs.declared.Node.TheVariants as node
use Rattle.interval.specs.declared.interval.Interval.{Interval}
use Rattle.interval.specs.Results.{negation_of, sum_of, difference_of, product_of, quotient_of}
use Rattle.interval.specs.Results.{point_of, whole_interval, size_of}
use Rattle.expr_dag.specs.Shapes.{is_at}
use Rattle.facts.specs.declared.size.Size.{Size}
use Rattle.facts.specs.declared.fact.Fact.TheVariants as fact
use Rattle.facts.specs.declared.fact.Slot.TheVariants as slot
use Rattle.facts.specs.Order.{slot_of, is_same}
use Rattle.facts.specs.Parts.{size_within}
use Rattle.facts.specs.Promises.{IsOnTarget}
use Rattle.facts.proofs.Conclusions.{StandsOn, abs_stands, bnd_stands, fact_stands, given_stands}
use Rattle.facts.proofs.Conclusions.{only_stands}
use Rattle.facts.specs.Conclusions.{abs_of, bnd_of}
use Rattle.theorem_arith.specs.Shapes.{is_one}
use Rattle.theorem_arith.specs.Bounds.{literal_at, literal_rule, negation_rule, binary_rule}
use Rattle.theorem_arith.specs.Bounds.{sum_rule, difference_rule, product_rule}
use Rattle.theorem_arith.specs.Bounds.{difference_with_itself_rule, square_rule, quotient_rule}
use Rattle.theorem_arith.specs.Bounds.{quotient_by_nonzero_rule, quotient_by_itself_rule}
use Rattle.theorem_arith.specs.Sizes.{size_rule, around, value_rule, is_above, is_below}
use Rattle.theorem_arith.specs.Sizes.{signed_fact, sign_rule, absolute_value_rule, abs_or_void}
use Rattle.theorem_arith.specs.Sizes.{void_if_none, is_absolute_value, size_of_value_rule}
use Rattle.theorem_arith.specs.Sizes.{size_of_negation_rule, size_of_product_rule, size_within_part}
use Rattle.theorem_arith.specs.Sizes.{size_of_quotient_rule, size_of_sum, size_of_sum_rule}

-- ---- rules on bounds
literal_stands : (n : Option Node) (x : ExprId) → StandsOn (slot.Bnd x) (literal_at n x)
literal_stands (Some (node.Lit l)) x f e =
    fact_stands (slot.Bnd x) (fact.Bnd x (point_of (literal_value l))) (inl refl) f e
literal_stands _ x f e = cc

pub literal_rule-target : IsOnTarget literal_rule
literal_rule-target nodes [] (slot.Bnd e) f q = literal_stands (slice_get nodes e.0) e f q
literal_rule-target nodes _ _ f q = cc

pub negation_rule-target : IsOnTarget negation_rule
negation_rule-target nodes (fact.Bnd x i ∷ []) (slot.Bnd e) f q = only_stands (slot.Bnd e)
    (is_at nodes e (node.Neg x)) (fact.Bnd e (negation_of i)) (inl refl) f q
negation_rule-target nodes _ _ f q = cc

pub binary_rule-target : (make : ExprId → ExprId → Node) (op : Interval → Interval → Interval)
    → IsOnTarget (binary_rule make op)
binary_rule-target make op nodes (fact.Bnd x i ∷ fact.Bnd y j ∷ []) (slot.Bnd e) f q =
    only_stands (slot.Bnd e) (is_at nodes e (make x y)) (fact.Bnd e (op i j)) (inl refl) f q
binary_rule-target make op nodes _ _ f q = cc

pub sum_rule-target : IsOnTarget sum_rule
sum_rule-target = binary_rule-target node.Add sum_of

pub difference_rule-target : IsOnTarget difference_rule
difference_rule-target = binary_rule-target node.Sub difference_of

pub product_rule-target : IsOnTarget product_rule
product_rule-target = binary_rule-target node.Mul product_of

pub difference_with_itself_rule-target : IsOnTarget difference_with_itself_rule
difference_with_itself_rule-target nodes (fact.Bnd x i ∷ []) (slot.Bnd e) f q = only_stands
    (slot.Bnd e) (is_at nodes e (node.Sub x x)) (fact.Bnd e (point_of zero_ℚ)) (inl refl) f q
difference_with_itself_rule-target nodes _ _ f q = cc

pub square_rule-target : IsOnTarget square_rule
square_rule-target nodes (fact.Abs x s ∷ []) (slot.Bnd e) f q = only_stands (slot.Bnd e)
    (is_at nodes e (node.Mul x x)) (fact.Bnd e (product_of s.interval s.interval)) (inl refl) f q
square_rule-target nodes _ _ f q = cc

pub quotient_rule-target : IsOnTarget quotient_rule
quotient_rule-target nodes (fact.Bnd x i ∷ fact.Bnd y j ∷ []) (slot.Bnd e) f q =
    given_stands (slot.Bnd e) (is_at nodes e (node.Div x y)) (bnd_of e (quotient_of i j))
    (bnd_stands e (quotient_of i j)) f q
quotient_rule-target nodes _ _ f q = cc

pub quotient_by_nonzero_rule-target : IsOnTarget quotient_by_nonzero_rule
quotient_by_nonzero_rule-target nodes (fact.Bnd x i ∷ fact.Nzr y ∷ []) (slot.Bnd e) f q =
    only_stands (slot.Bnd e) (is_at nodes e (node.Div x y))
    (fact.Bnd e whole_interval) (inl refl) f q
quotient_by_nonzero_rule-target nodes _ _ f q = cc

pub quotient_by_itself_rule-target : IsOnTarget quotient_by_itself_rule
quotient_by_itself_rule-target nodes (fact.Nzr x ∷ []) (slot.Bnd e) f q = only_stands (slot.Bnd e)
    (is_at nodes e (node.Div x x)) (fact.Bnd e (point_of one_ℚ)) (inl refl) f q
quotient_by_itself_rule-target nodes _ _ f q = cc

-- ---- rules on absolute values
pub size_rule-target : IsOnTarget size_rule
size_rule-target nodes (fact.Bnd x i ∷ []) (slot.Abs e) f q =
    given_stands (slot.Abs e) (is_one nodes x e) (abs_of e (size_within (size_of i)))
    (abs_stands e (size_within (size_of i))) f q
size_rule-target nodes _ _ f q = cc

pub value_rule-target : IsOnTarget value_rule
value_rule-target nodes (fact.Abs x s ∷ []) (slot.Bnd e) f q =
    given_stands (slot.Bnd e) (is_one nodes x e) (bnd_of e (around s)) (bnd_stands e (around s)) f q
value_rule-target nodes _ _ f q = cc

signed_stands : (x : ExprId) (s : Size) (a b : Bool) → StandsOn (slot.Bnd x) (signed_fact x s a b)
signed_stands x s true true f e = fact_stands (slot.Bnd x) fact.Void (inr refl) f e
signed_stands x s true false f e = fact_stands (slot.Bnd x) (fact.Bnd x s.interval) (inl refl) f e
signed_stands x s false true f e =
    fact_stands (slot.Bnd x) (fact.Bnd x (negation_of s.interval)) (inl refl) f e
signed_stands x s false false f e = cc

pub sign_rule-target : IsOnTarget sign_rule
sign_rule-target nodes (fact.Bnd x i ∷ fact.Abs y s ∷ []) (slot.Bnd e) f q =
    given_stands (slot.Bnd e) (is_one nodes x y && is_same x e) (signed_fact e s (is_above i s)
    (is_below i s)) (signed_stands e s (is_above i s) (is_below i s)) f q
sign_rule-target nodes (fact.Bnd x i ∷ fact.Abs y s ∷ []) slot.Void f q = only_stands slot.Void
    (is_one nodes x y && (is_above i s && is_below i s)) fact.Void (inr refl) f q
sign_rule-target nodes _ _ f q = cc

pub absolute_value_rule-target : IsOnTarget absolute_value_rule
absolute_value_rule-target nodes (fact.Abs x s ∷ []) (slot.Bnd e) f q =
    only_stands (slot.Bnd e) (is_at nodes e (node.Abs x)) (fact.Bnd e s.interval) (inl refl) f q
absolute_value_rule-target nodes _ _ f q = cc

abs_or_void_stands : (x : ExprId) (o : Option Size)
    → (slot_of (abs_or_void x o) ≡ slot.Abs x) ⊎ (abs_or_void x o ≡ fact.Void)
abs_or_void_stands x (Some s) = inl refl
abs_or_void_stands x None = inr refl

void_stands : (o : Option Size) → StandsOn slot.Void (void_if_none o)
void_stands (Some s) f e = cc
void_stands None f e = fact_stands slot.Void fact.Void (inr refl) f e

pub size_of_value_rule-target : IsOnTarget size_of_value_rule
size_of_value_rule-target nodes (fact.Bnd y i ∷ []) (slot.Abs e) f q =
    only_stands (slot.Abs e) (is_at nodes y (node.Abs e)) (abs_or_void e (size_within i))
    (abs_or_void_stands e (size_within i)) f q
size_of_value_rule-target nodes (fact.Bnd y i ∷ []) slot.Void f q =
    given_stands slot.Void (is_absolute_value (slice_get nodes y.0)) (void_if_none (size_within i))
    (void_stands (size_within i)) f q
size_of_value_rule-target nodes _ _ f q = cc

pub size_of_negation_rule-target : IsOnTarget size_of_negation_rule
size_of_negation_rule-target nodes (fact.Abs a s ∷ []) (slot.Abs e) f q =
    only_stands (slot.Abs e) (is_at nodes e (node.Neg a)) (fact.Abs e s) (inl refl) f q
size_of_negation_rule-target nodes _ _ f q = cc

pub size_of_product_rule-target : IsOnTarget size_of_product_rule
size_of_product_rule-target nodes (fact.Abs a s ∷ fact.Abs b t ∷ []) (slot.Abs e) f q =
    given_stands (slot.Abs e)
    (is_at nodes e (node.Mul a b)) (abs_of e (size_within (product_of s.interval t.interval)))
    (abs_stands e (size_within (product_of s.interval t.interval))) f q
size_of_product_rule-target nodes _ _ f q = cc

pub size_of_quotient_rule-target : IsOnTarget size_of_quotient_rule
size_of_quotient_rule-target nodes (fact.Abs a s ∷ fact.Abs b t ∷ []) (slot.Abs e) f q =
    given_stands (slot.Abs e)
    (is_at nodes e (node.Div a b)) (abs_of e (size_within_part (quotient_of s.interval t.interval)))
    (abs_stands e (size_within_part (quotient_of s.interval t.interval))) f q
size_of_quotient_rule-target nodes _ _ f q = cc

pub size_of_sum_rule-target : IsOnTarget size_of_sum_rule
size_of_sum_rule-target nodes (fact.Abs a s ∷ fact.Abs b t ∷ []) (slot.Abs e) f q =
    given_stands (slot.Abs e) (is_at nodes e (node.Add a b) || is_at nodes e (node.Sub a b))
    (abs_of e (size_of_sum s.interval t.interval))
    (abs_stands e (size_of_sum s.interval t.interval)) f q
size_of_sum_rule-target nodes _ _ f q = cc
