-- What rules give can be written as steps.
use Rattle.std.specs.Prelude.{◌≡◌, Bool, true, false, ◌&&◌, ◌||◌, [], ◌∷◌, Option, Some, None}
use Rattle.std.specs.Prelude.{slice_get, refl}
use Rattle.std.proofs.Common.{◌∙◌, ap, arith}
use Rattle.std.proofs.lemmas.Bool.{and_parts, and_from}
use Rattle.fx_model.specs.Fraction.{zero_ℚ, one_ℚ}
use Rattle.fx_model.specs.declared.ExprId.{ExprId}
use Rattle.fx_model.specs.declared.Node.{Node}
use Rattle.fx_model.specs.declared.Node.TheVariants as node
use Rattle.interval.specs.declared.interval.Interval.{Interval}
use Rattle.interval.specs.Results.{negation_of, sum_of, difference_of, product_of, quotient_of}
use Rattle.interval.specs.Results.{point_of, whole_interval, size_of}
use Rattle.expr_dag.specs.Shapes.{is_at}
use Rattle.expr_dag.proofs.Shapes.{is_at_out}
use Rattle.facts.specs.declared.size.Size.{Size}
use Rattle.facts.specs.declared.fact.Fact.TheVariants as fact
use Rattle.facts.specs.declared.fact.Slot.TheVariants as slot
use Rattle.facts.specs.Order.{is_same}
use Rattle.facts.specs.Parts.{size_within}
use Rattle.facts.specs.Conclusions.{abs_of, bnd_of}
use Rattle.facts.proofs.Conclusions.{given}
use Rattle.theorem_arith.specs.Shapes.{is_one}
use Rattle.theorem_arith.specs.Bounds.{literal_at, literal_rule, negation_rule, binary_rule}
use Rattle.theorem_arith.specs.Bounds.{sum_rule, difference_rule, product_rule}
use Rattle.theorem_arith.specs.Bounds.{difference_with_itself_rule, square_rule, quotient_rule}
use Rattle.theorem_arith.specs.Bounds.{quotient_by_nonzero_rule, quotient_by_itself_rule}
use Rattle.theorem_arith.specs.Sizes.{size_rule, around, value_rule, is_above, is_below}
use Rattle.theorem_arith.specs.Sizes.{signed_fact, sign_rule, absolute_value_rule, abs_or_void}
use Rattle.theorem_arith.specs.Sizes.{void_if_none, is_absolute_value, size_of_value_rule}
use Rattle.theorem_arith.specs.Sizes.{size_of_negation_rule, size_of_product_rule, size_within_part}
use Rattle.theorem_arith.specs.Sizes.{size_of_quotient_rule, size_of_sum, size_of_sum_rule}
use Rattle.tree_certificates.proofs.Fitting.{FitsSteps, only_never, given_never, bnd_never}
use Rattle.tree_certificates.proofs.Fitting.{abs_never, only_given, given_both, only_void}

literal_never : (n : Option Node) (x : ExprId) → literal_at n x ≡ Some fact.Void → ⊥
literal_never (Some (node.Lit l)) x q = cc
literal_never _ x q = cc

pub literal_rule-fits : FitsSteps literal_rule
literal_rule-fits nodes [] (slot.Bnd e) f o q =
    (omega arith, λ v. absurd (literal_never (slice_get nodes e.0) e (q ∙ ap Some v)))
literal_rule-fits nodes _ _ f o q = cc

pub negation_rule-fits : FitsSteps negation_rule
negation_rule-fits nodes (fact.Bnd x i ∷ []) (slot.Bnd e) f o q = (
  omega arith,
  λ v. absurd (only_never (is_at nodes e (node.Neg x)) (fact.Bnd e (negation_of i))
      (λ w. cc) (q ∙ ap Some v)),
)
negation_rule-fits nodes _ _ f o q = cc

pub binary_rule-fits : (make : ExprId → ExprId → Node) (op : Interval → Interval → Interval)
    → FitsSteps (binary_rule make op)
binary_rule-fits make op nodes (fact.Bnd x i ∷ fact.Bnd y j ∷ []) (slot.Bnd e) f o q = (
  omega arith,
  λ v. absurd (only_never (is_at nodes e (make x y)) (fact.Bnd e (op i j))
      (λ w. cc) (q ∙ ap Some v)),
)
binary_rule-fits make op nodes _ _ f o q = cc

pub sum_rule-fits : FitsSteps sum_rule
sum_rule-fits = binary_rule-fits node.Add sum_of

pub difference_rule-fits : FitsSteps difference_rule
difference_rule-fits = binary_rule-fits node.Sub difference_of

pub product_rule-fits : FitsSteps product_rule
product_rule-fits = binary_rule-fits node.Mul product_of

pub difference_with_itself_rule-fits : FitsSteps difference_with_itself_rule
difference_with_itself_rule-fits nodes (fact.Bnd x i ∷ []) (slot.Bnd e) f o q = (
  omega arith,
  λ v. absurd (only_never (is_at nodes e (node.Sub x x)) (fact.Bnd e (point_of zero_ℚ))
      (λ w. cc) (q ∙ ap Some v)),
)
difference_with_itself_rule-fits nodes _ _ f o q = cc

pub square_rule-fits : FitsSteps square_rule
square_rule-fits nodes (fact.Abs x s ∷ []) (slot.Bnd e) f o q = (
  omega arith,
  λ v. absurd (only_never (is_at nodes e (node.Mul x x))
      (fact.Bnd e (product_of s.interval s.interval)) (λ w. cc) (q ∙ ap Some v)),
)
square_rule-fits nodes _ _ f o q = cc

pub quotient_rule-fits : FitsSteps quotient_rule
quotient_rule-fits nodes (fact.Bnd x i ∷ fact.Bnd y j ∷ []) (slot.Bnd e) f o q = (
  omega arith,
  λ v. absurd (given_never (is_at nodes e (node.Div x y)) (bnd_of e (quotient_of i j))
      (bnd_never e (quotient_of i j)) (q ∙ ap Some v)),
)
quotient_rule-fits nodes _ _ f o q = cc

pub quotient_by_nonzero_rule-fits : FitsSteps quotient_by_nonzero_rule
quotient_by_nonzero_rule-fits nodes (fact.Bnd x i ∷ fact.Nzr y ∷ []) (slot.Bnd e) f o q = (
  omega arith,
  λ v. absurd (only_never (is_at nodes e (node.Div x y)) (fact.Bnd e whole_interval)
      (λ w. cc) (q ∙ ap Some v)),
)
quotient_by_nonzero_rule-fits nodes _ _ f o q = cc

pub quotient_by_itself_rule-fits : FitsSteps quotient_by_itself_rule
quotient_by_itself_rule-fits nodes (fact.Nzr x ∷ []) (slot.Bnd e) f o q = (
  omega arith,
  λ v. absurd (only_never (is_at nodes e (node.Div x x)) (fact.Bnd e (point_of one_ℚ))
      (λ w. cc) (q ∙ ap Some v)),
)
quotient_by_itself_rule-fits nodes _ _ f o q = cc

pub size_rule-fits : FitsSteps size_rule
size_rule-fits nodes (fact.Bnd x i ∷ []) (slot.Abs e) f o q = (
  omega arith,
  λ v. absurd (given_never (is_one nodes x e) (abs_of e (size_within (size_of i)))
      (abs_never e (size_within (size_of i))) (q ∙ ap Some v)),
)
size_rule-fits nodes _ _ f o q = cc

pub value_rule-fits : FitsSteps value_rule
value_rule-fits nodes (fact.Abs x s ∷ []) (slot.Bnd e) f o q = (
  omega arith,
  λ v. absurd (given_never (is_one nodes x e) (bnd_of e (around s))
      (bnd_never e (around s)) (q ∙ ap Some v)),
)
value_rule-fits nodes _ _ f o q = cc

signed_void : (e : ExprId) (s : Size) (a b : Bool)
    → signed_fact e s a b ≡ Some fact.Void → (a && b) ≡ true
signed_void e s true true q = refl
signed_void e s true false q = cc
signed_void e s false true q = cc
signed_void e s false false q = cc

pub sign_rule-fits : FitsSteps sign_rule
sign_rule-fits nodes (fact.Bnd x i ∷ fact.Abs y s ∷ []) (slot.Bnd e) f o q = (
  omega arith,
  λ v.
      let here = q ∙ ap Some v in
      let g = given (is_one nodes x y && is_same x e)
      (signed_fact e s (is_above i s) (is_below i s)) fact.Void here in
      let a : is_one nodes x y ≡ true = (and_parts (is_one nodes x y) (is_same x e) g.0).0 in
      let b : (is_above i s && is_below i s) ≡ true =
      signed_void e s (is_above i s) (is_below i s) g.1 in
      only_void (is_one nodes x y && (is_above i s && is_below i s))
      (and_from (is_one nodes x y) (is_above i s && is_below i s) a b),
)
sign_rule-fits nodes (fact.Bnd x i ∷ fact.Abs y s ∷ []) slot.Void f o q =
    (omega arith, λ v. q ∙ ap Some v)
sign_rule-fits nodes _ _ f o q = cc

pub absolute_value_rule-fits : FitsSteps absolute_value_rule
absolute_value_rule-fits nodes (fact.Abs x s ∷ []) (slot.Bnd e) f o q = (
  omega arith,
  λ v. absurd (only_never (is_at nodes e (node.Abs x)) (fact.Bnd e s.interval)
      (λ w. cc) (q ∙ ap Some v)),
)
absolute_value_rule-fits nodes _ _ f o q = cc

value_is : (o : Option Node) (e : ExprId) → o ≡ Some (node.Abs e) → is_absolute_value o ≡ true
value_is o e q = rw q refl

none_left : (e : ExprId) (o : Option Size) → abs_or_void e o ≡ fact.Void
    → void_if_none o ≡ Some fact.Void
none_left e (Some s) q = cc
none_left e None q = refl

pub size_of_value_rule-fits : FitsSteps size_of_value_rule
size_of_value_rule-fits nodes (fact.Bnd y i ∷ []) (slot.Abs e) f o q = (
  omega arith,
  λ v.
      let here = q ∙ ap Some v in
      let g = only_given (is_at nodes y (node.Abs e)) (abs_or_void e (size_within i)) here in
      given_both (is_absolute_value (slice_get nodes y.0)) (void_if_none (size_within i)) fact.Void
      (value_is (slice_get nodes y.0) e (is_at_out nodes y (node.Abs e) g.0))
      (none_left e (size_within i) g.1),
)
size_of_value_rule-fits nodes (fact.Bnd y i ∷ []) slot.Void f o q =
    (omega arith, λ v. q ∙ ap Some v)
size_of_value_rule-fits nodes _ _ f o q = cc

pub size_of_negation_rule-fits : FitsSteps size_of_negation_rule
size_of_negation_rule-fits nodes (fact.Abs a s ∷ []) (slot.Abs e) f o q = (
  omega arith,
  λ v. absurd (only_never (is_at nodes e (node.Neg a)) (fact.Abs e s) (λ w. cc) (q ∙ ap Some v)),
)
size_of_negation_rule-fits nodes _ _ f o q = cc

pub size_of_product_rule-fits : FitsSteps size_of_product_rule
size_of_product_rule-fits nodes (fact.Abs a s ∷ fact.Abs b t ∷ []) (slot.Abs e) f o q = (
  omega arith,
  λ v. absurd (given_never (is_at nodes e (node.Mul a b))
      (abs_of e (size_within (product_of s.interval t.interval)))
      (abs_never e (size_within (product_of s.interval t.interval))) (q ∙ ap Some v)),
)
size_of_product_rule-fits nodes _ _ f o q = cc

pub size_of_quotient_rule-fits : FitsSteps size_of_quotient_rule
size_of_quotient_rule-fits nodes (fact.Abs a s ∷ fact.Abs b t ∷ []) (slot.Abs e) f o q = (
  omega arith,
  λ v. absurd (given_never (is_at nodes e (node.Div a b))
      (abs_of e (size_within_part (quotient_of s.interval t.interval)))
      (abs_never e (size_within_part (quotient_of s.interval t.interval))) (q ∙ ap Some v)),
)
size_of_quotient_rule-fits nodes _ _ f o q = cc

pub size_of_sum_rule-fits : FitsSteps size_of_sum_rule
size_of_sum_rule-fits nodes (fact.Abs a s ∷ fact.Abs b t ∷ []) (slot.Abs e) f o q = (
  omega arith,
  λ v. absurd (given_never (is_at nodes e (node.Add a b) || is_at nodes e (node.Sub a b))
      (abs_of e (size_of_sum s.interval t.interval))
      (abs_never e (size_of_sum s.interval t.interval)) (q ∙ ap Some v)),
)
size_of_sum_rule-fits nodes _ _ f o q = cc
