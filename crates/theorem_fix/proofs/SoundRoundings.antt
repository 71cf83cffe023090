-- The rules on roundings are sound: where the premises hold, the conclusion does.
use Rattle.std.specs.Prelude.{◌≡◌, ℤ, List, [], ◌∷◌, Bool, true, false, Option, Some, None}
use Rattle.std.specs.Prelude.{slice_get, refl}
use Rattle.std.specs.Option.{IsSomeAnd}
use Rattle.std.proofs.Common.{sym, ap, subst, ◌∙◌}
use Rattle.fx_model.specs.Fraction.{Fraction, ◌-ℚ◌, ◌≤ℚ◌, zero_ℚ, le_trans, le_antisymm}
use Rattle.fx_model.specs.Powers.{IsMultiple}
use Rattle.fx_model.specs.Grid.{Bound, Below, At, Above, le_bound}
use Rattle.fx_model.specs.Enclosure.{Range, IsFrom, IsUpTo, Lies}
use Rattle.fx_model.specs.Expression.{Assignment, IsOrdered, value, lift₁, lift₂}
use Rattle.fx_model.specs.Rounded.{rounded}
use Rattle.fx_model.specs.declared.ExprId.{ExprId}
use Rattle.fx_model.specs.declared.Rounding.{Rounding}
use Rattle.fx_model.specs.declared.Node.{Node}
use Rattle.fx_model.specs.declared.Node.TheVariants as node
use Rattle.dyadic.specs.Compared.{BoundLe_in}
use Rattle.interval.specs.declared.interval.Interval.{Interval}
use Rattle.interval.specs.Intervals.{range_of}
use Rattle.interval.proofs.Outward.{outward_of_lies}
use Rattle.rounding.specs.declared.sign.Sign.{Sign}
use Rattle.rounding.specs.declared.sign.Sign.TheVariants.{Unknown, NotNegative, NotPositive, Zero}
use Rattle.rounding.proofs.Rounded.{rounded-le}
use Rattle.rounding.specs.Errors.{HasSign, HasPlace, error_range}
use Rattle.rounding.proofs.ErrorLaws.{error_lies}
use Rattle.expr_dag.proofs.Shapes.{node_at-value}
use Rattle.expr_dag.proofs.Lifted.{lifted₁}
use Rattle.facts.specs.declared.fact.Fact.TheVariants as fact
use Rattle.facts.specs.declared.fact.Slot.TheVariants as slot
use Rattle.facts.proofs.Held.{some-and}
use Rattle.facts.proofs.CommonParts.{if-some, expr_same}
use Rattle.facts.specs.Order.{is_same}
use Rattle.facts.specs.Promises.{IsSound}
use Rattle.facts.proofs.Conclusions.{given}
use Rattle.theorem_arith.proofs.Sound.{bnd_given}
use Rattle.theorem_fix.specs.Shapes.{rounding_at, error_rounding_of, error_rounding_at}
use Rattle.theorem_fix.proofs.SoundMultiples.{at_rounding, rounding_of_out}
use Rattle.theorem_fix.specs.Roundings.{rounded_end, rounded_range, rounded_interval}
use Rattle.theorem_fix.specs.Roundings.{rounded_bound_rule, errors_of, error_rule, sign_by, sign_of}
use Rattle.theorem_fix.specs.Roundings.{is_sided, sided, signed_errors_of, signed_error_rule}
use Rattle.theorem_fix.specs.Roundings.{multiple_error_rule}

-- ---- rounded values
rounded_from : (r : Rounding) (b : Bound) (x : Fraction) → IsFrom b x
    → IsFrom (rounded_end r b) (rounded r.dir r.lsb x)
rounded_from r Below x l = tt
rounded_from r (At g) x l = rounded-le r.dir r.lsb g x l
rounded_from r Above x l = l

rounded_up_to : (r : Rounding) (b : Bound) (x : Fraction) → IsUpTo b x
    → IsUpTo (rounded_end r b) (rounded r.dir r.lsb x)
rounded_up_to r Below x l = l
rounded_up_to r (At g) x l = rounded-le r.dir r.lsb x g l
rounded_up_to r Above x l = tt

-- the rounding, and the interval of the rounded values
rounded_known : (o : Option Rounding) (i j : Interval)
    → rounded_interval o i ≡ Some j → (r : Rounding) × (o ≡ Some r)
    × ((x : Fraction) → Lies (range_of i) x → Lies (range_of j) (rounded r.dir r.lsb x))
rounded_known None i j e = cc
rounded_known (Some r) i j e = (
  r,
  refl,
  λ x l. outward_of_lies (rounded_range r (range_of i)) j (rounded r.dir r.lsb x) e
      (rounded_from r (range_of i).low x l.0, rounded_up_to r (range_of i).high x l.1),
)

pub rounded_bound_rule-sound : IsSound rounded_bound_rule
rounded_bound_rule-sound nodes (fact.Bnd x i ∷ []) (slot.Bnd e) f o q = λ a h.
    bnd_given nodes a e (rounded_interval (rounding_at nodes e x) i) f q
    (λ j s. let r = rounded_known (rounding_at nodes e x) i j s in
    at_rounding nodes a e x r.0 (Lies (range_of j)) o r.1
    (lifted₁ (rounded r.0.dir r.0.lsb) (value nodes a x) (Lies (range_of i))
    (Lies (range_of j)) r.2 h.0))
rounded_bound_rule-sound nodes _ _ f o q = cc

-- ---- errors
-- the parts of R(x) - x
record IsErrorAt (nodes : List Node) (e x : ExprId) (r : Rounding) : Type 0 where
  rounded_at : ExprId
  difference : slice_get nodes e.0 ≡ Some (node.Sub rounded_at x)
  rounding : slice_get nodes rounded_at.0 ≡ Some (node.Round r x)

error_out : (nodes : List Node) (e x : ExprId) (n : Option Node) (r : Rounding)
    → slice_get nodes e.0 ≡ n → error_rounding_of nodes n x ≡ Some r → IsErrorAt nodes e x r
error_out nodes e x (Some (node.Sub m y)) r s q =
    let t = given (is_same y x) (rounding_at nodes m x) r q in
    record {
      rounded_at = m;
      difference = s ∙ ap (λ z. Some (node.Sub m z)) (expr_same y x t.0);
      rounding = rounding_of_out (slice_get nodes m.0) x r t.1;
    }
error_out nodes e x _ r s q = cc

lifted_error : (f : Fraction → Fraction) (u : Option Fraction) (P : Fraction → Type 0)
    → IsSomeAnd u (λ v. P (f v -ℚ v)) → IsSomeAnd (lift₂ ◌-ℚ◌ (lift₁ f u) u) P
lifted_error f None P h = h
lifted_error f (Some v) P h = h

-- what is known of the value of R(x) - x
at_error : (nodes : List Node) (a : Assignment) (e x : ExprId) (r : Rounding)
    (P : Fraction → Type 0) → IsOrdered nodes → error_rounding_at nodes e x ≡ Some r
    → IsSomeAnd (value nodes a x) (λ v. P (rounded r.dir r.lsb v -ℚ v))
    → IsSomeAnd (value nodes a e) P
at_error nodes a e x r P o s h =
    let t = error_out nodes e x (slice_get nodes e.0) r refl s in
    subst (λ v. IsSomeAnd v P)
    (sym (node_at-value nodes a e (node.Sub t.rounded_at x) o t.difference))
    (subst (λ v. IsSomeAnd (lift₂ ◌-ℚ◌ v (value nodes a x)) P)
    (sym (node_at-value nodes a t.rounded_at (node.Round r x) o t.rounding))
    (lifted_error (rounded r.dir r.lsb) (value nodes a x) P h))

-- the rounding, and the interval of its errors
errors_known : (o : Option Rounding) (s : Sign) (p : Option ℤ) (j : Interval)
    → errors_of o s p ≡ Some j
    → (r : Rounding) × (o ≡ Some r)
    × ((x : Fraction) → HasSign s x → HasPlace p x → Lies (range_of j) (rounded r.dir r.lsb x -ℚ x))
errors_known None s p j e = cc
errors_known (Some r) s p j e = (
  r,
  refl,
  λ x m n. outward_of_lies (error_range r.dir r.lsb s p) j (rounded r.dir r.lsb x -ℚ x) e
      (error_lies r.dir r.lsb s p x m n),
)

pub error_rule-sound : IsSound error_rule
error_rule-sound nodes (fact.Bnd x i ∷ []) (slot.Bnd e) f o q = λ a h.
    bnd_given nodes a e (errors_of (error_rounding_at nodes e x) Unknown None) f q
    (λ j s. let r = errors_known (error_rounding_at nodes e x) Unknown None j s in
    at_error nodes a e x r.0 (Lies (range_of j)) o r.1
    (some-and (value nodes a x) (Lies (range_of i))
    (λ v. Lies (range_of j) (rounded r.0.dir r.0.lsb v -ℚ v)) (λ v l. r.2 v tt tt) h.0))
error_rule-sound nodes _ _ f o q = cc

-- a number in an interval has the sign that the interval tells
from_zero : (b : Bound) (x : Fraction) → le_bound (At zero_ℚ) b ≡ true → IsFrom b x → zero_ℚ ≤ℚ x
from_zero Below x e l = cc
from_zero (At g) x e l = le_trans zero_ℚ g x (BoundLe_in (At zero_ℚ) (At g) e) l
from_zero Above x e l = absurd l

up_to_zero : (b : Bound) (x : Fraction) → le_bound b (At zero_ℚ) ≡ true → IsUpTo b x → x ≤ℚ zero_ℚ
up_to_zero Below x e l = absurd l
up_to_zero (At g) x e l = le_trans x g zero_ℚ l (BoundLe_in (At g) (At zero_ℚ) e)
up_to_zero Above x e l = cc

has_sign : (r : Range) (x : Fraction) → Lies r x → HasSign (sign_of r) x
has_sign r x l = by (le_bound (At zero_ℚ) r.low) (le_bound r.high (At zero_ℚ)) refl refl
  where
    by : (b c : Bool) → le_bound (At zero_ℚ) r.low ≡ b → le_bound r.high (At zero_ℚ) ≡ c
        → HasSign (sign_by b c) x
    by true true e f = le_antisymm x zero_ℚ (up_to_zero r.high x f l.1) (from_zero r.low x e l.0)
    by true false e f = from_zero r.low x e l.0
    by false true e f = up_to_zero r.high x f l.1
    by false false e f = tt

sided_out : (o : Option Rounding) (r : Rounding) → sided o ≡ Some r → o ≡ Some r
sided_out None r e = cc
sided_out (Some s) r e = ap Some (if-some (is_sided s.dir) s r e).1

signed_known : (o : Option Rounding) (s : Sign) (j : Interval)
    → signed_errors_of o s ≡ Some j → (r : Rounding) × (o ≡ Some r)
    × ((x : Fraction) → HasSign s x → Lies (range_of j) (rounded r.dir r.lsb x -ℚ x))
signed_known o Unknown j e = cc
signed_known o NotNegative j e = let r = errors_known (sided o) NotNegative None j e in
    (r.0, sided_out o r.0 r.1, λ x m. r.2 x m tt)
signed_known o NotPositive j e = let r = errors_known (sided o) NotPositive None j e in
    (r.0, sided_out o r.0 r.1, λ x m. r.2 x m tt)
signed_known o Zero j e = let r = errors_known (sided o) Zero None j e in
    (r.0, sided_out o r.0 r.1, λ x m. r.2 x m tt)

pub signed_error_rule-sound : IsSound signed_error_rule
signed_error_rule-sound nodes (fact.Bnd x i ∷ []) (slot.Bnd e) f o q = λ a h.
    bnd_given nodes a e (signed_errors_of (error_rounding_at nodes e x) (sign_of (range_of i))) f q
    (λ j s. let r = signed_known (error_rounding_at nodes e x) (sign_of (range_of i)) j s in
    at_error nodes a e x r.0 (Lies (range_of j)) o r.1
    (some-and (value nodes a x) (Lies (range_of i)) (λ v. Lies (range_of j)
    (rounded r.0.dir r.0.lsb v -ℚ v)) (λ v l. r.2 v (has_sign (range_of i) v l)) h.0))
signed_error_rule-sound nodes _ _ f o q = cc

pub multiple_error_rule-sound : IsSound multiple_error_rule
multiple_error_rule-sound nodes (fact.Fix x k ∷ []) (slot.Bnd e) f o q = λ a h.
    bnd_given nodes a e (errors_of (error_rounding_at nodes e x) Unknown (Some k.exponent)) f q
    (λ j s. let r = errors_known (error_rounding_at nodes e x) Unknown (Some k.exponent) j s in
    at_error nodes a e x r.0 (Lies (range_of j)) o r.1
    (some-and (value nodes a x) (IsMultiple k.exponent)
    (λ v. Lies (range_of j) (rounded r.0.dir r.0.lsb v -ℚ v)) (λ v m. r.2 v tt m) h.0))
multiple_error_rule-sound nodes _ _ f o q = cc
