-- The rules on roundings: from stronger premises they give a fact as strong, or stronger.
use Rattle.std.specs.Prelude.{◌≡◌, ℤ, ◌≤ℤ◌, [], ◌∷◌, Bool, true, false, Option, Some, None, refl}
use Rattle.std.proofs.Common.{sym, subst}
use Rattle.fx_model.specs.Fraction.{zero_ℚ}
use Rattle.fx_model.specs.Grid.{Bound, At, le_bound}
use Rattle.fx_model.specs.Enclosure.{BoundLe, within_in}
use Rattle.fx_model.specs.declared.Rounding.{Rounding}
use Rattle.dyadic.specs.Compared.{BoundLe_in, BoundLe_out}
use Rattle.dyadic.proofs.Extremes.{BoundLe-trans}
use Rattle.dyadic.specs.Extremes.{BoundLe-refl}
use Rattle.interval.specs.declared.interval.Interval.{Interval}
use Rattle.interval.specs.Intervals.{range_of}
use Rattle.interval.proofs.Outward.{outward_of-within}
use Rattle.rounding.specs.declared.sign.Sign.{Sign}
use Rattle.rounding.specs.declared.sign.Sign.TheVariants.{Unknown, NotNegative, NotPositive, Zero}
use Rattle.rounding.specs.Errors.{error_range}
use Rattle.facts.specs.declared.fact.Fact.TheVariants as fact
use Rattle.facts.specs.declared.fact.Slot.TheVariants as slot
use Rattle.facts.specs.Order.{IsWithin}
use Rattle.facts.proofs.Laws.{IsStronger-refl}
use Rattle.facts.specs.Promises.{IsIsotone}
use Rattle.facts.specs.Premises.{Gives}
use Rattle.facts.proofs.Premises.{one_bnd, one_fix}
use Rattle.facts.proofs.Conclusions.{improves_bnd}
use Rattle.theorem_fix.specs.Shapes.{rounding_at, error_rounding_at}
use Rattle.theorem_fix.proofs.Ranges.{rounded_range_ordered, rounded_range-within}
use Rattle.theorem_fix.proofs.Ranges.{error_range_ordered, zero_errors, multiple_errors-falls}
use Rattle.theorem_fix.specs.Roundings.{rounded_range, rounded_interval, rounded_bound_rule}
use Rattle.theorem_fix.specs.Roundings.{errors_of, error_rule, sign_by, sign_of, sided}
use Rattle.theorem_fix.specs.Roundings.{signed_errors_of, signed_error_rule, multiple_error_rule}

-- the second is there where the first is, and lies within it
abbrev Narrows : Option Interval → Option Interval → Type 0
Narrows u v = (i : Interval) → u ≡ Some i → (j : Interval) × (v ≡ Some j) × IsWithin j i

narrows-refl : (u : Option Interval) → Narrows u u
narrows-refl u i e = (i, e, (BoundLe-refl (range_of i).low, BoundLe-refl (range_of i).high))

-- ---- rounded values
rounded_narrows : (o : Option Rounding) (i j : Interval) → IsWithin j i
    → Narrows (rounded_interval o i) (rounded_interval o j)
rounded_narrows None i j w c e = cc
rounded_narrows (Some r) i j w c e = outward_of-within (rounded_range r (range_of i))
    (rounded_range r (range_of j)) c (rounded_range_ordered r (range_of i) i.ordered)
    (rounded_range_ordered r (range_of j) j.ordered)
    (λ x l. within_in (rounded_range r (range_of j))
    (rounded_range r (range_of i)) x (rounded_range-within r (range_of j) (range_of i) w) l) e

pub rounded_bound_rule-isotone : IsIsotone rounded_bound_rule
rounded_bound_rule-isotone nodes (fact.Bnd x i ∷ []) (slot.Bnd e) ps c s q =
    let a = one_bnd ps x i s in
    let r = rounding_at nodes e x in
    subst (λ l. Gives (rounded_bound_rule nodes l (slot.Bnd e)) c) (sym a.1)
    (improves_bnd e (rounded_interval r i) (rounded_interval r a.0)
    (rounded_narrows r i a.0 a.2) c q)
rounded_bound_rule-isotone nodes _ _ ps c s q = cc

-- ---- errors
pub error_rule-isotone : IsIsotone error_rule
error_rule-isotone nodes (fact.Bnd x i ∷ []) (slot.Bnd e) ps c s q =
    let a = one_bnd ps x i s in
    subst (λ l. Gives (error_rule nodes l (slot.Bnd e)) c) (sym a.1) (c, q, IsStronger-refl c)
error_rule-isotone nodes _ _ ps c s q = cc

-- by sign
zero_narrows : (o : Option Rounding) (s : Sign)
    → Narrows (errors_of o s None) (errors_of o Zero None)
zero_narrows None s c e = cc
zero_narrows (Some r) s c e =
    outward_of-within (error_range r.dir r.lsb s None) (error_range r.dir r.lsb Zero None) c
    (error_range_ordered r.dir r.lsb s None) (error_range_ordered r.dir r.lsb Zero None)
    (λ x l. zero_errors r.dir r.lsb s x l) e

signed_narrows : (o : Option Rounding) (b c d e : Bool)
    → (b ≡ true → d ≡ true) → (c ≡ true → e ≡ true)
    → Narrows (signed_errors_of o (sign_by b c)) (signed_errors_of o (sign_by d e))
signed_narrows o true true true true p q = narrows-refl (errors_of (sided o) Zero None)
signed_narrows o true false true true p q = zero_narrows (sided o) NotNegative
signed_narrows o true false true false p q = narrows-refl (errors_of (sided o) NotNegative None)
signed_narrows o false true true true p q = zero_narrows (sided o) NotPositive
signed_narrows o false true false true p q = narrows-refl (errors_of (sided o) NotPositive None)
signed_narrows o false false d e p q = λ i h. cc
signed_narrows o true c false e p q = λ i h. let f : false ≡ true = p refl in cc
signed_narrows o b true d false p q = λ i h. let f : false ≡ true = q refl in cc

low_stays : (b c : Bound) → BoundLe b c → le_bound (At zero_ℚ) b ≡ true
    → le_bound (At zero_ℚ) c ≡ true
low_stays b c l e =
    BoundLe_out (At zero_ℚ) c (BoundLe-trans (At zero_ℚ) b c (BoundLe_in (At zero_ℚ) b e) l)

high_stays : (b c : Bound) → BoundLe c b → le_bound b (At zero_ℚ) ≡ true
    → le_bound c (At zero_ℚ) ≡ true
high_stays b c l e =
    BoundLe_out c (At zero_ℚ) (BoundLe-trans c b (At zero_ℚ) l (BoundLe_in b (At zero_ℚ) e))

pub signed_error_rule-isotone : IsIsotone signed_error_rule
signed_error_rule-isotone nodes (fact.Bnd x i ∷ []) (slot.Bnd e) ps c s q =
    let a = one_bnd ps x i s in
    let o = error_rounding_at nodes e x in
    let r = range_of i in
    let t = range_of a.0 in
    subst (λ l. Gives (signed_error_rule nodes l (slot.Bnd e)) c) (sym a.1)
    (improves_bnd e (signed_errors_of o (sign_of r)) (signed_errors_of o (sign_of t))
    (signed_narrows o (le_bound (At zero_ℚ) r.low) (le_bound r.high (At zero_ℚ))
    (le_bound (At zero_ℚ) t.low) (le_bound t.high (At zero_ℚ)) (low_stays r.low t.low a.2.0)
    (high_stays r.high t.high a.2.1)) c q)
signed_error_rule-isotone nodes _ _ ps c s q = cc

-- by place
multiple_narrows : (o : Option Rounding) (k n : ℤ) → k ≤ℤ n
    → Narrows (errors_of o Unknown (Some k)) (errors_of o Unknown (Some n))
multiple_narrows None k n h c e = cc
multiple_narrows (Some r) k n h c e = outward_of-within (error_range r.dir r.lsb Unknown (Some k))
    (error_range r.dir r.lsb Unknown (Some n)) c
    (error_range_ordered r.dir r.lsb Unknown (Some k)) (error_range_ordered r.dir r.lsb Unknown
    (Some n)) (λ x l. multiple_errors-falls r.dir r.lsb k n x h l) e

pub multiple_error_rule-isotone : IsIsotone multiple_error_rule
multiple_error_rule-isotone nodes (fact.Fix x k ∷ []) (slot.Bnd e) ps c s q =
    let a = one_fix ps x k s in
    let o = error_rounding_at nodes e x in
    subst (λ l. Gives (multiple_error_rule nodes l (slot.Bnd e)) c) (sym a.1)
    (improves_bnd e (errors_of o Unknown (Some k.exponent))
    (errors_of o Unknown (Some a.0.exponent)) (multiple_narrows o k.exponent a.0.exponent a.2) c q)
multiple_error_rule-isotone nodes _ _ ps c s q = cc
