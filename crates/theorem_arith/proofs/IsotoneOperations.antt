-- The rules on absolute values of operations: from stronger premises they give a fact as strong, or
-- stronger.
use Rattle.std.specs.Prelude.{◌≡◌, ◌≢◌, ◌||◌, [], ◌∷◌, Option, Some, None, refl}
use Rattle.std.proofs.Common.{sym, ap, subst, ◌∙◌}
use Rattle.fx_model.specs.Fraction.{Fraction, ◌+ℚ◌, ◌-ℚ◌, ◌*ℚ◌, ◌/ℚ◌, ◌≤ℚ◌, zero_ℚ, neg_ℚ, abs_ℚ}
use Rattle.fx_model.specs.Fraction.{abs-from, le_refl, le_trans, add-le-add, zero-add, add_comm}
use Rattle.fx_model.specs.Fraction.{neg_down}
use Rattle.fx_model.specs.Enclosure.{Lies, IsFrom, IsUpTo, BoundLe, Sums, Differences, in_enclosure}
use Rattle.fx_model.specs.Enclosure.{product_holds, ordered_by, higher_from}
use Rattle.fx_model.specs.declared.Node.TheVariants as node
use Rattle.grid_words.proofs.AbsoluteValues.{abs-not_negative, abs-div, product_up}
use Rattle.grid_words.specs.Products.{quotient_holds}
use Rattle.dyadic.specs.Ends.{bound_of}
use Rattle.dyadic.specs.Extremes.{BoundLe-refl, greater_end}
use Rattle.interval.specs.declared.interval.Interval.{Interval}
use Rattle.interval.specs.Ends.{AreEnds}
use Rattle.interval.specs.Intervals.{range_of}
use Rattle.interval.specs.Meets.{interval_from, interval_from_out}
use Rattle.interval.proofs.Meets.{from_greater}
use Rattle.interval.specs.Results.{sum_of, sum_of-is, difference_of, difference_of-is, product_of}
use Rattle.interval.specs.Results.{product_of-is, quotient_of, quotient_of-is, half_line}
use Rattle.interval.proofs.Monotone.{greater_end-rises, interval_from-within, sum_of-within}
use Rattle.interval.proofs.Monotone.{difference_of-within, product_of-within, quotient_of-within}
use Rattle.expr_dag.specs.Shapes.{is_at}
use Rattle.facts.specs.declared.size.Size.{Size}
use Rattle.facts.specs.declared.fact.Fact.TheVariants as fact
use Rattle.facts.specs.declared.fact.Slot.TheVariants as slot
use Rattle.facts.specs.Order.{IsWithin}
use Rattle.facts.specs.Parts.{size_within}
use Rattle.facts.proofs.SizesWithin.{size_member, size_within-smaller}
use Rattle.facts.specs.Promises.{IsIsotone}
use Rattle.facts.specs.Premises.{Gives}
use Rattle.facts.proofs.Premises.{one_abs, two_abs}
use Rattle.facts.specs.Conclusions.{abs_of}
use Rattle.facts.proofs.Conclusions.{improves_abs, improves_given, improves_only}
use Rattle.facts.proofs.Within.{on_half_line}
use Rattle.theorem_arith.specs.Sizes.{size_of_negation_rule, size_of_product_rule, size_within_part}
use Rattle.theorem_arith.specs.Sizes.{size_of_quotient_rule, least_size, size_of_sum}
use Rattle.theorem_arith.specs.Sizes.{size_of_sum_rule}

pub size_of_negation_rule-isotone : IsIsotone size_of_negation_rule
size_of_negation_rule-isotone nodes (fact.Abs x i ∷ []) (slot.Abs e) ps c s q =
    let a = one_abs ps x i s in
    subst (λ l. Gives (size_of_negation_rule nodes l (slot.Abs e)) c) (sym a.1)
    (improves_only (is_at nodes e (node.Neg x)) (fact.Abs e i) (fact.Abs e a.0) (refl, a.2) c q)
size_of_negation_rule-isotone nodes _ _ ps c s q = cc

-- ---- products
product_smaller : (i j k l : Size) (s : Size) → IsWithin i.interval k.interval
    → IsWithin j.interval l.interval → size_within (product_of k.interval l.interval) ≡ Some s
    → (t : Size) × (size_within (product_of i.interval j.interval) ≡ Some t)
    × IsWithin t.interval s.interval
product_smaller i j k l s v w e =
    let m = size_member i in let n = size_member j in
    let p : Interval = product_of i.interval j.interval in
    size_within-smaller p (product_of k.interval l.interval) s (m.0 *ℚ n.0)
    (product_of-within i.interval j.interval k.interval l.interval v w)
    (product_holds (range_of i.interval) (range_of j.interval) (range_of p) m.0 n.0
    (product_of-is i.interval j.interval) m.1 n.1) (product_up m.0 n.0 m.2 n.2) e

pub size_of_product_rule-isotone : IsIsotone size_of_product_rule
size_of_product_rule-isotone nodes (fact.Abs x i ∷ fact.Abs y j ∷ []) (slot.Abs e) ps c s q =
    let a = two_abs ps x i y j s in
    subst (λ l. Gives (size_of_product_rule nodes l (slot.Abs e)) c) (sym a.2)
    (improves_given (is_at nodes e (node.Mul x y))
    (abs_of e (size_within (product_of i.interval j.interval)))
    (abs_of e (size_within (product_of a.0.interval a.1.interval)))
    (improves_abs e (size_within (product_of i.interval j.interval)) (size_within
    (product_of a.0.interval a.1.interval)) (λ t h. product_smaller a.0 a.1 i j t a.3 a.4 h)) c q)
size_of_product_rule-isotone nodes _ _ ps c s q = cc

-- ---- quotients
size_of_quotient_out : (o : Option Interval) (s : Size) → size_within_part o ≡ Some s
    → (k : Interval) × (o ≡ Some k) × (size_within k ≡ Some s)
size_of_quotient_out None s e = cc
size_of_quotient_out (Some k) s e = (k, refl, e)

quotient_not_negative : (x y : Fraction) → y ≢ zero_ℚ → zero_ℚ ≤ℚ x
    → zero_ℚ ≤ℚ y → zero_ℚ ≤ℚ (x /ℚ y)
quotient_not_negative x y n p q =
    subst (λ z. zero_ℚ ≤ℚ z) (abs-div x y n ∙ ap (λ z. z /ℚ abs_ℚ y) (abs-from x p)
    ∙ ap (λ z. x /ℚ z) (abs-from y q)) (abs-not_negative (x /ℚ y))

quotient_smaller : (i j k l : Size) (s : Size) → IsWithin i.interval k.interval
    → IsWithin j.interval l.interval → size_within_part (quotient_of k.interval l.interval) ≡ Some s
    → (t : Size) × (size_within_part (quotient_of i.interval j.interval) ≡ Some t)
    × IsWithin t.interval s.interval
quotient_smaller i j k l s v w e =
    let m = size_member i in let n = size_member j in
    let o = size_of_quotient_out (quotient_of k.interval l.interval) s e in
    let h = quotient_of-within i.interval j.interval k.interval l.interval o.0 v w o.1 in
    let r = quotient_of-is i.interval j.interval h.0 h.1 in
    let t = size_within-smaller h.0 o.0 s (m.0 /ℚ n.0) h.2
    (quotient_holds (range_of i.interval) (range_of j.interval) (range_of h.0) m.0 n.0 r m.1 n.1)
    (quotient_not_negative m.0 n.0
    (λ z. r.nonzero (subst (Lies (range_of j.interval)) z n.1)) m.2 n.2) o.2 in
    (t.0, ap size_within_part h.1 ∙ t.1, t.2)

pub size_of_quotient_rule-isotone : IsIsotone size_of_quotient_rule
size_of_quotient_rule-isotone nodes (fact.Abs x i ∷ fact.Abs y j ∷ []) (slot.Abs e) ps c s q =
    let a = two_abs ps x i y j s in
    subst (λ l. Gives (size_of_quotient_rule nodes l (slot.Abs e)) c) (sym a.2)
    (improves_given (is_at nodes e (node.Div x y))
    (abs_of e (size_within_part (quotient_of i.interval j.interval)))
    (abs_of e (size_within_part (quotient_of a.0.interval a.1.interval)))
    (improves_abs e (size_within_part (quotient_of i.interval j.interval)) (size_within_part
    (quotient_of a.0.interval a.1.interval)) (λ t h. quotient_smaller a.0 a.1 i j t a.3 a.4 h)) c q)
size_of_quotient_rule-isotone nodes _ _ ps c s q = cc

-- ---- sums and differences: the sum of two members lies between the ends
difference_below_sum : (x y : Fraction) → zero_ℚ ≤ℚ y → (x -ℚ y) ≤ℚ (x +ℚ y)
difference_below_sum x y p =
    add-le-add x (neg_ℚ y) x y (le_refl x) (le_trans (neg_ℚ y) zero_ℚ y (neg_down y p) p)

sum_not_negative : (x y : Fraction) → zero_ℚ ≤ℚ x → zero_ℚ ≤ℚ y → zero_ℚ ≤ℚ (x +ℚ y)
sum_not_negative x y p q =
    subst (λ z. z ≤ℚ (x +ℚ y)) (zero-add zero_ℚ) (add-le-add zero_ℚ zero_ℚ x y p q)

-- a sum of members is at least the least, and at most the sum of the upper ends
sum_between : (i j : Size)
    → (x : Fraction) × (zero_ℚ ≤ℚ x) × IsFrom (bound_of (least_size i.interval j.interval)) x
    × Lies (range_of (sum_of i.interval j.interval)) x
sum_between i j =
    let m = size_member i in let n = size_member j in
    let r = range_of i.interval in let s = range_of j.interval in
    let z : Fraction = m.0 +ℚ n.0 in
    let p : zero_ℚ ≤ℚ z = sum_not_negative m.0 n.0 m.2 n.2 in
    let d = in_enclosure (Differences r s) (range_of (difference_of i.interval j.interval))
    (m.0 -ℚ n.0) (difference_of-is i.interval j.interval) (m.0, n.0, m.1, n.1, refl) in
    let f = in_enclosure (Differences s r) (range_of (difference_of j.interval i.interval))
    (n.0 -ℚ m.0) (difference_of-is j.interval i.interval) (n.0, m.0, n.1, m.1, refl) in
    let a : IsFrom (bound_of (difference_of i.interval j.interval).lo) z =
    higher_from (bound_of (difference_of i.interval j.interval).lo) z (m.0 -ℚ n.0)
    (difference_below_sum m.0 n.0 n.2) d.0 in
    let b : IsFrom (bound_of (difference_of j.interval i.interval).lo) z =
    higher_from (bound_of (difference_of j.interval i.interval).lo) z (n.0 -ℚ m.0)
    (subst (λ y. (n.0 -ℚ m.0) ≤ℚ y) (add_comm n.0 m.0) (difference_below_sum n.0 m.0 m.2)) f.0 in (
      z,
      p,
      from_greater (greater_end half_line.lo (difference_of i.interval j.interval).lo)
          (difference_of j.interval i.interval).lo z (from_greater half_line.lo
          (difference_of i.interval j.interval).lo z (on_half_line z p).0 a) b,
      in_enclosure (Sums r s) (range_of (sum_of i.interval j.interval)) z
          (sum_of-is i.interval j.interval) (m.0, n.0, m.1, n.1, refl),
    )

least_size-rises : (i j k l : Interval) → IsWithin i k → IsWithin j l
    → BoundLe (bound_of (least_size k l)) (bound_of (least_size i j))
least_size-rises i j k l v w = greater_end-rises (greater_end half_line.lo (difference_of k l).lo)
    (difference_of l k).lo (greater_end half_line.lo (difference_of i j).lo) (difference_of j i).lo
    (greater_end-rises half_line.lo (difference_of k l).lo half_line.lo (difference_of i j).lo
    (BoundLe-refl (bound_of half_line.lo)) (difference_of-within i j k l v w).0)
    (difference_of-within j i l k w v).0

sum_smaller : (i j k l : Size) (s : Size) → IsWithin i.interval k.interval
    → IsWithin j.interval l.interval → size_of_sum k.interval l.interval ≡ Some s
    → (t : Size) × (size_of_sum i.interval j.interval ≡ Some t) × IsWithin t.interval s.interval
sum_smaller i j k l s v w e =
    let o = size_of_quotient_out (interval_from (least_size k.interval l.interval)
    (sum_of k.interval l.interval).hi) s e in
    let lo = least_size i.interval j.interval in let hi = (sum_of i.interval j.interval).hi in
    let m = sum_between i j in
    let ends : AreEnds lo hi = ordered_by (bound_of lo) (bound_of hi) m.0 m.2 m.3.1 in
    let h = interval_from-within lo hi (least_size k.interval l.interval)
    (sum_of k.interval l.interval).hi o.0
    (least_size-rises i.interval j.interval k.interval l.interval v w)
    (sum_of-within i.interval j.interval k.interval l.interval v w).1 ends o.1 in
    let a = interval_from_out lo hi h.0 h.1 in
    let inside : Lies (range_of h.0) m.0 = (
      subst (λ b. IsFrom (bound_of b) m.0) (sym a.0) m.2,
      subst (λ b. IsUpTo (bound_of b) m.0) (sym a.1) m.3.1,
    ) in
    let t = size_within-smaller h.0 o.0 s m.0 h.2 inside m.1 o.2 in
    (t.0, ap size_within_part h.1 ∙ t.1, t.2)

pub size_of_sum_rule-isotone : IsIsotone size_of_sum_rule
size_of_sum_rule-isotone nodes (fact.Abs x i ∷ fact.Abs y j ∷ []) (slot.Abs e) ps c s q =
    let a = two_abs ps x i y j s in
    subst (λ l. Gives (size_of_sum_rule nodes l (slot.Abs e)) c) (sym a.2)
    (improves_given (is_at nodes e (node.Add x y) || is_at nodes e (node.Sub x y)) (abs_of e
    (size_of_sum i.interval j.interval)) (abs_of e (size_of_sum a.0.interval a.1.interval))
    (improves_abs e (size_of_sum i.interval j.interval) (size_of_sum a.0.interval a.1.interval)
    (λ t h. sum_smaller a.0 a.1 i j t a.3 a.4 h)) c q)
size_of_sum_rule-isotone nodes _ _ ps c s q = cc
