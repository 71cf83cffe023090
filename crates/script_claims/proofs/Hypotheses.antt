-- The fact of a claim holds where the claim is true.
use Rattle.std.specs.Prelude.{◌≡◌, ℤ, List, Option, Some, None, refl}
use Rattle.std.specs.Option.{IsSomeAnd}
use Rattle.std.proofs.Common.{sym, subst, ap, ◌∙◌, inl, inr}
use Rattle.fx_model.specs.Fraction.{Fraction, neg_ℚ, one_ℚ, ◌<ℚ◌, lt_le}
use Rattle.fx_model.specs.Powers.{IsMultiple}
use Rattle.fx_model.specs.Enclosure.{Range, Lies, IsOrdered, IsEnclosure, ordered_by, in_enclosure}
use Rattle.fx_model.specs.Expression.{Assignment, value}
use Rattle.fx_model.specs.declared.Node.{Node}
use Rattle.fx_model.specs.declared.ExprId.{ExprId}
use Rattle.dyadic.specs.Ends.{bound_of}
use Rattle.interval.specs.declared.interval.Interval.{Interval}
use Rattle.interval.specs.Intervals.{range_of}
use Rattle.interval.specs.Meets.{interval_from_out}
use Rattle.literal_order.specs.declared.written.Written.{Written}
use Rattle.literal_order.specs.Values.{written_value}
use Rattle.facts.specs.declared.relative.RelativeError.{RelativeError}
use Rattle.facts.specs.declared.place.FixPlace.{FixPlace}
use Rattle.facts.specs.declared.fact.Fact.{Fact}
use Rattle.facts.specs.RelativeConclusions.{rel_of}
use Rattle.facts.specs.declared.fact.Fact.TheVariants as fact
use Rattle.facts.specs.Parts.{error_from-some, error_from_out, error_of_part}
use Rattle.facts.specs.Ranges.{IsBelow}
use Rattle.facts.proofs.CommonParts.{some-inj}
use Rattle.facts.specs.Conclusions.{bnd_of, fix_of}
use Rattle.facts.specs.Holds.{IsRelated, Holds}
use Rattle.facts.proofs.Held.{some-and}
use Rattle.facts.specs.Places.{place_from, place_from-some, place_from_out}
use Rattle.script_bounds.specs.Bounds.{down_end, up_end, written_range, outward_of}
use Rattle.script_claims.specs.declared.claim.Claim.{Claim}
use Rattle.script_claims.specs.declared.claim.Claim.TheVariants.{Bounded, Asked, Relative}
use Rattle.script_claims.specs.declared.claim.Claim.TheVariants.{RelativeAsked, Above, Below}
use Rattle.script_claims.specs.declared.claim.Claim.TheVariants.{Multiple}
use Rattle.script_claims.specs.Meets.{IsRelatedWithin, IsTrueAt}
use Rattle.script_claims.specs.Facts.{relative_fact, hypothesis_fact, IsHypothesis}

pub both : (o p : Option Fraction) (P Q : Fraction → Fraction → Type 0)
    → ((v w : Fraction) → P v w → Q v w) → IsSomeAnd o (λ v. IsSomeAnd p (P v))
    → IsSomeAnd o (λ v. IsSomeAnd p (Q v))
both o p P Q f =
    some-and o (λ v. IsSomeAnd p (P v)) (λ v. IsSomeAnd p (Q v)) (λ v. some-and p (P v) (Q v) (f v))

-- bounds in order have an interval, the least around what lies between them
abbrev pub OutwardIsLeast : Type 0
OutwardIsLeast = (r : Range) → IsOrdered r.low r.high
    → (i : Interval) × (outward_of r ≡ Some i) × IsEnclosure (Lies r) (range_of i)

module _ (outward-least : OutwardIsLeast) where
  -- ---- what lies between bounds lies in the interval around them

  outward_at : (r : Range) (x : Fraction) → Lies r x
      → (i : Interval) × (outward_of r ≡ Some i) × Lies (range_of i) x
  outward_at r x l = let m = outward-least r (ordered_by r.low r.high x l.0 l.1) in
      (m.0, m.1, in_enclosure (Lies r) (range_of m.0) x m.2 l)

  in_outward : (r : Range) (i : Interval) → outward_of r ≡ Some i → (x : Fraction)
      → Lies r x → Lies (range_of i) x
  in_outward r i e x l = let m = outward_at r x l in
      subst (λ j. Lies (range_of j) x) (some-inj m.0 i (sym m.1 ∙ e)) m.2

  outward_of_value : (r : Range) (o : Option Fraction) → IsSomeAnd o (Lies r)
      → (i : Interval) × (outward_of r ≡ Some i) × IsSomeAnd o (Lies (range_of i))
  outward_of_value r None t = absurd t
  outward_of_value r (Some x) t = outward_at r x t

  -- ---- claims with a `not`

  -- what is above a number, or below one, lies on that side of it
  above_lies : (n : Written) (o : Option Fraction) → IsSomeAnd o (λ v. written_value n <ℚ v)
      → IsSomeAnd o (Lies (written_range (Some n) None))
  above_lies n o t = some-and o (λ v. written_value n <ℚ v) (Lies (written_range (Some n) None))
      (λ v h. (lt_le (written_value n) v h, tt)) t

  below_lies : (n : Written) (o : Option Fraction) → IsSomeAnd o (λ v. v <ℚ written_value n)
      → IsSomeAnd o (Lies (written_range None (Some n)))
  below_lies n o t = some-and o (λ v. v <ℚ written_value n) (Lies (written_range None (Some n)))
      (λ v h. (tt, lt_le v (written_value n) h)) t

  range_holds : (nodes : List Node) (a : Assignment) (x : ExprId) (r : Range) (f : Fact)
      → bnd_of x (outward_of r) ≡ Some f → IsSomeAnd (value nodes a x) (Lies r) → Holds nodes a f
  range_holds nodes a x r f e t =
      let m = outward_of_value r (value nodes a x) t in
      subst (Holds nodes a) (some-inj (fact.Bnd x m.0) f (ap (bnd_of x) (sym m.1) ∙ e)) m.2

  range_given : (nodes : List Node) (a : Assignment) (x : ExprId) (r : Range)
      → IsSomeAnd (value nodes a x) (Lies r) → (f : Fact) × (bnd_of x (outward_of r) ≡ Some f)
  range_given nodes a x r t = let m = outward_of_value r (value nodes a x) t in
      (fact.Bnd x m.0, ap (bnd_of x) m.1)

  -- ---- relative claims

  related_in : (r : Range) (i : Interval) → outward_of r ≡ Some i → (v w : Fraction)
      → IsRelatedWithin r v w → IsRelated i v w
  related_in r i e v w (inl z) = inl z
  related_in r i e v w (inr p) = inr (p.0, in_outward r i e _ p.1)

  relative_holds : (nodes : List Node) (a : Assignment) (x y : ExprId)
      (r : Range) (f : Fact) (o : Option Interval) (d : Option RelativeError) → outward_of r ≡ o
      → error_of_part o ≡ d → rel_of x y d ≡ Some f
      → IsSomeAnd (value nodes a x) (λ v. IsSomeAnd (value nodes a y) (IsRelatedWithin r v))
      → Holds nodes a f
  relative_holds nodes a x y r f o None p q e t = cc
  relative_holds nodes a x y r f None (Some d) p q e t = cc
  relative_holds nodes a x y r f (Some i) (Some d) p q e t =
      let at : outward_of r ≡ Some d.interval = p ∙ ap Some (sym (error_from_out i d q)) in
      subst (Holds nodes a) (some-inj (fact.Rel x y (Some d)) f e) (both (value nodes a x)
      (value nodes a y) (IsRelatedWithin r) (IsRelated d.interval) (related_in r d.interval at) t)

  relative_given : (x y : ExprId) (r : Range)
      → IsOrdered r.low r.high → IsBelow (neg_ℚ one_ℚ) (bound_of (down_end r.low))
      → (f : Fact) × (relative_fact x y (outward_of r) ≡ Some f)
  relative_given x y r o b =
      let m = outward-least r o in
      let i = m.0 in
      let ends = interval_from_out (down_end r.low) (up_end r.high) i m.1 in
      let above : IsBelow (neg_ℚ one_ℚ) (bound_of i.lo) =
      subst (λ e. IsBelow (neg_ℚ one_ℚ) (bound_of e)) (sym ends.0) b in (
        fact.Rel x y (Some (record { interval = i; above_minus_one = above })),
        ap (relative_fact x y) m.1 ∙ ap (rel_of x y) (error_from-some i above),
      )

  -- ---- multiples

  multiple_holds : (nodes : List Node) (a : Assignment)
      (x : ExprId) (k : ℤ) (f : Fact) (o : Option FixPlace) → place_from k ≡ o → fix_of x o ≡ Some f
      → IsSomeAnd (value nodes a x) (IsMultiple k) → Holds nodes a f
  multiple_holds nodes a x k f None p e t = cc
  multiple_holds nodes a x k f (Some n) p e t = subst (Holds nodes a) (some-inj (fact.Fix x n) f e)
      (subst (λ j. IsSomeAnd (value nodes a x) (IsMultiple j)) (sym (place_from_out k n p)) t)

  -- ---- the laws

  pub facts_hold : (nodes : List Node) (a : Assignment) (c : Claim) (f : Fact)
      → hypothesis_fact c ≡ Some f → IsTrueAt nodes a c → Holds nodes a f
  facts_hold nodes a (Bounded x lower upper) f e t =
      range_holds nodes a x (written_range lower upper) f e t
  facts_hold nodes a (Asked x) f e t = cc
  facts_hold nodes a (Relative x y lower upper) f e t =
      relative_holds nodes a x y (written_range (Some lower) (Some upper)) f _ _ refl refl e t
  facts_hold nodes a (RelativeAsked x y) f e t = cc
  facts_hold nodes a (Above x n) f e t =
      range_holds nodes a x (written_range (Some n) None) f e (above_lies n (value nodes a x) t)
  facts_hold nodes a (Below x n) f e t =
      range_holds nodes a x (written_range None (Some n)) f e (below_lies n (value nodes a x) t)
  facts_hold nodes a (Multiple x k) f e t = multiple_holds nodes a x k f (place_from k) refl e t

  pub facts_given : (nodes : List Node) (a : Assignment) (c : Claim) → IsHypothesis c
      → IsTrueAt nodes a c → (f : Fact) × (hypothesis_fact c ≡ Some f)
  facts_given nodes a (Bounded x lower upper) h t =
      range_given nodes a x (written_range lower upper) t
  facts_given nodes a (Asked x) h t = absurd h
  facts_given nodes a (Relative x y lower upper) h t =
      relative_given x y (written_range (Some lower) (Some upper)) h.0 h.1
  facts_given nodes a (RelativeAsked x y) h t = absurd h
  facts_given nodes a (Above x n) h t =
      range_given nodes a x (written_range (Some n) None) (above_lies n (value nodes a x) t)
  facts_given nodes a (Below x n) h t =
      range_given nodes a x (written_range None (Some n)) (below_lies n (value nodes a x) t)
  facts_given nodes a (Multiple x k) h t = (
    fact.Fix x (record { exponent = k; lowest = h.lowest; highest = h.highest }),
    ap (fix_of x) (place_from-some k h),
  )
