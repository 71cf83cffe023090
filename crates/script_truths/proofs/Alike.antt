-- What is said of expressions by their values alone is one over two lists of nodes that give them
-- the same values.
use Rattle.std.specs.Prelude.{◌≡◌, ◌≢◌, ◌↔◌, ◌<◌, ℕ, List, [], ◌∷◌, Some, refl}
use Rattle.std.specs.Option.{IsSomeAnd}
use Rattle.std.specs.List.{AllByRecursion}
use Rattle.std.proofs.Common.{sym, subst}
use Rattle.fx_model.specs.declared.ExprId.{ExprId}
use Rattle.fx_model.specs.declared.Node.{Node}
use Rattle.fx_model.specs.Fraction.{Fraction, ◌<ℚ◌, abs_ℚ, zero_ℚ}
use Rattle.fx_model.specs.Powers.{IsMultiple}
use Rattle.fx_model.specs.Enclosure.{Lies}
use Rattle.fx_model.specs.Expression.{Assignment, value}
use Rattle.dyadic.specs.Ends.{bound_of}
use Rattle.interval.specs.declared.interval.Interval.{Interval}
use Rattle.interval.specs.Intervals.{range_of}
use Rattle.literal_order.specs.Values.{written_value}
use Rattle.facts.specs.declared.fact.Fact.{Fact}
use Rattle.facts.specs.declared.fact.Fact.TheVariants as fact
use Rattle.facts.specs.declared.fact.Slot.{Slot}
use Rattle.facts.specs.declared.fact.Slot.TheVariants as slot
use Rattle.facts.specs.declared.hint.Need.{Need}
use Rattle.facts.specs.declared.hint.Need.TheVariants as need
use Rattle.facts.specs.declared.hint.HintRow.{HintRow}
use Rattle.facts.specs.Holds.{Holds, AreZero, IsRelated, IsRelatedBy}
use Rattle.facts.specs.Order.{slot_of}
use Rattle.facts.specs.Rows.{IsMet, IsUnder, IsOver, RowIsTrue}
use Rattle.goals.specs.declared.line.Line.{Line}
use Rattle.goals.specs.declared.line.Line.TheVariants as line
use Rattle.goals.specs.Lies.{OfBoth, LiesAt, AreZeroAt}
use Rattle.goals.specs.Holds.{LineHolds}
use Rattle.script_bounds.specs.Bounds.{written_range}
use Rattle.script_claims.specs.declared.claim.Claim.{Claim}
use Rattle.script_claims.specs.declared.claim.Claim.TheVariants.{Bounded, Asked, Relative}
use Rattle.script_claims.specs.declared.claim.Claim.TheVariants.{RelativeAsked, Multiple, Above}
use Rattle.script_claims.specs.declared.claim.Claim.TheVariants.{Below}
use Rattle.script_claims.specs.Meets.{IsRelatedWithin, IsTrueAt}
use Rattle.script_grammar.specs.Names.{AreNodes, ClaimIsOf}
use Rattle.rule_universe.specs.Licensed.{NeedIsKnown, RowIsKnown}
use Rattle.script_truths.specs.Kept.{SlotIsOf}

-- what is one is true where the other is
pub either_way : (A B : Type 0) → A ≡ B → A ↔ B
either_way A B e = (subst (λ T. T) e, subst (λ T. T) (sym e))

all_alike : {A : Type 0} (K P Q : A → Type 0) → ((x : A) → K x → P x ≡ Q x) → (xs : List A)
    → AllByRecursion K xs → AllByRecursion P xs ≡ AllByRecursion Q xs
all_alike K P Q e [] k = refl
all_alike K P Q e (x ∷ xs) k = let here = e x k.0 in
    let rest = all_alike K P Q e xs k.1 in (λ i. here i × rest i)

module _ (ns ms : List Node) (a : Assignment) (n : ℕ) (same : (x : ExprId) → x.0 < n
    → value ns a x ≡ value ms a x) where
  one : (P : Fraction → Type 0) (x : ExprId) → x.0 < n
      → IsSomeAnd (value ns a x) P ≡ IsSomeAnd (value ms a x) P
  one P x l = let e = same x l in (λ i. IsSomeAnd (e i) P)

  both : (P : Fraction → Fraction → Type 0) (x y : ExprId) → AreNodes n (x, y)
      → OfBoth ns a x y P ≡ OfBoth ms a x y P
  both P x y l = let e = same x l.0 in let f = same y l.1 in
      (λ i. IsSomeAnd (e i) (λ v. IsSomeAnd (f i) (P v)))

  pub fact_alike : (f : Fact) → SlotIsOf n (slot_of f) → Holds ns a f ≡ Holds ms a f
  fact_alike (fact.Bnd x i) l = one (Lies (range_of i)) x l
  fact_alike (fact.Abs x s) l = one (λ v. Lies (range_of s.interval) (abs_ℚ v)) x l
  fact_alike (fact.Rel x y e) l = both (IsRelatedBy e) x y l
  fact_alike (fact.Fix x k) l = one (IsMultiple k.exponent) x l
  fact_alike (fact.Nzr x) l = one (λ v. v ≢ zero_ℚ) x l
  fact_alike fact.Void l = refl

  lies_alike : (i : Interval) (t : Slot) → SlotIsOf n t → LiesAt ns a i t ≡ LiesAt ms a i t
  lies_alike i (slot.Bnd x) l = one (Lies (range_of i)) x l
  lies_alike i (slot.Rel x y) l = both (IsRelated i) x y l
  lies_alike i _ l = refl

  zeros_alike : (t : Slot) → SlotIsOf n t → AreZeroAt ns a t ≡ AreZeroAt ms a t
  zeros_alike (slot.Rel x y) l = both AreZero x y l
  zeros_alike _ l = refl

  pub line_alike : (t : Slot) (l : Line) → SlotIsOf n t → LineHolds ns a t l ≡ LineHolds ms a t l
  line_alike t (line.In i) l = lies_alike i t l
  line_alike t line.None l = zeros_alike t l
  line_alike t line.Empty l = refl

  pub claim_alike : (c : Claim) → ClaimIsOf n c → IsTrueAt ns a c ≡ IsTrueAt ms a c
  claim_alike (Bounded x lower upper) l = one (Lies (written_range lower upper)) x l
  claim_alike (Asked x) l = refl
  claim_alike (Relative x y lower upper) l =
      both (IsRelatedWithin (written_range (Some lower) (Some upper))) x y l
  claim_alike (RelativeAsked x y) l = refl
  claim_alike (Multiple x k) l = one (IsMultiple k) x l
  claim_alike (Above x w) l = one (λ v. written_value w <ℚ v) x l
  claim_alike (Below x w) l = one (λ v. v <ℚ written_value w) x l

  need_alike : (m : Need) → NeedIsKnown n m → IsMet ns a m ≡ IsMet ms a m
  need_alike (need.NotZero x) l = one (λ v. v ≢ zero_ℚ) x l
  need_alike (need.Below x end apart) l = one (IsUnder (bound_of end) apart) x l
  need_alike (need.Above x end apart) l = one (IsOver (bound_of end) apart) x l

  pub row_alike : (row : HintRow) → RowIsKnown n row → RowIsTrue ns a row ≡ RowIsTrue ms a row
  row_alike row k =
      let divisors = all_alike (λ (d : ExprId). d.0 < n) (λ d. Holds ns a (fact.Nzr d))
      (λ d. Holds ms a (fact.Nzr d)) (λ d l. one (λ v. v ≢ zero_ℚ) d l) row.divisors k.divisors in
      let needs = all_alike (NeedIsKnown n) (IsMet ns a)
      (IsMet ms a) need_alike row.needs k.needs in
      let left = same row.left k.left in
      let right = same row.right k.right in
      (λ i. divisors i → needs i → (v : Fraction) → right i ≡ Some v → left i ≡ Some v)
