-- An assignment that meets the hypotheses lies in the whole box.
use Rattle.std.specs.Prelude.{◌≡◌, ℕ, true, List, [], ◌∷◌, Option, Some, None, if◌then◌else◌, refl}
use Rattle.std.specs.List.{AllByRecursion}
use Rattle.std.specs.Option.{IsSomeAnd}
use Rattle.std.proofs.Common.{sym, subst}
use Rattle.fx_model.specs.declared.ExprId.{ExprId}
use Rattle.fx_model.specs.declared.Node.{Node}
use Rattle.fx_model.specs.Enclosure.{Lies}
use Rattle.fx_model.specs.Expression.{Assignment, value}
use Rattle.dyadic.specs.declared.number.End.{End}
use Rattle.dyadic.specs.declared.number.End.TheVariants as end
use Rattle.interval.specs.declared.interval.Interval.{Interval}
use Rattle.interval.specs.Ends.{range_from}
use Rattle.interval.specs.Intervals.{range_of}
use Rattle.facts.specs.declared.fact.Fact.{Fact}
use Rattle.facts.specs.declared.fact.Fact.TheVariants as fact
use Rattle.facts.specs.Holds.{Holds}
use Rattle.facts.specs.Order.{is_same}
use Rattle.facts.proofs.CommonParts.{expr_same}
use Rattle.facts.proofs.Held.{some-and}
use Rattle.script_claims.specs.declared.claim.Claim.{Claim}
use Rattle.script_claims.specs.Facts.{hypothesis_fact}
use Rattle.script_claims.specs.Meets.{IsTrueAt}
use Rattle.script_hints.specs.declared.hint.HintList.{HintList}
use Rattle.script_claims.specs.declared.range.SplitRange.{SplitRange}
use Rattle.script_claims.specs.Ranges.{finite_range, range_by, or_later, split_range}
use Rattle.box_tree.specs.Ranges.{range_in}
use Rattle.box_tree.specs.Root.{with_range}
use Rattle.box_tree.specs.Root.{split_ranges, plan_by}
use Rattle.box_tree.specs.Covers.{Has, LiesInRange, LieIn, LieInBox}
use Rattle.box_tree.proofs.Cover.{root_out}
use Rattle.box_tree.proofs.InRanges.{at_bool, finite_out}

-- ---- one hypothesis
module _ (nodes : List Node) (a : Assignment) where
  bound_has : (x y : ExprId) (i : Interval) (r : SplitRange)
      → is_same y x ≡ true → finite_range x i.lo i.hi ≡ Some r → Holds nodes a (fact.Bnd y i)
      → (r.var ≡ x) × IsSomeAnd (value nodes a x) (Has r)
  bound_has x y i r s e h =
      let f = finite_out x i.lo i.hi r e in
      let k = expr_same y x s in
      let l : IsSomeAnd (value nodes a x) (Lies (range_of i)) =
      subst (λ (z : ExprId). IsSomeAnd (value nodes a z) (Lies (range_of i))) k h in (
        f.2,
        some-and (value nodes a x) (Lies (range_of i)) (Has r)
            (λ w m. let P : End → Type 0 = λ lo. Lies (range_from lo i.hi) w in
            let Q : End → Type 0 = λ hi. Lies (range_from (end.At r.low) hi) w in
            subst Q f.1 (subst P f.0 m)) l,
      )

  fact_has : (x : ExprId) (o : Option Fact) (r : SplitRange)
      → range_by x o ≡ Some r → ((f : Fact) → o ≡ Some f → Holds nodes a f)
      → (r.var ≡ x) × IsSomeAnd (value nodes a x) (Has r)
  fact_has x None r e h = cc
  fact_has x (Some (fact.Bnd y i)) r e h =
      at_bool (is_same y x) (λ b. is_same y x ≡ b → (if b then finite_range x i.lo i.hi
      else None) ≡ Some r → (r.var ≡ x) × IsSomeAnd (value nodes a x) (Has r))
      (λ t s f. bound_has x y i r s f (h (fact.Bnd y i) refl)) (λ t s f. cc) refl e
  fact_has x (Some (fact.Abs y s)) r e h = cc
  fact_has x (Some (fact.Rel y z t)) r e h = cc
  fact_has x (Some (fact.Fix y k)) r e h = cc
  fact_has x (Some (fact.Nzr y)) r e h = cc
  fact_has x (Some fact.Void) r e h = cc

  module _ (holds : (c : Claim) (f : Fact) → hypothesis_fact c ≡ Some f → IsTrueAt nodes a c
      → Holds nodes a f) where
    first : (r : SplitRange) (T : Type 0) (o later : Option SplitRange) → or_later o later ≡ Some r
        → (o ≡ Some r → T) → (later ≡ Some r → T) → T
    first r T None later e f g = g e
    first r T (Some q) later e f g = f e

    split_has : (cs : List Claim) (x : ExprId) (r : SplitRange)
        → AllByRecursion (IsTrueAt nodes a) cs → split_range cs x ≡ Some r
        → (r.var ≡ x) × IsSomeAnd (value nodes a x) (Has r)
    split_has [] x r m e = cc
    split_has (c ∷ cs) x r m e = first r ((r.var ≡ x) × IsSomeAnd (value nodes a x) (Has r))
        (range_by x (hypothesis_fact c)) (split_range cs x) e
        (λ q. fact_has x (hypothesis_fact c) r q (λ f g. holds c f g m.0))
        (λ q. split_has cs x r m.1 q)

    abbrev Fits : SplitRange → Type 0
    Fits r = IsSomeAnd (value nodes a r.var) (Has r)

    with_fit : (cs : List Claim) (x : ExprId) (rest : List SplitRange)
        → AllByRecursion (IsTrueAt nodes a) cs → AllByRecursion Fits rest → (o : Option SplitRange)
        → split_range cs x ≡ o → AllByRecursion Fits (with_range o rest)
    with_fit cs x rest m h None e = h
    with_fit cs x rest m h (Some r) e = let k = split_has cs x r m e in
        (subst (λ (z : ExprId). IsSomeAnd (value nodes a z) (Has r)) (sym k.0) k.1, h)

    all_fit : (cs : List Claim) (xs : List ExprId) → AllByRecursion (IsTrueAt nodes a) cs
        → AllByRecursion Fits (split_ranges cs xs)
    all_fit cs [] m = tt
    all_fit cs (x ∷ xs) m =
        with_fit cs x (split_ranges cs xs) m (all_fit cs xs m) (split_range cs x) refl

    fit_in : (rs : List SplitRange) → AllByRecursion Fits rs → LieIn (value nodes a) rs
    fit_in [] h x = tt
    fit_in (r ∷ rs) h x = at_bool (is_same r.var x) (λ b. is_same r.var x ≡ b
        → LiesInRange (if b then Some r else range_in x rs) (value nodes a x))
        (λ t s. subst (λ (z : ExprId). IsSomeAnd (value nodes a z) (Has r))
        (expr_same r.var x s) h.0) (λ t s. fit_in rs h.1 x) refl

    pub whole_box : (cs : List Claim) (hints : HintList) (depth : ℕ)
        → AllByRecursion (IsTrueAt nodes a) cs
        → LieInBox (plan_by cs hints depth) (value nodes a) []
    whole_box cs hints depth m = root_out (plan_by cs hints depth) (value nodes a)
        (fit_in (split_ranges cs hints.order) (all_fit cs hints.order m))
