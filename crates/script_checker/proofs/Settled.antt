-- A goal is true where a fact that settles it holds.
use Rattle.std.proofs.Common.{◌≡◌, List, Some, None, subst}
use Rattle.std.specs.Option.{IsSomeAnd}
use Rattle.fx_model.specs.Enclosure.{Lies, within_in}
use Rattle.fx_model.specs.Expression.{Assignment, value}
use Rattle.fx_model.specs.declared.Node.{Node}
use Rattle.interval.specs.declared.interval.Interval.{Interval}
use Rattle.interval.specs.Intervals.{range_of}
use Rattle.facts.specs.declared.fact.Fact.{Fact}
use Rattle.facts.specs.declared.fact.Fact.TheVariants as fact
use Rattle.facts.specs.Holds.{Holds, IsRelated}
use Rattle.facts.proofs.Held.{some-and, related-wider}
use Rattle.facts.specs.Order.{slot_of as slot_of_fact}
use Rattle.goals.specs.declared.goal.Want.{Want}
use Rattle.goals.specs.declared.goal.Want.TheVariants.{Ask, Inside}
use Rattle.goals.specs.Lies.{LiesAt, AreZeroAt}
use Rattle.goals.specs.Settles.{HasWanted}
use Rattle.script_claims.specs.declared.claim.Claim.{Claim}
use Rattle.script_claims.specs.declared.claim.Claim.TheVariants.{Bounded, Asked, Relative}
use Rattle.script_claims.specs.declared.claim.Claim.TheVariants.{RelativeAsked, Multiple, Above}
use Rattle.script_claims.specs.declared.claim.Claim.TheVariants.{Below}
use Rattle.script_claims.specs.Facts.{want_of, slot_of}
use Rattle.script_claims.specs.Meets.{IsTrueAt}

-- what is enough for a claim: what it is about lies in the interval that it wants, or both values
-- are 0
pub record ClaimLaws : Type 0 where
  pub inside : (nodes : List Node) (a : Assignment) (c : Claim) (i : Interval)
      → want_of c ≡ Inside (Some i) → LiesAt nodes a i (slot_of c) → IsTrueAt nodes a c
  pub zeros : (nodes : List Node) (a : Assignment) (c : Claim)
      → AreZeroAt nodes a (slot_of c) → IsTrueAt nodes a c

module _ (laws : ClaimLaws) (nodes : List Node) (a : Assignment) where
  asked : (c : Claim) → want_of c ≡ Ask → IsTrueAt nodes a c
  asked (Asked x) e = tt
  asked (RelativeAsked x y) e = tt
  asked (Bounded x lower upper) e = cc
  asked (Relative x y lower upper) e = cc
  asked (Multiple x k) e = cc
  asked (Above x w) e = cc
  asked (Below x w) e = cc

  pub settled : (c : Claim) (w : Want) (f : Fact) → want_of c ≡ w → slot_of_fact f ≡ slot_of c
      → HasWanted w f → Holds nodes a f → IsTrueAt nodes a c
  settled c Ask f e s n h = asked c e
  settled c (Inside o) (fact.Rel x y None) e s n h =
      laws.zeros nodes a c (subst (AreZeroAt nodes a) s h)
  settled c (Inside (Some i)) (fact.Bnd x j) e s n h =
      let wide : LiesAt nodes a i (slot_of_fact (fact.Bnd x j)) =
      some-and (value nodes a x) (Lies (range_of j)) (Lies (range_of i))
      (λ v m. within_in (range_of j) (range_of i) v n m) h in
      laws.inside nodes a c i e (subst (LiesAt nodes a i) s wide)
  settled c (Inside (Some i)) (fact.Rel x y (Some d)) e s n h =
      let wide : LiesAt nodes a i (slot_of_fact (fact.Rel x y (Some d))) =
      some-and (value nodes a x) (λ v. IsSomeAnd (value nodes a y) (IsRelated d.interval v))
      (λ v. IsSomeAnd (value nodes a y) (IsRelated i v))
      (λ v k. some-and (value nodes a y) (IsRelated d.interval v) (IsRelated i v)
      (λ w r. related-wider d.interval i v w n r) k) h in
      laws.inside nodes a c i e (subst (LiesAt nodes a i) s wide)
  settled c (Inside None) (fact.Bnd x j) e s n h = absurd n
  settled c (Inside None) (fact.Rel x y (Some d)) e s n h = absurd n
  settled c (Inside o) (fact.Abs x j) e s n h = absurd n
  settled c (Inside o) (fact.Fix x k) e s n h = absurd n
  settled c (Inside o) (fact.Nzr x) e s n h = absurd n
  settled c (Inside o) fact.Void e s n h = absurd n
