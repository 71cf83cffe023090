-- A goal is true where a fact that settles it holds.
use Rattle.std.specs.Prelude.{◌≡◌, ℕ, List, Some, None, length, refl}
use Rattle.std.specs.Option.{IsSomeAnd}
use Rattle.std.proofs.Common.{subst}
use Rattle.fx_model.specs.declared.ExprId.{ExprId}
use Rattle.fx_model.specs.declared.Node.{Node}
use Rattle.fx_model.specs.Enclosure.{Lies, within_in}
use Rattle.fx_model.specs.Expression.{Assignment, value}
use Rattle.interval.specs.declared.interval.Interval.{Interval}
use Rattle.interval.specs.Intervals.{range_of}
use Rattle.pair_closure.proofs.Members.{has_all}
use Rattle.facts.specs.declared.fact.Fact.{Fact}
use Rattle.facts.specs.declared.fact.Fact.TheVariants as fact
use Rattle.facts.specs.Holds.{Holds, IsRelated}
use Rattle.facts.proofs.Held.{some-and, related-wider}
use Rattle.facts.specs.Order.{IsWithin}
use Rattle.facts.specs.Order as order
use Rattle.goals.specs.declared.goal.Want.{Want}
use Rattle.goals.specs.declared.goal.Want.TheVariants.{Ask, Inside}
use Rattle.goals.specs.Lies.{LiesAt, AreZeroAt}
use Rattle.goals.specs.Settles.{HasWanted}
use Rattle.script_claims.specs.declared.claim.Claim.{Claim}
use Rattle.script_claims.specs.declared.claim.Claim.TheVariants.{Bounded, Asked, Relative}
use Rattle.script_claims.specs.declared.claim.Claim.TheVariants.{RelativeAsked, Multiple, Above}
use Rattle.script_claims.specs.declared.claim.Claim.TheVariants.{Below}
use Rattle.script_claims.specs.Facts.{want_of, slot_of}
use Rattle.script_claims.specs.Meets.{IsTrueAt}
use Rattle.script_grammar.specs.Names.{ClaimIsOf}
use Rattle.script_truths.specs.Kept.{OfExtended, SlotIsOf, ClaimsAreKept, LinesAreKept}
use Rattle.script_truths.specs.Truths.{UniversesExtend, OfUniverses, SettledGoalsAreTrue}
use Rattle.script_truths.specs.Truths.{GoalLinesHold}

-- a question claims nothing
asked : (nodes : List Node) (a : Assignment) (c : Claim) → want_of c ≡ Ask → IsTrueAt nodes a c
asked nodes a (Asked x) e = tt
asked nodes a (RelativeAsked x y) e = tt
asked nodes a _ e = cc

module _ (nodes : List Node) (a : Assignment) where
  bound_lies : (x : ExprId) (i j : Interval) → IsWithin i j → Holds nodes a (fact.Bnd x i)
      → LiesAt nodes a j (order.slot_of (fact.Bnd x i))
  bound_lies x i j l h = some-and (value nodes a x) (Lies (range_of i)) (Lies (range_of j))
      (λ v m. within_in (range_of i) (range_of j) v l m) h

  error_lies : (x y : ExprId) (i j : Interval) → IsWithin i j
      → IsSomeAnd (value nodes a x) (λ v. IsSomeAnd (value nodes a y) (IsRelated i v))
      → IsSomeAnd (value nodes a x) (λ v. IsSomeAnd (value nodes a y) (IsRelated j v))
  error_lies x y i j l h = some-and (value nodes a x) (λ v. IsSomeAnd (value nodes a y)
      (IsRelated i v)) (λ v. IsSomeAnd (value nodes a y) (IsRelated j v))
      (λ v k. some-and (value nodes a y) (IsRelated i v) (IsRelated j v)
      (λ w r. related-wider i j v w l r) k) h

  module _ (inside : (c : Claim) (i : Interval) → want_of c ≡ Inside (Some i)
      → LiesAt nodes a i (slot_of c) → IsTrueAt nodes a c) (zeros : (c : Claim)
      → AreZeroAt nodes a (slot_of c) → IsTrueAt nodes a c) where
    pub answered : (c : Claim) (w : Want) (f : Fact) → want_of c ≡ w → order.slot_of f ≡ slot_of c
        → HasWanted w f → Holds nodes a f → IsTrueAt nodes a c
    answered c Ask f e s n h = asked nodes a c e
    answered c (Inside o) (fact.Rel x y None) e s n h = zeros c (subst (AreZeroAt nodes a) s h)
    answered c (Inside (Some i)) (fact.Bnd x j) e s n h =
        inside c i e (subst (LiesAt nodes a i) s (bound_lies x j i n h))
    answered c (Inside (Some i)) (fact.Rel x y (Some d)) e s n h =
        inside c i e (subst (LiesAt nodes a i) s (error_lies x y d.interval i n h))
    answered c (Inside None) (fact.Bnd x j) e s n h = absurd n
    answered c (Inside None) (fact.Rel x y (Some d)) e s n h = absurd n
    answered c (Inside o) (fact.Abs x j) e s n h = absurd n
    answered c (Inside o) (fact.Fix x k) e s n h = absurd n
    answered c (Inside o) (fact.Nzr x) e s n h = absurd n
    answered c (Inside o) fact.Void e s n h = absurd n

pub goals_true : ((nodes : List Node) (a : Assignment) (c : Claim) (i : Interval)
    → want_of c ≡ Inside (Some i) → LiesAt nodes a i (slot_of c) → IsTrueAt nodes a c)
    → ((nodes : List Node) (a : Assignment) (c : Claim) → AreZeroAt nodes a (slot_of c)
    → IsTrueAt nodes a c) → UniversesExtend → OfExtended ClaimsAreKept
    → OfUniverses SettledGoalsAreTrue
goals_true inside zeros extend kept s claims u a is c m f settles holds =
    (kept s.nodes u.nodes a (extend s claims u is) c
    (has_all (ClaimIsOf (length s.nodes)) s.goals is.names.goals c m)).0
    (answered u.nodes a (inside u.nodes a)
    (zeros u.nodes a) c (want_of c) f refl settles.0 settles.1 holds)

-- a claim about nodes is about a slot of theirs
pub slot_of_nodes : (n : ℕ) (c : Claim) → ClaimIsOf n c → SlotIsOf n (slot_of c)
slot_of_nodes n (Bounded x lower upper) l = l
slot_of_nodes n (Asked x) l = l
slot_of_nodes n (Relative x y lower upper) l = l
slot_of_nodes n (RelativeAsked x y) l = l
slot_of_nodes n (Multiple x k) l = l
slot_of_nodes n (Above x w) l = l
slot_of_nodes n (Below x w) l = l

pub lines_true : UniversesExtend → OfExtended LinesAreKept → OfUniverses GoalLinesHold
lines_true extend kept s claims u a is c m l h =
    (kept s.nodes u.nodes a (extend s claims u is) (slot_of c) l (slot_of_nodes (length s.nodes) c
    (has_all (ClaimIsOf (length s.nodes)) s.goals is.names.goals c m))).0 h
