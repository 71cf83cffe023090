-- A claim is true where what it is about lies in the interval that it wants.
use Rattle.std.specs.Prelude.{◌≡◌, List, Option, Some}
use Rattle.std.proofs.Common.{inl, inr}
use Rattle.fx_model.specs.Fraction.{Fraction}
use Rattle.fx_model.specs.Enclosure.{Range, Lies}
use Rattle.fx_model.specs.Expression.{Assignment, value}
use Rattle.fx_model.specs.declared.Node.{Node}
use Rattle.interval.specs.declared.interval.Interval.{Interval}
use Rattle.interval.specs.Intervals.{range_of}
use Rattle.facts.specs.Holds.{AreZero, IsRelated}
use Rattle.facts.proofs.Held.{some-and}
use Rattle.goals.specs.declared.goal.Want.TheVariants.{Inside}
use Rattle.goals.specs.Lies.{LiesAt, AreZeroAt}
use Rattle.script_bounds.specs.Bounds.{written_range, inward_of}
use Rattle.script_claims.specs.declared.claim.Claim.{Claim}
use Rattle.script_claims.specs.declared.claim.Claim.TheVariants.{Bounded, Asked, Relative}
use Rattle.script_claims.specs.declared.claim.Claim.TheVariants.{RelativeAsked, Above, Below}
use Rattle.script_claims.specs.declared.claim.Claim.TheVariants.{Multiple}
use Rattle.script_claims.specs.Meets.{IsRelatedWithin, IsTrueAt}
use Rattle.script_claims.specs.Facts.{want_of, slot_of}
use Rattle.script_claims.proofs.Hypotheses.{both}

inside_is : (u v : Option Interval) → Inside u ≡ Inside v → u ≡ v
inside_is u v e = cc

-- what lies in the interval lies between the bounds
abbrev pub InwardIsWithin : Type 0
InwardIsWithin = (r : Range) (i : Interval) → inward_of r ≡ Some i → (x : Fraction)
    → Lies (range_of i) x → Lies r x

module _ (inward-within : InwardIsWithin) where
  related_in : (r : Range) (i : Interval) → inward_of r ≡ Some i → (v w : Fraction)
      → IsRelated i v w → IsRelatedWithin r v w
  related_in r i e v w (inl z) = inl z
  related_in r i e v w (inr p) = inr (p.0, inward-within r i e _ p.1)

  pub goals_inside : (nodes : List Node) (a : Assignment) (c : Claim) (i : Interval)
      → want_of c ≡ Inside (Some i) → LiesAt nodes a i (slot_of c) → IsTrueAt nodes a c
  goals_inside nodes a (Bounded x lower upper) i e l =
      some-and (value nodes a x) (Lies (range_of i)) (Lies (written_range lower upper))
      (inward-within (written_range lower upper) i (inside_is _ _ e)) l
  goals_inside nodes a (Asked x) i e l = tt
  goals_inside nodes a (Relative x y lower upper) i e l =
      let r = written_range (Some lower) (Some upper) in
      both (value nodes a x) (value nodes a y) (IsRelated i) (IsRelatedWithin r)
      (related_in r i (inside_is _ _ e)) l
  goals_inside nodes a (RelativeAsked x y) i e l = tt
  goals_inside nodes a (Above x n) i e l = absurd (cc (inside_is _ _ e))
  goals_inside nodes a (Below x n) i e l = absurd (cc (inside_is _ _ e))
  goals_inside nodes a (Multiple x k) i e l = absurd l

pub goals_zero : (nodes : List Node) (a : Assignment) (c : Claim)
    → AreZeroAt nodes a (slot_of c) → IsTrueAt nodes a c
goals_zero nodes a (Bounded x lower upper) z = absurd z
goals_zero nodes a (Asked x) z = tt
goals_zero nodes a (Relative x y lower upper) z = both (value nodes a x) (value nodes a y) AreZero
    (IsRelatedWithin (written_range (Some lower) (Some upper))) (λ v w e. inl e) z
goals_zero nodes a (RelativeAsked x y) z = tt
goals_zero nodes a (Above x n) z = absurd z
goals_zero nodes a (Below x n) z = absurd z
goals_zero nodes a (Multiple x k) z = absurd z
