-- The fact that a claim gives as a hypothesis, with bounds rounded outward, and what it wants as a
-- goal, rounded inward.
use Rattle.std.specs.Prelude.{⊤, List, [], ◌∷◌, Option, Some, None}
use Rattle.fx_model.specs.Fraction.{neg_ℚ, one_ℚ}
use Rattle.fx_model.specs.Enclosure.{IsOrdered}
use Rattle.fx_model.specs.declared.ExprId.{ExprId}
use Rattle.dyadic.specs.Ends.{bound_of}
use Rattle.interval.specs.declared.interval.Interval.{Interval}
use Rattle.literal_order.specs.Values.{IsWritten}
use Rattle.facts.specs.declared.fact.Fact.{Fact}
use Rattle.facts.specs.declared.fact.Slot.{Slot}
use Rattle.facts.specs.declared.fact.Slot.TheVariants as slot
use Rattle.facts.specs.Parts.{error_of_part}
use Rattle.facts.specs.Conclusions.{bnd_of, fix_of}
use Rattle.facts.specs.RelativeConclusions.{rel_of}
use Rattle.facts.specs.Ranges.{IsBelow}
use Rattle.facts.specs.Places.{IsPlace, place_from}
use Rattle.goals.specs.declared.goal.Goal.{Goal}
use Rattle.goals.specs.declared.goal.Want.{Want}
use Rattle.goals.specs.declared.goal.Want.TheVariants.{Ask, Inside}
use Rattle.script_bounds.specs.Bounds.{low_of, high_of, down_end, written_range, outward_of}
use Rattle.script_bounds.specs.Bounds.{inward_of}
use Rattle.script_claims.specs.declared.claim.Claim.{Claim}
use Rattle.script_claims.specs.declared.claim.Claim.TheVariants.{Bounded, Asked, Relative}
use Rattle.script_claims.specs.declared.claim.Claim.TheVariants.{RelativeAsked, Above, Below}
use Rattle.script_claims.specs.declared.claim.Claim.TheVariants.{Multiple}

-- the bounds that are there have literals in normal form
abbrev pub HasNormalBounds : Claim → Type 0
HasNormalBounds (Bounded x lower upper) = IsWritten lower × IsWritten upper
HasNormalBounds (Relative x y lower upper) = IsWritten (Some lower) × IsWritten (Some upper)
HasNormalBounds (Above x n) = IsWritten (Some n)
HasNormalBounds (Below x n) = IsWritten (Some n)
HasNormalBounds _ = ⊤

-- a REL fact, where there is an interval and it lies above -1
abbrev pub relative_fact : ExprId → ExprId → Option Interval → Option Fact
relative_fact x y i = rel_of x y (error_of_part i)

-- The fact of a hypothesis, bounds rounded outward; none for questions, bounds out of order,
-- relative bounds reaching -1, and exponents out of range.
abbrev pub hypothesis_fact : Claim → Option Fact
hypothesis_fact (Bounded x lower upper) = bnd_of x (outward_of (written_range lower upper))
hypothesis_fact (Asked x) = None
hypothesis_fact (Relative x y lower upper) =
    relative_fact x y (outward_of (written_range (Some lower) (Some upper)))
hypothesis_fact (RelativeAsked x y) = None
hypothesis_fact (Above x n) = bnd_of x (outward_of (written_range (Some n) None))
hypothesis_fact (Below x n) = bnd_of x (outward_of (written_range None (Some n)))
hypothesis_fact (Multiple x k) = fix_of x (place_from k)

-- What the checks of a script leave to a hypothesis: the bounds of a relative claim are in order,
-- and the lower one, rounded down, is above -1; an exponent is in its range. A question isn't a
-- hypothesis.
abbrev pub IsHypothesis : Claim → Type 0
IsHypothesis (Bounded x lower upper) = ⊤
IsHypothesis (Asked x) = ⊥
IsHypothesis (Relative x y lower upper) = IsOrdered (low_of (Some lower)) (high_of (Some upper))
    × IsBelow (neg_ℚ one_ℚ) (bound_of (down_end (low_of (Some lower))))
IsHypothesis (RelativeAsked x y) = ⊥
IsHypothesis (Above x n) = ⊤
IsHypothesis (Below x n) = ⊤
IsHypothesis (Multiple x k) = IsPlace k

-- what settles it; nothing settles what is no goal
abbrev pub want_of : Claim → Want
want_of (Bounded x lower upper) = Inside (inward_of (written_range lower upper))
want_of (Asked x) = Ask
want_of (Relative x y lower upper) = Inside (inward_of (written_range (Some lower) (Some upper)))
want_of (RelativeAsked x y) = Ask
want_of (Above x n) = Inside None
want_of (Below x n) = Inside None
want_of (Multiple x k) = Inside None

-- what it is about
abbrev pub slot_of : Claim → Slot
slot_of (Bounded x lower upper) = slot.Bnd x
slot_of (Asked x) = slot.Bnd x
slot_of (Relative x y lower upper) = slot.Rel x y
slot_of (RelativeAsked x y) = slot.Rel x y
slot_of (Above x n) = slot.Bnd x
slot_of (Below x n) = slot.Bnd x
slot_of (Multiple x k) = slot.Fix x

-- ---- what the claims of a list give
-- what a goal is about, and what settles it: its bounds rounded inward
abbrev pub goal_of : Claim → Goal
goal_of c = record { of = slot_of c; want = want_of c }

-- The facts with that of a claim in front, where the claim gives one.
abbrev pub with_fact : Option Fact → List Fact → List Fact
with_fact (Some f) facts = f ∷ facts
with_fact None facts = facts

-- what the hypotheses give, their bounds rounded outward
abbrev pub facts_of : List Claim → List Fact
facts_of [] = []
facts_of (c ∷ cs) = with_fact (hypothesis_fact c) (facts_of cs)
