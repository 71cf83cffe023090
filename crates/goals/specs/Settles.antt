-- When a fact settles a goal.
use Rattle.std.specs.Prelude.{◌≡◌, ⊤, Some, None}
use Rattle.fx_model.specs.Enclosure.{IsFinite}
use Rattle.interval.specs.declared.interval.Interval.{Interval}
use Rattle.interval.specs.Intervals.{range_of}
use Rattle.facts.specs.declared.fact.Fact.{Fact}
use Rattle.facts.specs.declared.fact.Fact.TheVariants as fact
use Rattle.facts.specs.Order.{slot_of, IsWithin}
use Rattle.goals.specs.declared.goal.Want.{Want}
use Rattle.goals.specs.declared.goal.Want.TheVariants.{Ask, Inside}
use Rattle.goals.specs.declared.goal.Goal.{Goal}

-- The interval is what is wanted: its ends are finite, or it lies inside the bounds. Nothing lies
-- inside bounds that cross.
abbrev pub IsWanted : Want → Interval → Type 0
IsWanted Ask i = IsFinite (range_of i)
IsWanted (Inside (Some bounds)) i = IsWithin i bounds
IsWanted (Inside None) i = ⊥

-- The fact's interval is what is wanted. That both sides are 0 is enough, whatever is wanted of a
-- relative error.
abbrev pub HasWanted : Want → Fact → Type 0
HasWanted want (fact.Bnd x i) = IsWanted want i
HasWanted want (fact.Rel x y (Some e)) = IsWanted want e.interval
HasWanted want (fact.Rel x y None) = ⊤
HasWanted want _ = ⊥

-- The fact settles the goal: it stands on the goal's slot, and has what is wanted.
abbrev pub Settles : Goal → Fact → Type 0
Settles goal f = (slot_of f ≡ goal.of) × HasWanted goal.want f
