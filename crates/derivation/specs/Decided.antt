-- What a box comes to, decided by its best table.
use Rattle.std.specs.Prelude.{◌&&◌, ℕ, zero, suc, Bool, true, false, List, [], ◌∷◌, Option, Some}
use Rattle.std.specs.Prelude.{None, if◌then◌else◌}
use Rattle.fx_model.specs.Grid.{Bound, At, le_bound}
use Rattle.interval.specs.declared.interval.Interval.{Interval}
use Rattle.interval.specs.Intervals.{range_of}
use Rattle.facts.specs.declared.fact.Fact.{Fact}
use Rattle.facts.specs.declared.fact.Slot.{Slot}
use Rattle.facts.specs.declared.fact.Fact.TheVariants as fact
use Rattle.facts.specs.declared.fact.Slot.TheVariants as slot
use Rattle.goals.specs.declared.goal.Want.{Want}
use Rattle.goals.specs.declared.goal.Want.TheVariants.{Ask, Inside}
use Rattle.goals.specs.declared.goal.Goal.{Goal}
use Rattle.derivation.specs.Settled.{State, settled, void, unsettled}

-- Whether the end of a range is finite.
abbrev pub is_number : Bound → Bool
is_number (At g) = true
is_number _ = false

-- whether both ends are finite
abbrev pub is_finite : Interval → Bool
is_finite i = is_number (range_of i).low && is_number (range_of i).high

-- whether the first interval lies within the second
abbrev pub is_within : Interval → Interval → Bool
is_within i j =
    le_bound (range_of j).low (range_of i).low && le_bound (range_of i).high (range_of j).high

-- whether the interval is what is wanted
abbrev pub is_wanted : Want → Interval → Bool
is_wanted Ask i = is_finite i
is_wanted (Inside (Some bounds)) i = is_within i bounds
is_wanted (Inside None) i = false

-- whether the fact that is there, if any, has what is wanted
abbrev pub has_wanted : Want → Option Fact → Bool
has_wanted want (Some (fact.Bnd x i)) = is_wanted want i
has_wanted want (Some (fact.Rel x y (Some e))) = is_wanted want e.interval
has_wanted want (Some (fact.Rel x y None)) = true
has_wanted want _ = false

-- whether the table's fact on the goal's slot settles it
abbrev pub is_settled : (Slot → Option Fact) → Goal → Bool
is_settled at goal = has_wanted goal.want (at goal.of)

-- The number of a goal of a list, if any, where one goal more stands before the list.
abbrev pub one_later : Option ℕ → Option ℕ
one_later None = None
one_later (Some k) = Some (suc k)

-- the least goal that isn't settled
abbrev pub first_open : (Slot → Option Fact) → List Goal → Option ℕ
first_open at [] = None
first_open at (goal ∷ goals) =
    if is_settled at goal then one_later (first_open at goals) else Some zero

-- What a box comes to, by its VOID fact, if it has one, and by its first open goal, if any.
abbrev pub state_by : Option Fact → Option ℕ → State
state_by (Some f) o = void
state_by None None = settled
state_by None (Some k) = unsettled k

-- what a box with this best table comes to
abbrev pub state_in : (Slot → Option Fact) → List Goal → State
state_in at goals = state_by (at slot.Void) (first_open at goals)
