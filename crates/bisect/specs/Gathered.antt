-- The lines of goals, gathered over leaves.
use Rattle.std.specs.Prelude.{◌≡◌, ⊤, ℕ, List, [], ◌∷◌, map, slice_get, Option, Some, None}
use Rattle.std.specs.List.{AllByRecursion, range_with_len}
use Rattle.facts.specs.declared.fact.Fact.{Fact}
use Rattle.facts.specs.declared.fact.Slot.{Slot}
use Rattle.facts.specs.Order.{slot_of}
use Rattle.goals.specs.declared.line.Line.{Line}
use Rattle.goals.specs.declared.line.Line.TheVariants as line
use Rattle.goals.specs.Joined.{joined}
use Rattle.goals.specs.Holds.{IsOfGoal}
use Rattle.bisect.specs.declared.settler.State.{State}
use Rattle.bisect.specs.declared.settler.State.TheVariants as state
use Rattle.bisect.specs.declared.outcome.Leaf.{Leaf}

-- The line with what one leaf knows of the goal, if anything.
abbrev pub with_known : Line → Option Fact → Line
with_known l None = l
with_known l (Some f) = joined l f

-- the line of the goal number k with what one more leaf knows; where no assignment is left, that is
-- nothing
abbrev pub with_state : ℕ → Line → State → Line
with_state k l (state.Settled facts) = with_known l (slice_get facts k)
with_state k l _ = l

-- The line of the goal number k, from this one on, with what each of these leaves knows.
abbrev pub line_with : ℕ → Line → List Leaf → Line
line_with k l [] = l
line_with k l (x ∷ xs) = line_with k (with_state k l x.state) xs

-- The line of the goal number k: the hull of what the leaves know.
abbrev pub line_of : List Leaf → ℕ → Line
line_of leaves k = line_with k line.Empty leaves

-- the lines of so many goals
abbrev pub lines_of : List Leaf → ℕ → List Line
lines_of leaves goals = map (line_of leaves) (range_with_len 0 goals)

-- What a box's state says is true: its facts are those of the goals' slots and hold, and there is
-- an assignment.
abbrev pub IsTrueState : (Fact → Type 0) → List Slot → State → Type 0
IsTrueState Holds slots (state.Settled facts) =
    (map slot_of facts ≡ slots) × AllByRecursion IsOfGoal facts × AllByRecursion Holds facts
IsTrueState Holds slots state.Void = ⊥
IsTrueState Holds slots (state.Open goal) = ⊤
