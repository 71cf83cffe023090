-- How a box stands, as its best table decides.
use Rattle.std.specs.Prelude.{ℕ, List, [], ◌∷◌, Option, Some, None}
use Rattle.facts.specs.declared.fact.Fact.{Fact}
use Rattle.goals.specs.declared.goal.Goal.{Goal}
use Rattle.derivation.specs.Derivations.{Setting, At}
use Rattle.derivation.specs.Known.{Piece}
use Rattle.derivation.specs.Settled as box
use Rattle.derivation.specs.Decided.{state_in}
use Rattle.derivation.specs.Exists.{table_at}
use Rattle.rule_universe.specs.Worlds.{World}
use Rattle.saturate.specs.Universes.{setting_of}
use Rattle.box_tree.specs.Plans.{pieces_at}
use Rattle.box_tree.specs.Regions.{PlanParts}
use Rattle.bisect.specs.declared.settler.State.{State}
use Rattle.bisect.specs.declared.settler.State.TheVariants as state

-- The facts with one more in front, where a table has it.
abbrev pub with_found : Option Fact → List Fact → List Fact
with_found None fs = fs
with_found (Some f) fs = f ∷ fs

-- the table's facts on the slots of the goals
abbrev pub goal_facts : At → List Goal → List Fact
goal_facts at [] = []
goal_facts at (g ∷ gs) = with_found (at g.of) (goal_facts at gs)

-- what a box comes to, with these facts where it is settled
abbrev pub state_with : box.State → List Fact → State
state_with box.settled facts = state.Settled facts
state_with box.void facts = state.Void
state_with (box.unsettled k) facts = state.Open k

-- how a box with this best table stands
abbrev pub standing_in : At → List Goal → State
standing_in at goals = state_with (state_in at goals) (goal_facts at goals)

-- how the box with these pieces stands
abbrev pub standing_at : Setting → List Goal → ℕ → List Piece → State
standing_at u goals height pieces = standing_in (table_at u height pieces) goals

-- how the plan's box at the path stands
abbrev pub state_at : World → PlanParts → ℕ → List ℕ → State
state_at u plan height path = standing_at (setting_of u) u.goals height (pieces_at plan path)
