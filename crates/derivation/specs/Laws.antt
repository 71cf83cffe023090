-- What is promised of derivations.
use Rattle.std.specs.Prelude.{◌≡◌, ℕ, List, Some, None, slice_get, Contains}
use Rattle.fx_model.specs.Expression.{Assignment, IsOrdered}
use Rattle.facts.specs.declared.fact.Fact.{Fact}
use Rattle.facts.specs.declared.fact.Slot.TheVariants as slot
use Rattle.facts.specs.Holds.{Holds}
use Rattle.goals.specs.declared.goal.Goal.{Goal}
use Rattle.goals.specs.Settles.{Settles}
use Rattle.derivation.specs.Lists.{IsLawful, IsSoundFor}
use Rattle.derivation.specs.Derivations.{Setting, At, IsClosed, IsBest}
use Rattle.derivation.specs.Known.{Piece, GivenAt, Known, IsTableAt}
use Rattle.derivation.specs.Settled.{State, settled, void, IsState}
use Rattle.derivation.specs.Rounds.{IsSame}
use Rattle.derivation.specs.Exists.{table_at, table_of_height}
use Rattle.derivation.specs.Decided.{state_in}
use Rattle.derivation.specs.Sound.{LiesInBox}
use Rattle.derivation.specs.Sets.{HasAll}

-- The function `table_at` gives the best table of each box.
abbrev pub TablesExist : Type 0
TablesExist = (u : Setting) → IsLawful u.rules → IsClosed u.instances
    → (height : ℕ) (pieces : List Piece) → IsTableAt u height pieces (table_at u height pieces)

-- Where VOID isn't known, a box has one best table.
abbrev pub TablesAreOne : Type 0
TablesAreOne = (u : Setting) (height : ℕ) (pieces : List Piece) (at new : At)
    → IsTableAt u height pieces at → IsTableAt u height pieces new
    → at slot.Void ≡ None → IsSame at new

-- The function `table_of_height` gives the best table of each height over what is given at a box:
-- bounds of steps speak of something.
abbrev pub HeightsExist : Type 0
HeightsExist = (u : Setting)
    → IsLawful u.rules → IsClosed u.instances → (height : ℕ) (pieces : List Piece) (r : ℕ)
    → IsBest u (GivenAt u height pieces) r (table_of_height u height pieces r)

-- A box comes to what its best table decides, and to nothing else.
pub record BoxesComeToOneState : Type 0 where
  pub decided : (u : Setting) (goals : List Goal) (height : ℕ) (pieces : List Piece) (at : At)
      → IsTableAt u height pieces at → IsState u goals height pieces (state_in at goals)
  pub one : (u : Setting) (goals : List Goal) (height : ℕ) (pieces : List Piece) (s t : State)
      → IsState u goals height pieces s → IsState u goals height pieces t → s ≡ t

-- Where the rules are sound for an assignment that meets the hypotheses and lies in the box, each
-- known fact holds of it.
abbrev pub KnownFactsHold : Type 0
KnownFactsHold = (u : Setting) (a : Assignment) → IsSoundFor u.nodes a u.rules → IsOrdered u.nodes
    → ((f : Fact) → Contains u.hypotheses f → Holds u.nodes a f)
    → (height : ℕ) (pieces : List Piece) → LiesInBox u.nodes a pieces → (f : Fact)
    → Known u height pieces f → Holds u.nodes a f

-- The same of what a box comes to: where it is settled, each goal has a fact that settles it and
-- holds; where VOID is known, no such assignment lies in the box.
abbrev pub SettledBoxesHold : Type 0
SettledBoxesHold = (u : Setting) (goals : List Goal) (a : Assignment) → IsSoundFor u.nodes a u.rules
    → IsOrdered u.nodes → ((f : Fact) → Contains u.hypotheses f → Holds u.nodes a f)
    → (height : ℕ) (pieces : List Piece) → LiesInBox u.nodes a pieces →
    (IsState u goals height pieces settled → (k : ℕ) (goal : Goal) → slice_get goals k ≡ Some goal
    → (f : Fact) × Settles goal f × Holds u.nodes a f) × (¬ IsState u goals height pieces void)

-- Over a setting that has each hypothesis and instance of another, in whatever order, all is known
-- that is known over that; over two that have the same, boxes come to the same.
pub record KnownFactsAreOfSets : Type 0 where
  pub known : (u v : Setting) → HasAll u v → (height : ℕ) (pieces : List Piece) (f : Fact)
      → Known u height pieces f → Known v height pieces f
  pub state : (u v : Setting) → HasAll u v → HasAll v u
      → (goals : List Goal) (height : ℕ) (pieces : List Piece) (s : State)
      → IsState u goals height pieces s → IsState v goals height pieces s
