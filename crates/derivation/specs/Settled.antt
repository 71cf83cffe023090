-- When a box is settled, and what it comes to.
use Rattle.std.specs.Prelude.{◌≡◌, ◌<◌, ℕ, List, Some, slice_get}
use Rattle.facts.specs.declared.fact.Fact.{Fact}
use Rattle.facts.specs.declared.fact.Fact.TheVariants as fact
use Rattle.goals.specs.Settles.{Settles}
use Rattle.goals.specs.declared.goal.Goal.{Goal}
use Rattle.derivation.specs.Derivations.{Setting}
use Rattle.derivation.specs.Known.{Piece, Known}

-- Some known fact settles the goal.
abbrev pub IsSettled : Setting → ℕ → List Piece → Goal → Type 0
IsSettled u height pieces goal = (f : Fact) × Known u height pieces f × Settles goal f

-- What a box comes to.
pub data State : Type 0 where
  settled : State
  void : State
  unsettled : ℕ → State

-- goal k is there and open, and each goal before it is settled
pub record IsFirstOpen (u : Setting) (goals : List Goal) (height : ℕ)
    (pieces : List Piece) (k : ℕ) : Type 0 where
  pub goal : Goal
  pub there : slice_get goals k ≡ Some goal
  pub still_open : ¬ IsSettled u height pieces goal
  pub before : (j : ℕ) (earlier : Goal) → j < k → slice_get goals j ≡ Some earlier
      → IsSettled u height pieces earlier

-- The box comes to this: VOID is known; or it isn't and each goal is settled; or it isn't and k is
-- the first open goal.
abbrev pub IsState : Setting → List Goal → ℕ → List Piece → State → Type 0
IsState u goals height pieces void = Known u height pieces fact.Void
IsState u goals height pieces settled = (¬ Known u height pieces fact.Void)
    × ((k : ℕ) (goal : Goal) → slice_get goals k ≡ Some goal → IsSettled u height pieces goal)
IsState u goals height pieces (unsettled k) = (¬ Known u height pieces fact.Void)
    × IsFirstOpen u goals height pieces k
