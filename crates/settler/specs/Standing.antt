-- How a box stands, by what is known there.
use Rattle.std.specs.Prelude.{◌≡◌, ℕ, List, [], ◌∷◌}
use Rattle.facts.specs.declared.fact.Fact.{Fact}
use Rattle.facts.specs.declared.fact.Slot.{Slot}
use Rattle.facts.specs.declared.fact.Fact.TheVariants as fact
use Rattle.facts.specs.Order.{slot_of, IsStronger}
use Rattle.goals.specs.Settles.{Settles}
use Rattle.goals.specs.declared.goal.Goal.{Goal}
use Rattle.derivation.specs.Derivations.{Setting}
use Rattle.derivation.specs.Known.{Piece, Known}
use Rattle.derivation.specs.Settled.{IsFirstOpen}
use Rattle.rule_universe.specs.Worlds.{World}
use Rattle.saturate.specs.Universes.{setting_of}
use Rattle.box_tree.specs.Plans.{pieces_at}
use Rattle.box_tree.specs.Regions.{PlanParts}
use Rattle.bisect.specs.declared.settler.State.{State}
use Rattle.bisect.specs.declared.settler.State.TheVariants as state

-- The fact is known at the box, and is as strong as each that is known there on its slot, or
-- stronger.
pub record IsBestKnown (u : Setting) (height : ℕ) (pieces : List Piece) (s : Slot)
    (f : Fact) : Type 0 where
  pub on_slot : slot_of f ≡ s
  pub known : Known u height pieces f
  pub least : (g : Fact) → Known u height pieces g → slot_of g ≡ s → IsStronger f g

-- one fact for each goal, in their order: the best that is known on its slot, and it settles the
-- goal
abbrev pub AreSettledBy : Setting → ℕ → List Piece → List Goal → List Fact → Type 0
AreSettledBy u height pieces [] [] = Unit {0}
AreSettledBy u height pieces (g ∷ gs) (f ∷ fs) = IsBestKnown u height pieces g.of f × Settles g f
    × AreSettledBy u height pieces gs fs
AreSettledBy u height pieces _ _ = ⊥

-- The box is void where VOID is known. Where it isn't, it is settled where each goal is, and open
-- at the least goal that isn't.
abbrev pub StandsAs : Setting → List Goal → ℕ → List Piece → State → Type 0
StandsAs u goals height pieces state.Void = Known u height pieces fact.Void
StandsAs u goals height pieces (state.Settled facts) = (¬ Known u height pieces fact.Void)
    × AreSettledBy u height pieces goals facts
StandsAs u goals height pieces (state.Open k) = (¬ Known u height pieces fact.Void)
    × IsFirstOpen u goals height pieces k

-- Each box of the plan stands so, by derivations over the universe of at most this height.
abbrev pub AreStates : World → PlanParts → ℕ → (List ℕ → State) → Type 0
AreStates u plan height states = (path : List ℕ)
    → StandsAs (setting_of u) u.goals height (pieces_at plan path) (states path)
