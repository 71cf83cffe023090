-- What a universe has, and what each universe keeps.
use Rattle.std.specs.Prelude.{◌≡◌, ◌<◌, ◌≤◌, ℕ, List, Some, length, slice_get, Contains, ⊤}
use Rattle.fx_model.specs.declared.Node.{Node}
use Rattle.pair_closure.specs.Reached.{Has, IsEachOnce}
use Rattle.pair_closure.specs.Closure.{Pair}
use Rattle.facts.specs.declared.fact.Fact.{Fact}
use Rattle.facts.specs.declared.fact.Slot.{Slot}
use Rattle.facts.specs.declared.fact.Slot.TheVariants as slot
use Rattle.facts.specs.declared.hint.HintRow.{HintRow}
use Rattle.facts.specs.Order.{slot_of}
use Rattle.facts.specs.declared.instance.Instance.{Instance}
use Rattle.goals.specs.declared.goal.Goal.{Goal}
use Rattle.derivation.specs.Derivations.{IsClosed}

-- Expressions, pairs, goals, hypotheses as facts, rows of hints, instances of rules.
pub record World : Type 0 where
  pub nodes : List Node
  pub pairs : List Pair
  pub goals : List Goal
  pub hypotheses : List Fact
  pub hints : List HintRow
  pub instances : List Instance

-- The slot speaks of one of the first n expressions, or of one of the pairs; or it is VOID.
abbrev pub IsSlot : ℕ → List Pair → Slot → Type 0
IsSlot n pairs (slot.Bnd x) = x.0 < n
IsSlot n pairs (slot.Abs x) = x.0 < n
IsSlot n pairs (slot.Fix x) = x.0 < n
IsSlot n pairs (slot.Nzr x) = x.0 < n
IsSlot n pairs (slot.Rel x y) = Has pairs (x, y)
IsSlot n pairs slot.Void = ⊤

-- the slot is one of the universe
abbrev pub HasSlot : World → Slot → Type 0
HasSlot u s = IsSlot (length u.nodes) u.pairs s

-- What each universe keeps: no pair stands twice; there are at most 1,024 pairs; beside each
-- instance of the shrinking rule stands that of the rule for "no multiple is left"; instances and
-- hypotheses are about slots of the universe.
pub record IsWhole (u : World) : Type 0 where
  pub once : IsEachOnce u.pairs
  pub few : length u.pairs ≤ 1024
  pub closed : IsClosed u.instances
  pub targets : (k : ℕ) (i : Instance) → slice_get u.instances k ≡ Some i → HasSlot u i.target
  pub premises : (k : ℕ) (i : Instance) → slice_get u.instances k ≡ Some i → (s : Slot)
      → Contains i.premises s → HasSlot u s
  pub hypotheses : (k : ℕ) (f : Fact) → slice_get u.hypotheses k ≡ Some f → HasSlot u (slot_of f)
