-- Slots with their places, and rows of them by instance.
use Rattle.std.specs.Prelude.{◌≡◌, ◌++◌, ℕ, List, Some, length, slice_get, map, Contains}
use Rattle.pair_closure.specs.Closure.{Pair}
use Rattle.facts.specs.declared.fact.Slot.{Slot}
use Rattle.facts.specs.declared.instance.Instance.{Instance}
use Rattle.rule_universe.specs.declared.placed.Placed.{Placed}
use Rattle.rule_universe.specs.Places.{IsPlace}

-- their slots
abbrev pub slots_of : List Placed → List Slot
slots_of row = map (λ (p : Placed). p.slot) row

-- Each has the place of its slot.
abbrev pub IsPlaced : ℕ → List Pair → Placed → Type 0
IsPlaced n pairs p = IsPlace n pairs p.slot p.place

-- These are the slots, in their order, each with its place.
pub record ArePlaced (n : ℕ) (pairs : List Pair) (ss : List Slot) (row : List Placed) : Type 0 where
  pub slots : slots_of row ≡ ss
  pub places : (p : Placed) → Contains row p → IsPlaced n pairs p

-- By instance, its premises with their places.
pub record ArePremises (n : ℕ) (pairs : List Pair) (instances : List Instance)
    (rows : List (List Placed)) : Type 0 where
  pub count : length rows ≡ length instances
  pub each : (k : ℕ) (i : Instance) (row : List Placed) → slice_get instances k ≡ Some i
      → slice_get rows k ≡ Some row → ArePlaced n pairs i.premises row

-- By instance, the place of its target.
pub record AreTargets (n : ℕ) (pairs : List Pair) (instances : List Instance)
    (places : List ℕ) : Type 0 where
  pub count : length places ≡ length instances
  pub each : (k : ℕ) (i : Instance) (p : ℕ) → slice_get instances k ≡ Some i
      → slice_get places k ≡ Some p → IsPlace n pairs i.target p

-- The second list is the first with the slots and their places behind it.
abbrev pub AddsPlaced : ℕ → List Pair → List Slot → List Placed → List Placed → Type 0
AddsPlaced n pairs ss old new = (row : List Placed) × (new ≡ old ++ row) × ArePlaced n pairs ss row
