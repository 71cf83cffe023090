-- Numbers of instances by places. Only private functions cite these.
use Rattle.std.specs.Prelude.{◌≡◌, ◌↔◌, ◌⊎◌, ◌<◌, ◌≤◌, ℕ, List, Some, slice_get, length, Contains}
use Rattle.pair_closure.specs.Reached.{Has}
use Rattle.pair_closure.specs.Closure.{Pair}
use Rattle.facts.specs.declared.fact.Slot.{Slot}
use Rattle.facts.specs.declared.instance.Instance.{Instance}
use Rattle.rule_universe.specs.Places.{IsPlace, place_count}
use Rattle.rule_universe.specs.Users.{AreRising}

-- j stands in row p
abbrev pub InRow : List (List ℕ) → ℕ → ℕ → Type 0
InRow rows p j = (row : List ℕ) × (slice_get rows p ≡ Some row) × Has row j

-- rising, and none is above k
pub record AreUpTo (k : ℕ) (row : List ℕ) : Type 0 where
  pub rising : AreRising row
  pub most : (j : ℕ) → Has row j → j ≤ k

-- Each row is rising and has no instance number above k.
abbrev pub RowsUpTo : ℕ → List (List ℕ) → Type 0
RowsUpTo k rows = (p : ℕ) (row : List ℕ) → slice_get rows p ≡ Some row → AreUpTo k row

-- k stands in the rows of Q, besides what stood there
abbrev pub IsAdded : List (List ℕ) → List (List ℕ) → ℕ → (ℕ → Type 0) → Type 0
IsAdded old new k Q = (p j : ℕ) → InRow new p j ↔ (InRow old p j ⊎ ((j ≡ k) × Q p))

-- p is the place of one of the slots
abbrev pub IsPlaceOfOne : ℕ → List Pair → List Slot → ℕ → Type 0
IsPlaceOfOne n pairs ss p = (s : Slot) × Contains ss s × IsPlace n pairs s p

-- p is the place of a premise of instance j, which is one of the first m
abbrev pub IsTaken : ℕ → List Pair → List Instance → ℕ → ℕ → ℕ → Type 0
IsTaken n pairs instances m p j = (j < m)
    × ((i : Instance) × (slice_get instances j ≡ Some i) × IsPlaceOfOne n pairs i.premises p)

-- The rows of the first m instances: a row for each place, with the rising numbers of those that
-- have a premise there.
pub record AreRows (n : ℕ) (pairs : List Pair) (instances : List Instance) (m : ℕ)
    (rows : List (List ℕ)) : Type 0 where
  pub count : length rows ≡ place_count n pairs
  pub exactly : (p j : ℕ) → InRow rows p j ↔ IsTaken n pairs instances m p j
  pub rising : (p : ℕ) (row : List ℕ) → slice_get rows p ≡ Some row → AreRising row
