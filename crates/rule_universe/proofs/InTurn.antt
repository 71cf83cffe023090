-- Slots with their places, taken in turn.
use Rattle.std.specs.Prelude.{◌≡◌, ◌<◌, ◌+◌, ℕ, List, ◌∷◌, length, drop, slice_index_or}
use Rattle.std.proofs.Common.{add-one}
use Rattle.std.proofs.Math.Seq.{drop-cons}
use Rattle.facts.specs.declared.fact.Slot.TheVariants as slot
use Rattle.rule_universe.specs.declared.placed.Placed.{Placed}

-- what stands behind the last one
abbrev pub none_left : Placed
none_left = record { slot = slot.Bnd (record { 0 = 0 }); place = 0 }

-- the one with this index
abbrev pub here : List Placed → ℕ → Placed
here placed i = slice_index_or placed i none_left

-- it is the first of what is left from there
pub rest_is : (placed : List Placed) (i : ℕ) → i < length placed
    → drop i placed ≡ here placed i ∷ drop (i + 1) placed
rest_is placed i h = rw (add-one i) (drop-cons placed i none_left h)
