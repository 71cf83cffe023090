-- The two tables of a round. Only private functions cite these.
use Rattle.std.specs.Prelude.{◌≡◌, ◌⊎◌, ◌<◌, ℕ, List, None, length, Contains}
use Rattle.facts.specs.declared.fact.Slot.TheVariants as slot
use Rattle.derivation.specs.Derivations.{Setting}
use Rattle.derivation.specs.Rounds.{IsAhead, IsSame, AllSeen}
use Rattle.derivation.specs.Changes.{IsListed}
use Rattle.derivation.specs.Counts.{AreRisen}
use Rattle.rule_universe.specs.declared.placed.Placed.{Placed}
use Rattle.rule_universe.specs.Placed.{slots_of, IsPlaced}
use Rattle.rule_universe.specs.Worlds.{World}
use Rattle.saturate.specs.declared.kept.Tables.{Tables}
use Rattle.saturate.specs.Tables.{fact_at}
use Rattle.saturate.specs.Universes.{HasAllPlaces}
use Rattle.saturate.specs.Keeping.{IsWhole}

-- It has the place of its slot, or its slot is VOID.
abbrev pub IsKnown : World → Placed → Type 0
IsKnown u p = IsPlaced (length u.nodes) u.pairs p ⊎ (p.slot ≡ slot.Void)

-- All have their places.
abbrev pub AreKnown : World → List Placed → Type 0
AreKnown u changed = (p : Placed) → Contains changed p → IsKnown u p

-- Between rounds: both tables have the places of the universe, and the same facts, unless VOID is
-- known.
pub record AreReady (u : World) (t : Tables) : Type 0 where
  pub places : HasAllPlaces u t.now
  pub places_next : HasAllPlaces u t.next
  pub same : fact_at t.now slot.Void ≡ None → IsSame (fact_at t.now) (fact_at t.next)

-- In a round: the one table is as it was, and the other has what the instances that were seen
-- conclude from it.
pub record AreAtWork (s : Setting) (u : World) (first t : Tables) (changed : List Placed)
    (Seen : ℕ → Type 0) : Type 0 where
  pub now : t.now ≡ first.now
  pub no_void : fact_at t.now slot.Void ≡ None
  pub ahead : IsAhead s (fact_at t.now) (fact_at t.next) Seen
  pub listed : IsListed (slots_of changed) (fact_at t.now) (fact_at t.next)
  pub known : AreKnown u changed
  pub risen : AreRisen (slots_of changed) (fact_at t.now) (fact_at t.next)
  pub places : HasAllPlaces u t.now
  pub places_next : HasAllPlaces u t.next

-- The instances before this one were seen, and VOID wasn't found.
abbrev pub AreGoing : Setting → World → Tables → Tables → List Placed → ℕ → Type 0
AreGoing s u first t changed k =
    AreAtWork s u first t changed (λ j. j < k) × (fact_at t.next slot.Void ≡ None)

-- All instances were seen, or VOID was found.
abbrev pub AreGathered : Setting → World → Tables → Tables → List Placed → Type 0
AreGathered s u first t changed = AreAtWork s u first t changed AllSeen

-- A whole round led from the first tables to the others, and the slots that are listed rose.
pub record HasComeTo (s : Setting) (u : World) (first t : Tables) (changed : List Placed) :
    Type 0 where
  pub whole : IsWhole s u (fact_at first.now) (fact_at t.now) changed
  pub risen : AreRisen (slots_of changed) (fact_at first.now) (fact_at t.now)
  pub ready : AreReady u t
