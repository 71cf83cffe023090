-- A universe with other hypotheses.
use Rattle.std.specs.Prelude.{◌≡◌, ℕ, List, Some, slice_get}
use Rattle.facts.specs.declared.fact.Fact.{Fact}
use Rattle.facts.specs.Order.{slot_of}
use Rattle.rule_universe.specs.Worlds.{World, HasSlot}

-- with these facts as its hypotheses
abbrev pub assuming : World → List Fact → World
assuming u facts = record {
  nodes = u.nodes;
  pairs = u.pairs;
  goals = u.goals;
  hypotheses = facts;
  hints = u.hints;
  instances = u.instances;
}

-- each is about a slot of the universe
abbrev pub HaveSlots : World → List Fact → Type 0
HaveSlots u facts = (k : ℕ) (f : Fact) → slice_get facts k ≡ Some f → HasSlot u (slot_of f)
