-- The sinks in memory, as their callers see them.
use Rattle.std.specs.Prelude.{ℕ, List}
use Rattle.fx_edge.specs.Calls.{Numbered, no_calls}
use Rattle.fx_edge.specs.Held.{Held, empty_held}

-- what a sink took and can hold, and how many of its puts failed
pub record SureSinkState : Type 0 where
  pub held : Held
  pub faults : ℕ

-- a sink that was just made
abbrev pub new_sure_sink : ℕ → SureSinkState
new_sure_sink room = record { held = empty_held room; faults = 0 }

-- the same, with the rules by which calls fail and move bytes
pub record MemSinkState : Type 0 where
  pub held : Held
  pub faults : ℕ
  pub numbered : Numbered

-- a sink that was just made
abbrev pub new_mem_sink : List ℕ → ℕ → ℕ → MemSinkState
new_mem_sink failing room most =
    record { held = empty_held room; faults = 0; numbered = no_calls failing most }
