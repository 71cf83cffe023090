-- The calls of a form in memory, numbered from 1 over all its methods.
use Rattle.std.specs.Prelude.{ℕ, List, Contains}
use Rattle.fx_edge.specs.Outside.{next_count}

-- which calls fail by their number, how many calls there were, and how many bytes one moves at most
pub record Numbered : Type 0 where
  pub failing : List ℕ
  pub calls : ℕ
  pub most : ℕ

-- before the first call
abbrev pub no_calls : List ℕ → ℕ → Numbered
no_calls failing most = record { failing = failing; calls = 0; most = most }

-- after one more; the number stands still at 2^64 - 1
abbrev pub next_call : Numbered → Numbered
next_call c = record c { calls = next_count c.calls }

-- the next call fails by its number
abbrev pub FailsNext : Numbered → Type 0
FailsNext c = Contains c.failing (next_count c.calls)
