-- Laws of what specs/Rounds defines.
use Rattle.std.specs.Prelude.{◌+◌, ℕ, length, take}
use Rattle.rule_universe.specs.Worlds.{World}
use Rattle.box_trace.specs.Rounds.{variable_count}

-- ---- what is given
-- the same of the root, as far as the first n nodes
abbrev pub given_before : World → ℕ → ℕ
given_before u n = length u.hypotheses + variable_count (take n u.nodes)
