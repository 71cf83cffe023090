-- A log in a round.
use Rattle.std.specs.Prelude.{◌≡◌, ◌<◌, ◌+◌, ◌*◌, ◌^◌, ℕ, List, None, length}
use Rattle.rule_universe.specs.Worlds.{World}
use Rattle.rule_universe.specs.Places.{place_count}
use Rattle.rule_universe.specs.declared.placed.Placed.{Placed}
use Rattle.box_trace.specs.declared.known.Known.{Known}
use Rattle.box_trace.specs.declared.gathering.Gathering.{Gathering}
use Rattle.box_trace.specs.Tables.{known_at, HasRows}
use Rattle.box_trace.specs.Scans.{IsScanned, IsGathered}
use Rattle.box_trace.specs.Logs.{IsRound}

-- Between rounds: the log's rows are those of the universe, and there are numbers for the steps of
-- so many rounds more.
abbrev pub HasRoom : World → ℕ → Gathering → Type 0
HasRoom u n t =
    HasRows u t.log.known × (t.log.first + length t.log.steps.items + n * 8192 < 2 ^ 64)

-- In a round nothing is written, and what was known before it stands there once more.
pub record IsBefore (u : World) (first t : Gathering) : Type 0 where
  pub log : t.log ≡ first.log
  pub now : t.now.rows.items ≡ t.log.known.rows.items
  pub count : length t.ends.items ≡ place_count (length u.nodes) u.pairs

-- The instances before this one were seen, and none concluded VOID.
pub record IsGathering (u : World) (first t : Gathering) (k : ℕ) : Type 0 where
  pub before : IsBefore u first t
  pub void : t.void ≡ None
  pub scanned : IsScanned u (known_at u t.log.known) t.ends.items k

-- All instances were seen, or one concluded VOID.
abbrev pub HasGathered : World → Gathering → Gathering → Type 0
HasGathered u first t =
    IsBefore u first t × IsGathered u (known_at u t.log.known) t.ends.items t.void

-- A whole round led from the first log to the other.
abbrev pub HasCome : World → Gathering → Gathering → List Placed → Type 0
HasCome u first t changed = (now : Known) × (now.rows.items ≡ first.log.known.rows.items)
    × IsRound u now first.log t.log changed
