-- A log in a sweep.
use Rattle.std.specs.Prelude.{◌≡◌, ◌<◌, ◌≤◌, ◌+◌, ◌*◌, ◌^◌, ◌++◌, ℕ, List, length}
use Rattle.rule_universe.specs.Worlds.{World}
use Rattle.saturate.specs.Universes.{setting_of}
use Rattle.cert_bytes.specs.declared.item.StepRow.{StepRow}
use Rattle.tree_certificates.specs.Writing.{IsWritable}
use Rattle.box_trace.specs.declared.sweeping.Sweeping.{Sweeping}
use Rattle.box_trace.specs.Tables.{HasRows}
use Rattle.box_trace.specs.Logs.{GoesOn}
use Rattle.box_trace.specs.Rounds.{IsStepIn, IsEarlier, AreFromEarlier, premises_in}

-- The log's rows are those of the universe, and there are numbers for the steps that may come yet.
abbrev pub HasSpace : World → Sweeping → Type 0
HasSpace u t = HasRows u t.log.known
    × (4 * (t.log.first + length t.log.steps.items) + t.room < 4 * 2 ^ 64)

-- What a sweep came to from the first log: its own steps behind those of the first, each by an
-- instance, from steps before itself. They took the room that is gone.
pub record HasSwept (u : World) (first now : Sweeping) : Type 0 where
  pub goes_on : IsWritable (setting_of u) u.hints → GoesOn u first.log now.log
  pub first_is : now.log.first ≡ first.log.first
  pub own : List StepRow
  pub own_is : now.log.steps.items ≡ first.log.steps.items ++ own
  pub few : 4 * length own + now.room ≤ first.room
  pub cited : premises_in own + now.room ≤ first.room
  pub by : AreFromEarlier u (IsStepIn u first.log.known)
      (first.log.first + length first.log.steps.items)
      (first.log.first + length first.log.steps.items) own
  pub known : (n : ℕ) → IsStepIn u now.log.known n
      → IsEarlier (IsStepIn u first.log.known) (first.log.first + length first.log.steps.items)
      (first.log.first + length now.log.steps.items) n
