-- How runs end, by what their parts did: the laws that the commands' proofs rest on.
use Rattle.std.specs.Prelude.{◌≡◌, ◌⊎◌, ℕ, Option}
use Rattle.std.specs.Io.KnownBytes.{Appends, Keeps}
use Rattle.fx_edge.specs.Outside.{Rose}
use Rattle.whole_texts.specs.Pieces.{AppendsFront}
use Rattle.whole_texts.specs.declared.read.ReadStop.{ReadStop}
use Rattle.whole_texts.specs.declared.read.ReadStop.TheVariants as stop
use Rattle.command_runs.specs.Runs.{Bytes}
use Rattle.command_runs.specs.Statuses.{read_fault_line}
use Rattle.command_runs.specs.declared.status.Status.{Status}
use Rattle.command_runs.specs.declared.status.Status.TheVariants as status

-- ---- what is put
-- The lines were put, and this is the status; or a put failed, and the sink took a front of them.
abbrev pub IsPut : Status → Bytes → Option Bytes → Option Bytes → ℕ → ℕ → Status → Type 0
IsPut s lines old new before after result =
    ((result ≡ s) × Appends old new lines)
    ⊎ ((result ≡ status.WriteFault) × AppendsFront old new lines × Rose before after)

-- Why a file of this name wasn't read was put; or memory ran out, and the sink took nothing.
abbrev pub IsStopPut : ReadStop → Bytes → Option Bytes → Option Bytes → ℕ → ℕ → Status → Type 0
IsStopPut why name old new before after result =
    ((result ≡ status.OutOfMemory) × Keeps old new)
    ⊎ ((why ≡ stop.Fault)
    × IsPut status.ReadFault (read_fault_line name) old new before after result)

-- The lines were put; or memory ran out before they were made, and the sink took nothing.
abbrev pub IsLinePut : Status → Bytes → Option Bytes → Option Bytes → ℕ → ℕ → Status → Type 0
IsLinePut s lines old new before after result =
    ((result ≡ status.OutOfMemory) × Keeps old new) ⊎ IsPut s lines old new before after result
