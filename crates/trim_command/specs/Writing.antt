-- What the new file holds.
use Rattle.std.specs.Prelude.{◌≡◌, ◌≤◌, ◌<◌, ◌^◌, List, length, Option}
use Rattle.cert_bytes.specs.declared.item.Item.{Item}
use Rattle.whole_texts.specs.Pieces.{HoldsAll, HoldsFront}
use Rattle.command_runs.specs.Runs.{Bytes}
use Rattle.command_runs.specs.Fates.{Left, Leaves, begun}
use Rattle.command_runs.specs.declared.status.Status.{Status}
use Rattle.command_runs.specs.declared.status.Status.TheVariants as status
use Rattle.report.specs.Certificates.{new_too_long_line}
use Rattle.trim_command.specs.Trimmed.{new_bytes, line_of, IsTrimmed, TrimPrints}

-- The items were written without unused steps; or they are too long so, and it is what it was.
abbrev pub Writes : List Item → Status → Bytes → Option Bytes → Option Bytes → Type 0
Writes items status.Answered lines old new = (length (new_bytes items) ≤ 2 ^ 44)
    × (lines ≡ line_of items) × HoldsAll (new_bytes items) old new
Writes items status.Certificate lines old new = (2 ^ 44 < length (new_bytes items))
    × (lines ≡ new_too_long_line) × (new ≡ old)
Writes items _ lines old new = ⊥

-- They aren't too long, and it holds what it held, or a front of them.
abbrev pub IsBegun : List Item → Option Bytes → Option Bytes → Type 0
IsBegun items old new = (length (new_bytes items) ≤ 2 ^ 44) × HoldsFront (new_bytes items) old new

-- ---- of a text and a certificate
-- this is answered, and it is left so
abbrev pub Answers : Bytes → Option Bytes → Option Bytes → Option Bytes → Status → Bytes → Type 0
Answers text cert old new s lines = (left : Left) × TrimPrints text cert s lines left
    × Leaves left old new

-- the way to such an answer, with the new file written, was broken off
abbrev pub BreaksOff : Bytes → Option Bytes → Option Bytes → Option Bytes → Type 0
BreaksOff text cert old new = (lines : Bytes) × (left : Left) × IsTrimmed text cert lines left
    × Leaves (begun left) old new
