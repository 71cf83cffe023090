-- Laws of what specs/Fates defines.
use Rattle.std.specs.Prelude.{◌≡◌, ◌⊎◌, Option, IfSome}
use Rattle.command_runs.specs.Runs.{Bytes}
use Rattle.command_runs.specs.Fates.{Left, Kept, Begun}

-- ---- fates
-- a front of such bytes may stand there, or what it held
abbrev pub MayBegin : (Bytes → Type 0) → Left → Type 0
MayBegin P left = (left ≡ Kept) ⊎ ((bytes : Option Bytes) × (left ≡ Begun bytes) × IfSome bytes P)
