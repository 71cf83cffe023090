-- Laws of what specs/Gathered defines.
use Rattle.std.specs.Prelude.{◌≤◌, All, Option, Some, None}
use Rattle.bisect.specs.Trees.{Tree, child_count}
use Rattle.box_workers.specs.declared.fate.Held.{Held}
use Rattle.box_workers.specs.declared.record.Record.{Record}
use Rattle.box_workers.specs.Records.{IsLeafWithState}

-- a held box has pushed no more children than it has
abbrev pub Few : {E : Type 0} → Tree → Option (Held E) → Type 0
Few t None = Unit {0}
Few t (Some b) = b.pushed ≤ child_count t b.task.path

-- the settled boxes of the record are leaves, with their states, and its held box has pushed no
-- more children than it has
abbrev pub IsPart : {E : Type 0} → Tree → Record E → Type 0
IsPart t r = All (IsLeafWithState t) r.settled.items × Few t r.held
