-- What a command prints at each status, what it leaves in the file that it writes, and how it ends.
use Rattle.std.specs.Prelude.{◌≡◌, ◌≢◌, ◌⊎◌, ⊤, Option, Some, None, IfSome}
use Rattle.whole_texts.specs.Pieces.{HoldsAll, HoldsFront}
use Rattle.command_runs.specs.Runs.{Bytes, Told, Run, IsKept, IsSilent, Puts, PutsFront, ReadFailed}
use Rattle.command_runs.specs.Runs.{WriteFailed, PutFailed}
use Rattle.command_runs.specs.Statuses.{read_fault_line}
use Rattle.command_runs.specs.declared.status.Status.{Status}
use Rattle.command_runs.specs.declared.status.Status.TheVariants as status

-- What is left in the written file: what it held; these bytes whole; or what it held, or a front of
-- these. (The bytes are named where the folder tells the file, and may be otherwise.)
pub data Left : Type 0 where
  Kept : Left
  Whole : Option Bytes → Left
  Begun : Option Bytes → Left

-- the file held the first bytes, where they are told, and holds the second
abbrev pub Leaves : Left → Option Bytes → Option Bytes → Type 0
Leaves Kept old new = new ≡ old
Leaves (Whole None) old new = old ≡ None
Leaves (Whole (Some bytes)) old new = HoldsAll bytes old new
Leaves (Begun None) old new = (old ≡ None) ⊎ (new ≡ old)
Leaves (Begun (Some bytes)) old new = HoldsFront bytes old new

-- what a run that broke off may leave
abbrev pub begun : Left → Left
begun Kept = Kept
begun (Whole bytes) = Begun bytes
begun (Begun bytes) = Begun bytes

-- Which lines a status has, with what is left in the written file.
abbrev pub Fate : Type 1
Fate = Status → Bytes → Left → Type 0

-- the file of this name is left so; where none is named, nothing is said
abbrev pub Written : Option Bytes → Left → Run → Type 0
Written name left r = (n : Bytes) → name ≡ Some n → Leaves left (r.before.told n) (r.after.told n)

-- It came to its end: the lines were put whole, and the file is left so.
pub record IsDone (name : Option Bytes) (lines : Bytes) (left : Left) (r : Run) : Type 0 where
  pub put : Puts r lines
  pub file : Written name left r

-- It broke off: a front of the lines was put, and no byte of them before the file was left as these
-- lines have it. After a write fault it is so where no read and no write of the folder failed.
pub record IsBrokenOff (name : Option Bytes) (lines : Bytes) (left : Left) (r : Run) : Type 0 where
  pub put : PutsFront r lines
  pub file : Written name (begun left) r
  pub order : IsSilent r ⊎ Written name left r
  pub quiet : r.status ≡ status.WriteFault → ¬ ReadFailed r → ¬ WriteFailed r → Written name left r

-- nothing was put or written
pub record IsUntouched (r : Run) : Type 0 where
  pub silent : IsSilent r
  pub files : (name : Bytes) → IsKept r name

-- it broke off on the way to a status with its lines and file
abbrev pub BreaksOff : Option Bytes → Fate → Run → Type 0
BreaksOff name P r = (s : Status) × (lines : Bytes) × (left : Left) × P s lines left
    × IsBrokenOff name lines left r

-- The ways in which a run ends: it came to its end; it broke off; or memory ran out.
pub data Ending : Type 0 where
  Done : Ending
  BrokeOff : Ending
  Starved : Ending

-- The way in which a run of this status ends; each comes to its end but for a write fault and lack
-- of memory.
abbrev pub ending : Status → Ending
ending status.WriteFault = BrokeOff
ending status.OutOfMemory = Starved
ending s = Done

-- How a run of this status ends: it came to its end; or it broke off; where memory ran out that, or
-- it did nothing.
abbrev pub EndsBy : Ending → Status → Option Bytes → Fate → Run → Type 0
EndsBy Done s name P r =
    (lines : Bytes) × (left : Left) × P s lines left × IsDone name lines left r
EndsBy BrokeOff s name P r = BreaksOff name P r
EndsBy Starved s name P r = IsUntouched r ⊎ BreaksOff name P r

-- How a run of this status ends, in the way that the status has.
abbrev pub EndsIn : Status → Option Bytes → Fate → Run → Type 0
EndsIn s name P r = EndsBy (ending s) s name P r

-- A run whose command has this fate and writes the file of this name, or none. No other name's
-- bytes change, and a write fault comes only of a put that failed, or of a write where a file is
-- written.
pub record Runs (name : Option Bytes) (P : Fate) (r : Run) : Type 0 where
  pub ends : EndsIn r.status name P r
  pub others : (other : Bytes) → name ≢ Some other → IsKept r other
  pub cause : r.status ≡ status.WriteFault → PutFailed r ⊎ ((name ≢ None) × WriteFailed r)

-- this status came; or in its place a fault of the outside, or lack of memory
abbrev pub Comes : Status → Status → Type 0
Comes s t = (t ≡ s)
    ⊎ (t ≡ status.ReadFault) ⊎ (t ≡ status.WriteFault) ⊎ (t ≡ status.OutOfMemory)

-- the folder tells each name that is read
abbrev pub AreTold : (Bytes → Type 0) → Told → Type 0
AreTold Reads told = (name : Bytes) → Reads name → (text : Bytes) × (told name ≡ Some text)

-- Where all that is read is told, the status that has lines comes.
abbrev pub IsExact : (Bytes → Type 0) → Fate → Run → Type 0
IsExact Reads P r = (s : Status) (lines : Bytes) (left : Left) → AreTold Reads r.before.told
    → s ≢ status.ReadFault → P s lines left → Comes s r.status

-- A run of a command with this fate, which writes the file of this name, or none, and reads these
-- names. Where it says so of the status, no name's bytes change.
pub record IsRunOf (name : Option Bytes) (Reads : Bytes → Type 0) (MayChange : Status → Type 0)
    (P : Fate) (r : Run) : Type 0 where
  pub runs : Runs name P r
  pub exact : IsExact Reads P r
  pub unchanged : ¬ MayChange r.status → (n : Bytes) → IsKept r n

-- the file may be written: at the end, after a write fault, and where memory ran out
abbrev pub MayWrite : Status → Type 0
MayWrite status.Answered = ⊤
MayWrite status.WriteFault = ⊤
MayWrite status.OutOfMemory = ⊤
MayWrite s = ⊥

-- ---- fates
-- The fate, or the line of a read fault: of a name that is read, where reads failed in this run;
-- such may be left then.
abbrev pub OrUnread : (Bytes → Type 0) → (Left → Type 0) → Run → Fate → Fate
OrUnread Reads Stays r P status.ReadFault lines left =
    (name : Bytes) × Reads name × ReadFailed r × Stays left × (lines ≡ read_fault_line name)
OrUnread Reads Stays r P s lines left = P s lines left

-- nothing was written
abbrev pub IsKeptFile : Left → Type 0
IsKeptFile left = left ≡ Kept

-- the file has such bytes whole
abbrev pub Makes : (Bytes → Type 0) → Left → Type 0
Makes P left = (bytes : Option Bytes) × (left ≡ Whole bytes) × IfSome bytes P

-- ---- texts that are read
-- a text is what the folder tells of a name; of a name that isn't told, it is any text
abbrev pub IsTold : Option Bytes → Bytes → Type 0
IsTold None text = ⊤
IsTold (Some all) text = text ≡ all

-- this is so of the text of this name
abbrev pub OfText : Told → Bytes → (Bytes → Type 0) → Type 0
OfText told name P = (text : Bytes) × IsTold (told name) text × P text

-- this is so of the bytes, where they are told
abbrev pub WhereTold : Option Bytes → (Bytes → Type 0) → Type 0
WhereTold known P = (all : Bytes) → known ≡ Some all → P all
