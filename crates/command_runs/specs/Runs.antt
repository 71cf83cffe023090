-- A run: what is told and counted before and after it, and how it ended.
use Rattle.std.specs.Prelude.{◌≡◌, ℕ, List, Option}
use Rattle.std.specs.Io.KnownBytes.{Appends, Keeps}
use Rattle.fx_edge.specs.Outside.{Rose}
use Rattle.fx_edge.specs.declared.outside.Folder.{Ghosts as OfFolder}
use Rattle.fx_edge.specs.declared.outside.Sink.{Ghosts as OfSink}
use Rattle.whole_texts.specs.Pieces.{AppendsFront}
use Rattle.command_runs.specs.declared.status.Status.{Status}

-- Bytes as numbers: a file's, a name's, or those of lines that are put.
abbrev pub Bytes : Type 0
Bytes = List ℕ

-- the bytes of each name, where the folder tells them
abbrev pub Told : Type 0
Told = Bytes → Option Bytes

-- What is told and counted at one time: the bytes of each name and those that the sink took, where
-- they are told, and how often reads and writes of the folder and puts of the sink have failed.
pub record Seen : Type 0 where
  pub told : Told
  pub taken : Option Bytes
  pub reads : ℕ
  pub writes : ℕ
  pub puts : ℕ

-- What is seen of a sink, beside a folder that tells this and has these counts of reads and writes
-- that failed.
abbrev pub seen_beside : {S : Type 0} → Told → ℕ → ℕ → OfSink S → S → Seen
seen_beside told reads writes sink out = record {
  told = told;
  taken = sink.taken out;
  reads = reads;
  writes = writes;
  puts = sink.faults out;
}

-- What is seen of a folder and a sink.
abbrev pub seen : {D S : Type 0} → OfFolder D → OfSink S → D → S → Seen
seen folder sink files out = seen_beside (folder.told files) (folder.read_faults files)
    (folder.write_faults files) sink out

-- What is seen before a run and after it, and its status.
pub record Run : Type 0 where
  pub before : Seen
  pub after : Seen
  pub status : Status

-- The run between these two times, with this status.
abbrev pub run : Seen → Seen → Status → Run
run before after status = record { before = before; after = after; status = status }

-- a read of the folder failed in this run; a write; a put of the sink
abbrev pub ReadFailed : Run → Type 0
ReadFailed r = Rose r.before.reads r.after.reads

-- A write of the folder failed in this run.
abbrev pub WriteFailed : Run → Type 0
WriteFailed r = Rose r.before.writes r.after.writes

-- A put of the sink failed in this run.
abbrev pub PutFailed : Run → Type 0
PutFailed r = Rose r.before.puts r.after.puts

-- the bytes of this name are those before
abbrev pub IsKept : Run → Bytes → Type 0
IsKept r name = r.after.told name ≡ r.before.told name

-- the sink took nothing; these lines whole; a front of them, which may be nothing
abbrev pub IsSilent : Run → Type 0
IsSilent r = Keeps r.before.taken r.after.taken

-- The sink took these lines whole, and nothing else.
abbrev pub Puts : Run → Bytes → Type 0
Puts r lines = Appends r.before.taken r.after.taken lines

-- The sink took a front of these lines, which may be nothing.
abbrev pub PutsFront : Run → Bytes → Type 0
PutsFront r lines = AppendsFront r.before.taken r.after.taken lines
