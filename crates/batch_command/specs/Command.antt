-- What `batch` does.
use Rattle.std.specs.Prelude.{◌≡◌, ◌⊎◌, ◌++◌, List, [], ◌∷◌, Some, None}
use Rattle.settler.specs.Answers.{Options, options_from}
use Rattle.command_line.specs.Batch.{AskedBatch}
use Rattle.name_list.specs.declared.fault.ListFault.{ListFault}
use Rattle.name_list.specs.Lists.{IsFaultOf, lines_of}
use Rattle.command_runs.specs.Runs.{Bytes, Told, Run}
use Rattle.command_runs.specs.Fates.{Fate, IsRunOf, MayWrite, OrUnread, IsKeptFile, OfText}
use Rattle.command_runs.specs.Fates.Left.{Kept}
use Rattle.command_runs.specs.declared.status.Status.{Status}
use Rattle.command_runs.specs.declared.status.Status.TheVariants as status
use Rattle.script_answers.specs.Answers.{ProvePrints}
use Rattle.batch_command.specs.Lines.{script_line, list_fault_line}

-- How the words ask for each script to be proved. The number of workers changes no answer.
abbrev pub options_of : AskedBatch → Options
options_of a = options_from a.options

-- the first status of the two that isn't that of an answer
abbrev pub first_other : Status → Status → Status
first_other status.Answered later = later
first_other s later = s

-- What is printed of the scripts of these names, in their order: the line of each name, and what
-- `prove` prints of a text that is told or may be behind it. The status is that of the first script
-- that isn't answered.
abbrev pub IsBatch : Options → Told → List Bytes → Status → Bytes → Type 0
IsBatch o told [] s lines = (s ≡ status.Answered) × (lines ≡ [])
IsBatch o told (name ∷ names) s lines =
    (t : Status) × (u : Status) × (own : Bytes) × (later : Bytes)
    × OfText told name (λ text. ProvePrints o text t own) × IsBatch o told names u later
    × (s ≡ first_other t u) × (lines ≡ script_line name ++ own ++ later)

-- What comes of a list's text: the line of its first fault; or it has none, and the scripts of its
-- names are answered.
abbrev pub ListPrints : AskedBatch → Told → Bytes → Status → Bytes → Type 0
ListPrints a told text status.List lines =
    (f : ListFault) × IsFaultOf text (Some f) × (lines ≡ list_fault_line f)
ListPrints a told text s lines =
    IsFaultOf text None × IsBatch (options_of a) told (lines_of text) s lines

-- what comes of the list, by a text that is told or may be behind its name; nothing is written
abbrev pub BatchTold : AskedBatch → Told → Fate
BatchTold a told s lines left =
    OfText told a.list (λ text. ListPrints a told text s lines) × (left ≡ Kept)

-- the name is one of these
abbrev pub IsIn : Bytes → List Bytes → Type 0
IsIn name [] = ⊥
IsIn name (n ∷ names) = (name ≡ n) ⊎ IsIn name names

-- The list is read, and each name of it where it has no fault.
abbrev pub ReadsListed : Told → Bytes → Bytes → Type 0
ReadsListed told list name = (name ≡ list)
    ⊎ OfText told list (λ text. IsFaultOf text None × IsIn name (lines_of text))

-- That, or the line of a read fault, of the list or of one of its names.
abbrev pub BatchFate : AskedBatch → Run → Fate
BatchFate a r = OrUnread (ReadsListed r.before.told a.list) IsKeptFile r (BatchTold a r.before.told)

-- A run of `batch`: it reads the list and its scripts, and writes no file.
abbrev pub IsBatchRun : AskedBatch → Run → Type 0
IsBatchRun a r =
    IsRunOf None (ReadsListed r.before.told a.list) MayWrite (BatchFate a r) r
