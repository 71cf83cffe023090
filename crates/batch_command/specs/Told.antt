-- What is known on the way to the lines. Only private functions cite these.
use Rattle.std.specs.Prelude.{◌≡◌, ◌++◌, ⊤, ℕ, List, [], ◌∷◌}
use Rattle.std.specs.declared.vec.Vec.{Vec}
use Rattle.std.specs.declared.alloc.Global.{Global}
use Rattle.settler.specs.Answers.{Options}
use Rattle.command_line.specs.Batch.{AskedBatch}
use Rattle.command_runs.specs.Runs.{Bytes, Told}
use Rattle.command_runs.specs.Fates.{OfText}
use Rattle.command_runs.specs.Statuses.{read_fault_line}
use Rattle.command_runs.specs.declared.status.Status.{Status}
use Rattle.command_runs.specs.declared.status.Status.TheVariants as status
use Rattle.script_texts.specs.Texts.{IsScriptText}
use Rattle.script_answers.specs.Answers.{ProvePrints}
use Rattle.batch_command.specs.Lines.{script_line}
use Rattle.batch_command.specs.Command.{IsBatch, ListPrints, ReadsListed, IsIn, first_other}
use Rattle.batch_command.specs.declared.read.Texts.{Texts}
use Rattle.batch_command.specs.declared.read.Texts.TheVariants as texts

-- for each name the text that was read, up to a byte past a script's limit
abbrev pub AreRead : Told → List Bytes → List (Vec ℕ Global) → Type 0
AreRead told [] [] = ⊤
AreRead told (name ∷ names) (text ∷ later) =
    IsScriptText (told name) text.items × AreRead told names later
AreRead told _ _ = ⊥

-- The texts of the names; or the line of one that wasn't read, as a read failed.
abbrev pub AreTexts : Told → Type 0 → List Bytes → Texts → Type 0
AreTexts told failed names (texts.Read all) = AreRead told names all.items
AreTexts told failed names (texts.Unread line) =
    (name : Bytes) × IsIn name names × failed × (line.items ≡ read_fault_line name)

-- each is an answer to the text in its place
abbrev pub AreAnswers : Options → List (Vec ℕ Global) → List (Status × Vec ℕ Global) → Type 0
AreAnswers o [] [] = ⊤
AreAnswers o (text ∷ later) (a ∷ answers) =
    ProvePrints o text.items a.0 a.1.items × AreAnswers o later answers
AreAnswers o _ _ = ⊥

-- the status of answers in this order
abbrev pub status_of : List (Status × Vec ℕ Global) → Status
status_of [] = status.Answered
status_of (a ∷ answers) = first_other a.0 (status_of answers)

-- the lines of answers under these names
abbrev pub lines_under : List Bytes → List (Status × Vec ℕ Global) → Bytes
lines_under (name ∷ names) (a ∷ answers) =
    script_line name ++ a.1.items ++ lines_under names answers
lines_under _ _ = []

-- What is to be put: what comes of the list, or the line of a read that failed.
abbrev pub Prints : Type 0 → AskedBatch → Told → Status → Bytes → Type 0
Prints failed a told status.ReadFault lines =
    (name : Bytes) × ReadsListed told a.list name × failed × (lines ≡ read_fault_line name)
Prints failed a told s lines = OfText told a.list (λ text. ListPrints a told text s lines)

-- What comes of names: what is printed of their scripts, or the line of a read that failed.
abbrev pub ScriptsPrint : Type 0 → Options → Told → List Bytes → Status → Bytes → Type 0
ScriptsPrint failed o told names status.ReadFault lines =
    (name : Bytes) × IsIn name names × failed × (lines ≡ read_fault_line name)
ScriptsPrint failed o told names s lines = IsBatch o told names s lines
