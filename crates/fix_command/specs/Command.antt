-- What `fix` does.
use Rattle.std.specs.Prelude.{◌≡◌, length, Option, Some, None}
use Rattle.fixprog.specs.declared.fault.ProgFault.{ProgFault}
use Rattle.fixprog.specs.First.{IsFirstFault, Spells}
use Rattle.fixprog.specs.Grammar.{Program, outputs}
use Rattle.fixprog.specs.Turned.{script_of}
use Rattle.command_line.specs.Fix.{AskedFix}
use Rattle.command_runs.specs.Runs.{Bytes, Told, Run}
use Rattle.command_runs.specs.Fates.{Left, Fate, IsRunOf, MayWrite, OrUnread, IsKeptFile, OfText}
use Rattle.command_runs.specs.Fates.Left.{Kept, Whole}
use Rattle.command_runs.specs.declared.status.Status.TheVariants as status
use Rattle.fix_command.specs.Lines.{fix_line, program_fault_line}

-- The text spells a program. The line has the numbers of its steps and outputs, and the file its
-- script.
abbrev pub IsTurned : Bytes → Bytes → Left → Type 0
IsTurned text lines left =
    (p : Program) × Spells text p
    × (lines ≡ fix_line (length p.steps) (length (outputs p)))
    × (left ≡ Whole (Some (script_of p)))

-- The text is no program. The line has its first fault, and the file is as it was.
abbrev pub IsRefused : Bytes → Bytes → Left → Type 0
IsRefused text lines left =
    (f : ProgFault) × IsFirstFault text (Some f) × (lines ≡ program_fault_line f) × (left ≡ Kept)

-- what comes of a text
abbrev pub FixText : Bytes → Fate
FixText text status.Answered lines left = IsTurned text lines left
FixText text status.Program lines left = IsRefused text lines left
FixText text s lines left = ⊥

-- what comes of the program's text, as far as it is told
abbrev pub FixTold : AskedFix → Told → Fate
FixTold a told s lines left = OfText told a.program (λ text. FixText text s lines left)

-- the program alone is read
abbrev pub Reads : AskedFix → Bytes → Type 0
Reads a name = name ≡ a.program

-- That, or the line of a read fault of the program; then nothing was written.
abbrev pub FixFate : AskedFix → Run → Fate
FixFate a r = OrUnread (Reads a) IsKeptFile r (FixTold a r.before.told)

-- A run of `fix`: it reads the program and writes the script. At the end the script is that of the
-- program.
abbrev pub IsFixRun : AskedFix → Run → Type 0
IsFixRun a r = IsRunOf (Some a.script) (Reads a) MayWrite (FixFate a r) r

-- what is left of a script that is to be written, or of none
abbrev pub left_of : Option Bytes → Left
left_of None = Kept
left_of (Some bytes) = Whole (Some bytes)
