-- What a run leaves for another.
use Rattle.std.specs.Prelude.{◌≡◌, ℤ, List, Some, codes}
use Rattle.script_meets.specs.Held.{AreHeld}
use Rattle.cert_bytes.specs.ReadOut.{AreBytes}
use Rattle.point_values.specs.Rows.{Row, assignment_of}
use Rattle.point_eval.specs.Judged.{EndsIn}
use Rattle.point_text.specs.Points.{SpellsPoint}
use Rattle.fixprog.specs.Execution.{AreInRange}
use Rattle.fixprog.specs.First.{Spells}
use Rattle.fixprog.specs.Grammar.{Program}
use Rattle.program_truths.specs.Outputs.{EndsWithin}
use Rattle.command_line.specs.At.{AskedAt}
use Rattle.command_line.specs.Check.{AskedCheck}
use Rattle.command_line.specs.Fix.{AskedFix}
use Rattle.command_line.specs.Reading.{Asked}
use Rattle.command_line.specs.Trim.{AskedTrim}
use Rattle.command_line.specs.Upgrade.{AskedUpgrade}
use Rattle.command_runs.specs.Fates.{Comes}
use Rattle.command_runs.specs.Runs.{Bytes, Run, Puts}
use Rattle.command_runs.specs.declared.status.Status.TheVariants as status
use Rattle.script_answers.specs.Answers.{IsAnswered, options_of}
use Rattle.prove_command.specs.Command.{IsProveRun}
use Rattle.check_command.specs.Command.{IsCheckRun}
use Rattle.upgrade_command.specs.Command.{IsUpgradeRun}
use Rattle.trim_command.specs.Command.{IsTrimRun}
use Rattle.fix_command.specs.Command.{IsFixRun}
use Rattle.at_command.specs.Command.{IsAtRun}
use Rattle.at_command.specs.Told.{IsEvaluated}

-- A run of `prove` was answered: of a script whose text the folder told, with a certificate in a
-- told file, which holds these bytes now.
pub record HasWritten (a : Asked) (r : Run) (text bytes : Bytes) : Type 0 where
  pub ran : IsProveRun a r
  pub answered : r.status ≡ status.Answered
  pub name : Bytes
  pub named : a.cert ≡ Some name
  pub script : r.before.told a.script ≡ Some text
  pub old : Bytes
  pub held : r.before.told name ≡ Some old
  pub holds : r.after.told name ≡ Some bytes

-- A run of `check` on a script with this text and a certificate of these bytes, which the folder
-- told.
pub record HasChecked (b : AskedCheck) (q : Run) (text bytes : Bytes) : Type 0 where
  pub ran : IsCheckRun b q
  pub script : q.before.told b.script ≡ Some text
  pub cert : q.before.told b.cert ≡ Some bytes

-- What `prove` wrote, `check` answers, or else a fault of the outside comes, or lack of memory; and
-- then it puts the lines that `prove` put, which answer the script.
abbrev pub WrittenAreAnswered : Type 0
WrittenAreAnswered = (a : Asked) (b : AskedCheck) (r q : Run) (text bytes : Bytes)
    → HasWritten a r text bytes → HasChecked b q text bytes
    → Comes status.Answered q.status
    × (q.status ≡ status.Answered → (lines : Bytes) × IsAnswered (options_of a) text lines
    × Puts r lines × Puts q lines)

-- ---- of certificates that are trimmed
-- A run of `trim` was answered: of a script and a certificate that the folder told, with a new file
-- in a told one, which holds these bytes now.
pub record HasTrimmed (a : AskedTrim) (r : Run) (text cert bytes : Bytes) : Type 0 where
  pub ran : IsTrimRun a r
  pub answered : r.status ≡ status.Answered
  pub script : r.before.told a.script ≡ Some text
  pub told : r.before.told a.cert ≡ Some cert
  pub old : Bytes
  pub held : r.before.told a.new ≡ Some old
  pub holds : r.after.told a.new ≡ Some bytes

-- What `trim` wrote, `check` answers, or else a fault of the outside comes, or lack of memory; and
-- then it puts the lines that a run of `check` on the old certificate puts that is answered.
abbrev pub TrimmedAreAnswered : Type 0
TrimmedAreAnswered = (a : AskedTrim) (b : AskedCheck) (r q : Run) (text cert bytes : Bytes)
    → HasTrimmed a r text cert bytes → HasChecked b q text bytes
    → Comes status.Answered q.status
    × ((c : AskedCheck) (p : Run) → HasChecked c p text cert → p.status ≡ status.Answered
    → q.status ≡ status.Answered → (lines : Bytes) × Puts p lines × Puts q lines)

-- ---- of certificates that are upgraded
-- A run of `upgrade` was answered: of a certificate of these bytes, which the folder told, with a
-- new file in a told one, which holds these bytes now.
pub record HasUpgraded (a : AskedUpgrade) (r : Run) (cert bytes : Bytes) : Type 0 where
  pub ran : IsUpgradeRun a r
  pub answered : r.status ≡ status.Answered
  pub told : r.before.told a.cert ≡ Some cert
  pub old : Bytes
  pub held : r.before.told a.new ≡ Some old
  pub holds : r.after.told a.new ≡ Some bytes

-- A run of `check` answered the old certificate, whose numbers are bytes, for a script's text. Then
-- `check` answers what `upgrade` wrote for that text, or else a fault of the outside comes, or lack
-- of memory; and its lines are the same.
abbrev pub UpgradedAreAnswered : Type 0
UpgradedAreAnswered = (a : AskedUpgrade) (b c : AskedCheck) (r q p : Run)
    → (text cert bytes : Bytes) → AreBytes cert → HasUpgraded a r cert bytes
    → HasChecked c p text cert → p.status ≡ status.Answered → HasChecked b q text bytes
    → Comes status.Answered q.status
    × (q.status ≡ status.Answered → (lines : Bytes) × Puts p lines × Puts q lines)

-- ---- of programs
-- A run of `fix` was answered: of a program whose text the folder told, with a script in a told
-- file, which has this text now.
pub record HasFixed (f : AskedFix) (r : Run) (text script : Bytes) : Type 0 where
  pub ran : IsFixRun f r
  pub answered : r.status ≡ status.Answered
  pub program : r.before.told f.program ≡ Some text
  pub old : Bytes
  pub held : r.before.told f.script ≡ Some old
  pub holds : r.after.told f.script ≡ Some script

-- A run of `prove` on a script with this text, which the folder told, was answered.
pub record HasProved (a : Asked) (q : Run) (script : Bytes) : Type 0 where
  pub ran : IsProveRun a q
  pub answered : q.status ≡ status.Answered
  pub told : q.before.told a.script ≡ Some script

-- The text spells a program. The lines of its script were put, and on all words in range a run of
-- the program ends without wrapping, and the value of each step and output lies in the interval
-- that is printed for it.
pub record RunsWithin (a : Asked) (q : Run) (text script : Bytes) : Type 0 where
  pub program : Program
  pub spelled : Spells text program
  pub lines : Bytes
  pub put : Puts q lines
  pub answer : IsAnswered (options_of a) script lines
  pub within : (words : List ℤ) → AreInRange program.inputs words
      → EndsWithin program answer.shown words

-- So it is where `prove` answers the script that `fix` wrote.
abbrev pub FixedProgramsAreSound : Type 0
FixedProgramsAreSound = (f : AskedFix) (a : Asked) (r q : Run) (text script : Bytes)
    → HasFixed f r text script → HasProved a q script → RunsWithin a q text script

-- ---- of points
-- A run of `at` on a script and a point with these texts, which the folder told, was answered.
pub record HasEvaluated (b : AskedAt) (q : Run) (text point : Bytes) : Type 0 where
  pub ran : IsAtRun b q
  pub answered : q.status ≡ status.Answered
  pub script : q.before.told b.script ≡ Some text
  pub told : q.before.told b.point ≡ Some point

-- Of the runs of `prove` and `at` on one script the lines were put. Where the last line of `at`
-- says that the point meets, each line of a goal that `prove` put holds at the point, and each goal
-- is true there: the goal's value lies in its printed interval, or both sides of a relative goal
-- are 0.
pub record HoldsAtPoint (a : Asked) (r q : Run) (text point : Bytes) : Type 0 where
  pub lines : Bytes
  pub put : Puts r lines
  pub answer : IsAnswered (options_of a) text lines
  pub rows : List Row
  pub spelled : SpellsPoint answer.script.variables point rows
  pub others : Bytes
  pub put_there : Puts q others
  pub evaluated : IsEvaluated answer.script rows others
  pub holds : EndsIn others (codes "point: meets\n")
      → AreHeld answer.script (assignment_of rows) answer.shown

-- So it is where `prove` answers a script and `at` evaluates it.
abbrev pub PointsAreHeld : Type 0
PointsAreHeld = (a : Asked) (b : AskedAt) (r q : Run) (text point : Bytes)
    → HasProved a r text → HasEvaluated b q text point → HoldsAtPoint a r q text point
