-- What came of a text before its lines are put.
use Rattle.std.specs.Prelude.{◌≡◌, ◌≢◌, ◌≤◌, ⊤, ℕ, List, Option, Some, None, Result, Ok, Err}
use Rattle.std.specs.Prelude.{IfOk, IsErrOf, OnOk, OnErr}
use Rattle.std.specs.Borrow.{Bor}
use Rattle.std.specs.Option.{option_map}
use Rattle.std.specs.Io.KnownBytes.{Keeps}
use Rattle.fx_edge.specs.Outside.{Rose}
use Rattle.fx_edge.specs.declared.outside.Folder.{Ghosts}
use Rattle.goals.specs.declared.line.Line.{Line}
use Rattle.script_grammar.specs.Spells.{View}
use Rattle.settler.specs.Answers.{Options, IsProved}
use Rattle.command_runs.specs.Runs.{Bytes, Told}
use Rattle.command_runs.specs.Fates.{Left, Leaves, begun}
use Rattle.command_runs.specs.Ends.{IsPut}
use Rattle.command_runs.specs.declared.status.Status.{Status}
use Rattle.command_runs.specs.declared.status.Status.TheVariants as status
use Rattle.cert_writer.specs.Written.{HoldsCertificate, HoldsFront}
use Rattle.cert_writer.specs.declared.walk.WriteStop.{WriteStop}
use Rattle.cert_writer.specs.declared.walk.WriteStop.TheVariants as write_stop
use Rattle.prove_command.specs.Command.{TextFate}
use Rattle.prove_command.specs.declared.certify.Certified.{Certified}

-- the name that is given for a certificate
abbrev pub name_of : Option (Bor (List ℕ)) → Option Bytes
name_of cert = option_map (λ c. c.now) cert

-- the writing stopped before its end
abbrev pub IsStopped : {T E : Type 0} → Result T E → Type 0
IsStopped (Ok x) = ⊥
IsStopped (Err e) = ⊤

-- what is left where it came so far
abbrev pub left_by : {T E : Type 0} → Result T E → Left → Left
left_by (Ok x) left = left
left_by (Err e) left = begun left

-- The text is answered by this status and these lines. The file has what is left of its
-- certificate, as far as the writing came; that stopped only where a name was given.
pub record IsCertified (o : Options) (text : Bytes) (cert : Option Bytes) (old new : Told)
    (c : Certified) : Type 0 where
  pub left : Left
  pub made : TextFate (IsStopped c.written) cert o text c.status c.lines.items left
  pub file : (n : Bytes) → cert ≡ Some n → Leaves (left_by c.written left) (old n) (new n)
  pub named : IsStopped c.written → cert ≢ None

-- The count of failed writes doesn't fall, and a write is said to have failed only where it rose.
pub record HasWriteCause {T : Type 0} (before now : ℕ) (result : Result T WriteStop) : Type 0 where
  pub later : before ≤ now
  pub failed : IsErrOf result write_stop.Failed → Rose before now

-- What came of a text, and of the folder by it. An error comes only before anything is written.
pub record IsCertifiedBy {D E : Type 0} (folder : Ghosts D) (o : Options) (text : Bytes)
    (cert : Option Bytes) (old new : D) (result : Result Certified E) : Type 0 where
  pub made : IfOk result (IsCertified o text cert (folder.told old) (folder.told new))
  -- no other name's bytes change
  pub others : (other : Bytes) → cert ≢ Some other → folder.told new other ≡ folder.told old other
  pub cause : IfOk result (λ c.
      HasWriteCause (folder.write_faults old) (folder.write_faults new) c.written)
  pub still : OnErr result ((name : Bytes) → folder.told new name ≡ folder.told old name)

-- The certificate of a proved script is written under the name, as far as that came; where none is
-- given, nothing is.
pub record IsWrittenBy {D T : Type 0} (folder : Ghosts D) (o : Options) (s : View)
    (cert : Option Bytes) (old new : D) (result : Result T WriteStop) : Type 0 where
  pub ok : (name : Bytes) → cert ≡ Some name → OnOk result ((lines : List Line)
      → IsProved s o lines → HoldsCertificate s lines (folder.told old name) (folder.told new name))
  pub err : (name : Bytes) → cert ≡ Some name → OnErr result ((lines : List Line)
      → IsProved s o lines → HoldsFront s lines (folder.told old name) (folder.told new name))
  pub named : IsStopped result → cert ≢ None
  pub others : (other : Bytes) → cert ≢ Some other → folder.told new other ≡ folder.told old other
  pub cause : HasWriteCause (folder.write_faults old) (folder.write_faults new) result

-- Lines are put behind a writing that came to its end; behind one that stopped, nothing is.
abbrev pub IsPutBehind : {T : Type 0} → Result T WriteStop → Status → Bytes
    → Option Bytes → Option Bytes → ℕ → ℕ → Status → Type 0
IsPutBehind (Ok x) s lines old new before after result = IsPut s lines old new before after result
IsPutBehind (Err write_stop.Failed) s lines old new before after result =
    (result ≡ status.WriteFault) × Keeps old new
IsPutBehind (Err write_stop.OutOfMemory) s lines old new before after result =
    (result ≡ status.OutOfMemory) × Keeps old new
