-- The fates of `fix`: each is of one text, which has one first fault, or none.
use Rattle.std.proofs.Common.{◌≡◌, ◌≢◌, Option, Some, None, refl, sym, ap, subst, ◌∙◌}
use Rattle.fixprog.specs.declared.fault.ProgFault.{ProgFault}
use Rattle.fixprog.specs.First.{IsFirstFault, FirstsAreUnique}
use Rattle.command_line.specs.Fix.{AskedFix}
use Rattle.command_runs.specs.Runs.{Bytes, Told, Run}
use Rattle.command_runs.proofs.Ends.{IsOnce, or_unread}
use Rattle.command_runs.specs.Fates.{Left, AreTold, IsTold, IsKeptFile, MayWrite, ending}
use Rattle.command_runs.specs.Fates.Ending.{Done}
use Rattle.command_runs.specs.Fates.Left.{Kept}
use Rattle.command_runs.specs.declared.status.Status.{Status}
use Rattle.command_runs.specs.declared.status.Status.TheVariants as status
use Rattle.fix_command.specs.Command.{FixText, FixTold, FixFate, Reads}

-- ---- statuses

-- the status of a text with this first fault, or none
status_of : Option ProgFault → Status
status_of None = status.Answered
status_of (Some f) = status.Program

-- what a text's status comes of
record IsJudged (text : Bytes) (s : Status) : Type 0 where
  fault : Option ProgFault
  is_first : IsFirstFault text fault
  same : s ≡ status_of fault

judged : (text lines : Bytes) (left : Left) (s : Status) → FixText text s lines left
    → IsJudged text s
unfolding status_of
judged text lines left status.Answered (p, spelled, line, file) =
    record { fault = None; is_first = spelled.accepted; same = refl }
judged text lines left status.Program (f, h, line, file) =
    record { fault = Some f; is_first = h; same = refl }
judged text lines left _ h = absurd h

-- a run that comes to it comes to its end
pub ended : (text lines : Bytes) (left : Left) (s : Status) → FixText text s lines left
    → ending s ≡ Done
unfolding status_of
ended text lines left s h =
    let j = judged text lines left s h in
    ap ending j.same ∙ at j.fault
  where
    at : (o : Option ProgFault) → ending (status_of o) ≡ Done
    at None = refl
    at (Some f) = refl

-- ---- fates
module _ (a : AskedFix) (told : Told) where
  -- where the file may not be written it keeps its bytes
  pub keeps : (s : Status) (lines : Bytes) (left : Left) → ¬ MayWrite s
      → FixTold a told s lines left → left ≡ Kept
  keeps status.Answered lines left still h = absurd (still tt)
  keeps status.Program lines left still (text, is, (f, h, line, file)) = file
  keeps _ lines left still (text, is, h) = absurd h

  judged_all : (all : Bytes) → told a.program ≡ Some all → (s : Status) (lines : Bytes)
      (left : Left) → FixTold a told s lines left → IsJudged all s
  judged_all all e s lines left (text, is, h) =
      let same : text ≡ all = subst (λ o. IsTold o text) e is in
      subst (λ w. IsJudged w s) same (judged text lines left s h)

  -- of a text that is told the fates have one status
  pub once : FirstsAreUnique → AreTold (Reads a) told → IsOnce (FixTold a told)
  once firsts are s t ls ms l m n k p q =
      let (all, e) = are a.program refl in
      let x = judged_all all e s ls l p in
      let y = judged_all all e t ms m q in
      y.same ∙ ap status_of (firsts all y.fault x.fault y.is_first x.is_first) ∙ sym x.same

-- what comes of a text is a fate
pub fated : (a : AskedFix) (r : Run) (text lines : Bytes) (left : Left) (s : Status)
    → FixText text s lines left → FixTold a r.before.told s lines left → FixFate a r s lines left
unfolding status_of
fated a r text lines left s h told =
    let j = judged text lines left s h in
    or_unread (Reads a) IsKeptFile r (FixTold a r.before.told) lines left s
    (λ e. read j.fault (sym j.same ∙ e)) told
  where
    read : (o : Option ProgFault) → status_of o ≢ status.ReadFault
    read None e = cc e
    read (Some f) e = cc e
