-- What `trim` wrote, `check` answers.
use Rattle.std.specs.Prelude.{◌≡◌, ◌≤◌, ◌^◌, length, Option, Some, None}
use Rattle.std.proofs.Common.{refl, sym, ap, ◌∙◌, subst}
use Rattle.script_grammar.specs.Spells.{View, SpellsOnce}
use Rattle.cert_bytes.specs.declared.style.Style.TheVariants.{First}
use Rattle.cert_bytes.specs.Reading.{cursor}
use Rattle.cert_checker.specs.Contexts.{Context}
use Rattle.cert_checker.specs.Outcomes.{accepted, SpelledAreAccepted}
use Rattle.script_checker.specs.Checking.{ComesFor, AreAcceptedFor, ChecksAreOne}
use Rattle.command_line.specs.Check.{AskedCheck}
use Rattle.command_line.specs.Trim.{AskedTrim}
use Rattle.command_runs.specs.Fates.{Left, Leaves, Written, EndsIn, Comes}
use Rattle.command_runs.specs.Runs.{Bytes, Run, Puts}
use Rattle.command_runs.specs.declared.status.Status.TheVariants as status
use Rattle.check_command.specs.Checked.{IsChecked, CheckPrints}
use Rattle.check_command.specs.Command.{CheckFate}
use Rattle.check_command.specs.Laws.{CheckAnswersAreOne}
use Rattle.trim_command.specs.Trimmed.{IsTrimmed, new_bytes}
use Rattle.trim_command.specs.Command.{TrimFate}
use Rattle.joined_runs.specs.Laws.{HasChecked, HasTrimmed, TrimmedAreAnswered}
use Rattle.joined_runs.proofs.Again.{told_is, checked_of, same_lines}

-- ---- what `trim` wrote
module _ (a : AskedTrim) (r : Run) (text cert bytes : Bytes)
    (w : HasTrimmed a r text cert bytes) where
  -- what was trimmed, and what is left in the new file
  abbrev Trimming : Type 0
  Trimming = (lines : Bytes) × (left : Left) × IsTrimmed text (Some cert) lines left
      × Written (Some a.new) left r

  trimming : Trimming
  trimming = by (subst (λ s. EndsIn s (Some a.new) (TrimFate a r) r) w.answered
      w.ran.ends.runs.ends) where
        by : EndsIn status.Answered (Some a.new) (TrimFate a r) r → Trimming
        by (lines, left, (t, is, x), done) =
            let same : t ≡ text = told_is (r.before.told a.script) w.script is in
            let here = subst (λ u. IsTrimmed u (r.before.told a.cert) lines left) same x in
            (lines, left, subst (λ o. IsTrimmed text o lines left) w.told here, done.file)

  -- the new file has the bytes without unused steps
  new_are : (lines : Bytes) (left : Left) (x : IsTrimmed text (Some cert) lines left)
      → Written (Some a.new) left r → new_bytes x.items ≡ bytes
  new_are lines left x file =
      let leaves = subst (λ o. Leaves left o (Some bytes)) w.held
      (subst (λ n. Leaves left (r.before.told a.new) n) w.holds (file a.new refl)) in
      cc (subst (λ l. Leaves l (Some w.old) (Some bytes)) x.written leaves)

-- ---- what `check` answers to that
module _ (law : SpelledAreAccepted) (once : SpellsOnce) (checks : ChecksAreOne)
    (text cert bytes lines : Bytes) (left : Left)
    (x : IsTrimmed text (Some cert) lines left) (same : new_bytes x.items ≡ bytes) where
  new_short : length bytes ≤ 2 ^ 44
  new_short = subst (λ (b : Bytes). length b ≤ 2 ^ 44) same x.short

  new_accepted : AreAcceptedFor x.script bytes x.trimmable.shown
  new_accepted =
      subst (λ (b : Bytes). AreAcceptedFor x.script b x.trimmable.shown) same x.trimmable.kept

  context_same : (c d : Context) → accepted c ≡ accepted d → c ≡ d
  context_same c d e = cc

  -- an answer to the old certificate is one to the new
  new_checked : (old : Bytes) → IsChecked text (Some cert) old → IsChecked text (Some bytes) old
  new_checked old d =
      let script : x.script ≡ d.script = once text x.script d.script x.spelled d.spelled in
      let here = x.trimmable.comes cert refl in
      let there = d.comes cert refl in
      let one : here.0 ≡ there.0 = context_same here.0 there.0
      (checks x.script (cursor First cert 0) (accepted here.0) (accepted there.0) here.1
      (subst (λ (v : View). ComesFor v (cursor First cert 0) (accepted there.0)) (sym script)
      there.1)) in
      let shown : x.trimmable.shown ≡ d.shown =
      here.2 ∙ ap (λ (c : Context). c.lines) one ∙ sym there.2 in
      let accepts = subst (λ l. AreAcceptedFor d.script bytes l) shown
      (subst (λ (v : View). AreAcceptedFor v bytes x.trimmable.shown) script new_accepted) in
      checked_of law text old bytes (Some cert) new_short d accepts

-- what a run of `check` puts that was answered
pub checked_lines : (c : AskedCheck) (p : Run) (text cert : Bytes) → HasChecked c p text cert
    → p.status ≡ status.Answered → (lines : Bytes) × IsChecked text (Some cert) lines × Puts p lines
checked_lines c p text cert k answered =
    by (subst (λ s. EndsIn s None (CheckFate c p) p) answered k.ran.ends.runs.ends) where
      by : EndsIn status.Answered None (CheckFate c p) p
          → (lines : Bytes) × IsChecked text (Some cert) lines × Puts p lines
      by (lines, left, ((t, is, x), kept), done) =
          let same : t ≡ text = told_is (p.before.told c.script) k.script is in
          let said : CheckPrints text (Some cert) status.Answered lines =
          subst (λ u. CheckPrints u (Some cert) status.Answered lines) same
          (subst (λ o. CheckPrints t o status.Answered lines) k.cert x) in (lines, said, done.put)

pub trimmed_are_answered : SpelledAreAccepted → SpellsOnce → ChecksAreOne → CheckAnswersAreOne
    → TrimmedAreAnswered
trimmed_are_answered law once checks answers a b r q text cert bytes w k =
    by (trimming a r text cert bytes w) where
      by : Trimming a r text cert bytes w → Comes status.Answered q.status
          × ((c : AskedCheck) (p : Run) → HasChecked c p text cert → p.status ≡ status.Answered
          → q.status ≡ status.Answered → (lines : Bytes) × Puts p lines × Puts q lines)
      by (lines, left, x, file) =
          let same = new_are a r text cert bytes w lines left x file in (
            k.ran.accepted text bytes k.script k.cert (record {
              script = x.script;
              shown = x.trimmable.shown;
              spelled = x.spelled;
              short = new_short law once checks text cert bytes lines left x same;
              accepted = new_accepted law once checks text cert bytes lines left x same;
            }),
            λ c p old_run answered again.
                let old = checked_lines c p text cert old_run answered in (
                  old.0,
                  old.2,
                  same_lines answers b q text bytes k old.0
                      (new_checked law once checks text cert bytes lines left x same old.0 old.1)
                      again,
                ),
          )
