-- What `upgrade` wrote, `check` answers as it answered the old certificate.
use Rattle.std.specs.Prelude.{◌≡◌, ◌≤◌, List, length, Option, Some, None}
use Rattle.std.proofs.Common.{refl, sym, subst}
use Rattle.cert_bytes.specs.declared.item.Item.{Item}
use Rattle.cert_bytes.specs.Certificates.{SpellsCertificate, SpellsOnce}
use Rattle.cert_bytes.specs.ReadOut.{AreBytes}
use Rattle.cert_bytes.specs.Spelling.{certificate_of}
use Rattle.cert_checker.specs.Outcomes.{SpelledAreAccepted}
use Rattle.script_checker.specs.Checking.{AreAcceptedFor}
use Rattle.command_line.specs.Check.{AskedCheck}
use Rattle.command_line.specs.Upgrade.{AskedUpgrade}
use Rattle.command_runs.specs.Fates.{Left, Leaves, Written, EndsIn, Comes}
use Rattle.command_runs.specs.Runs.{Bytes, Run, Puts}
use Rattle.command_runs.specs.declared.status.Status.TheVariants as status
use Rattle.check_command.specs.Checked.{IsChecked}
use Rattle.check_command.specs.Laws.{CheckAnswersAreOne}
use Rattle.cert_upgrade.specs.Answers.{MayBecome}
use Rattle.cert_upgrade.specs.Spelled.{most}
use Rattle.upgrade_command.specs.Command.{MayBecomeOf, UpgradeFate}
use Rattle.trim_command.proofs.Trimmable.{accepted_new}
use Rattle.joined_runs.specs.Laws.{HasChecked, HasUpgraded, UpgradedAreAnswered}
use Rattle.joined_runs.proofs.Again.{checked_of, same_lines}
use Rattle.joined_runs.proofs.Trimmed.{checked_lines}

-- ---- what `upgrade` wrote
-- the items of the old certificate, whose spelling in version 2 is what the new file holds
pub record IsRewritten (cert bytes : Bytes) : Type 0 where
  pub items : List Item
  pub may : MayBecome cert items
  pub are : certificate_of items ≡ bytes

module _ (a : AskedUpgrade) (r : Run) (cert bytes : Bytes) (w : HasUpgraded a r cert bytes) where
  rewritten : IsRewritten cert bytes
  rewritten = by (subst (λ s. EndsIn s (Some a.new) (UpgradeFate a r) r) w.answered
      w.ran.runs.ends) where
        by : EndsIn status.Answered (Some a.new) (UpgradeFate a r) r → IsRewritten cert bytes
        by (lines, left, (items, may, printed, written), done) =
            let leaves = subst (λ o. Leaves left o (Some bytes)) w.held
            (subst (λ n. Leaves left (r.before.told a.new) n) w.holds (done.file a.new refl)) in
            record {
              items = items;
              may = subst (λ (o : Option Bytes). MayBecomeOf o items) w.told may;
              are = cc (subst (λ l. Leaves l (Some w.old) (Some bytes)) written leaves);
            }

-- ---- what `check` answers to that
module _ (once : SpellsOnce) (text cert bytes lines : Bytes) (are : AreBytes cert)
    (d : IsChecked text (Some cert) lines) (x : IsRewritten cert bytes) where
  new_accepted : AreAcceptedFor d.script bytes d.shown
  new_accepted =
      let old = d.accepts cert refl are in
      let there = old.accepted.spelled in
      let here = x.may.are.spelled are in
      let one = (once cert here.style there.style x.items old.accepted.items here.spells
      there.spells).1 in
      subst (λ (b : Bytes). AreAcceptedFor d.script b d.shown) x.are
      (subst (λ (i : List Item). AreAcceptedFor d.script (certificate_of i) d.shown) (sym one)
      (accepted_new d.script old.subject old.accepted.items d.shown old.is old.accepted.accepts))

  new_short : length bytes ≤ most
  new_short = subst (λ (b : Bytes). length b ≤ most) x.are x.may.short

pub upgraded_are_answered : SpellsOnce → SpelledAreAccepted → CheckAnswersAreOne
    → UpgradedAreAnswered
upgraded_are_answered once law answers a b c r q p text cert bytes are w old answered k =
    by (rewritten a r cert bytes w) (checked_lines c p text cert old answered) where
      by : IsRewritten cert bytes
          → ((lines : Bytes) × IsChecked text (Some cert) lines × Puts p lines)
          → Comes status.Answered q.status
          × (q.status ≡ status.Answered → (lines : Bytes) × Puts p lines × Puts q lines)
      by x (lines, d, put) = (
        k.ran.accepted text bytes k.script k.cert (record {
          script = d.script;
          shown = d.shown;
          spelled = d.spelled;
          short = new_short once text cert bytes lines are d x;
          accepted = new_accepted once text cert bytes lines are d x;
        }),
        λ again. (
          lines,
          put,
          same_lines answers b q text bytes k lines
              (checked_of law text lines bytes (Some cert)
              (new_short once text cert bytes lines are d x) d
              (new_accepted once text cert bytes lines are d x))
              again,
        ),
      )
