-- What is answered to a script and a certificate, and what is left in the new file.
use Rattle.std.specs.Prelude.{◌≡◌, ◌⊎◌, List, Option, Some, Err}
use Rattle.std.proofs.Common.{◌∙◌, subst, refl, inl, inr}
use Rattle.script_grammar.specs.Spells.{View, Spells}
use Rattle.cert_bytes.specs.declared.fault.CertFault.{CertFault}
use Rattle.cert_bytes.specs.declared.item.Item.{Item}
use Rattle.cert_bytes.specs.declared.style.Style.TheVariants.{First}
use Rattle.cert_bytes.specs.Reading.{cursor}
use Rattle.cert_checker.specs.declared.fault.CheckFault.{CheckFault}
use Rattle.cert_checker.specs.declared.fault.CheckStop.{CheckStop}
use Rattle.cert_checker.specs.declared.fault.CheckStop.TheVariants.{Cert, Check}
use Rattle.script_checker.specs.Checking.{ChecksFor}
use Rattle.command_runs.specs.Runs.{Bytes}
use Rattle.command_runs.specs.Fates.Left.{Kept, Whole}
use Rattle.command_runs.specs.declared.status.Status.{Status}
use Rattle.command_runs.specs.declared.status.Status.TheVariants as status
use Rattle.report.specs.Certificates.{cert_fault_line, check_fault_line}
use Rattle.trim_command.specs.Trimmed.{AreTrimmable, new_bytes, line_of}
use Rattle.trim_command.specs.Writing.{Writes, IsBegun, Answers, BreaksOff}

module _ (s : View) (cert old new : Option Bytes) (spelled : Spells s.text s) where
  -- the items were written, or are too long
  pub writes_answers : (items : List Item) → AreTrimmable s cert items → (t : Status)
      (lines : Bytes) → Writes items t lines old new → Answers s.text cert old new t lines
  writes_answers items a status.Answered lines (short, is, holds) = (
    Whole (Some (new_bytes items)),
    record {
      script = s;
      items = items;
      spelled = spelled;
      trimmable = a;
      short = short;
      printed = is;
      written = refl;
    },
    holds,
  )
  writes_answers items a status.Certificate lines (long, is, same) = (
    Kept,
    (
      inr (record {
        script = s;
        items = items;
        spelled = spelled;
        trimmable = a;
        long = long;
        printed = is;
      }),
      refl,
    ),
    same,
  )
  writes_answers items a _ lines h = absurd h

  -- the way there was broken off
  pub begun_breaks : (items : List Item) → AreTrimmable s cert items → IsBegun items old new
      → BreaksOff s.text cert old new
  begun_breaks items a (short, front) = (
    line_of items,
    Whole (Some (new_bytes items)),
    record {
      script = s;
      items = items;
      spelled = spelled;
      trimmable = a;
      short = short;
      printed = refl;
      written = refl;
    },
    front,
  )

  -- the bytes have a fault
  pub unread_answers : (stop : CheckStop) (f : CertFault) → stop ≡ Cert f
      → ((all : Bytes) → cert ≡ Some all → ChecksFor s (cursor First all 0) (Err stop))
      → (lines : Bytes) → lines ≡ cert_fault_line f → new ≡ old
      → Answers s.text cert old new status.Certificate lines
  unread_answers stop f is checks lines e same = (
    Kept,
    (
      inl (
        s,
        spelled,
        inl (
          f,
          (λ all known. subst (λ (t : CheckStop). ChecksFor s (cursor First all 0) (Err t)) is
              (checks all known)),
          e,
        ),
      ),
      refl,
    ),
    same,
  )

  -- an item has a fault
  pub refused_answers : (stop : CheckStop) (f : CheckFault) → stop ≡ Check f
      → ((all : Bytes) → cert ≡ Some all → ChecksFor s (cursor First all 0) (Err stop))
      → (lines : Bytes) → lines ≡ check_fault_line f → new ≡ old
      → Answers s.text cert old new status.Certificate lines
  refused_answers stop f is checks lines e same = (
    Kept,
    (
      inl (
        s,
        spelled,
        inr (
          f,
          (λ all known. subst (λ (t : CheckStop). ChecksFor s (cursor First all 0) (Err t)) is
              (checks all known)),
          e,
        ),
      ),
      refl,
    ),
    same,
  )

-- ---- over a folder that was read meanwhile
module _ (s : View) (cert old mid new : Option Bytes) (same : mid ≡ old)
    (spelled : Spells s.text s) (items : List Item) (a : AreTrimmable s cert items) where
  pub answers_over : (t : Status) (lines : Bytes) → Writes items t lines mid new
      → Answers s.text cert old new t lines
  answers_over t lines w = writes_answers s cert old new spelled items a t lines
      (subst (λ (o : Option Bytes). Writes items t lines o new) same w)

  pub breaks_over : IsBegun items mid new → BreaksOff s.text cert old new
  breaks_over b = begun_breaks s cert old new spelled items a
      (subst (λ (o : Option Bytes). IsBegun items o new) same b)

  pub starves_over : (new ≡ mid) ⊎ IsBegun items mid new
      → (new ≡ old) ⊎ BreaksOff s.text cert old new
  starves_over (inl kept) = inl (kept ∙ same)
  starves_over (inr b) = inr (breaks_over b)
