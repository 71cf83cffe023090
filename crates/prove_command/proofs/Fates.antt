-- How a text is answered, at `Answered` and at each other status.
use Rattle.std.specs.Prelude.{◌≡◌, ◌≢◌, ◌⊎◌, Option, Some, None}
use Rattle.std.proofs.Common.{inl, inr, refl, sym, subst}
use Rattle.settler.specs.Answers.{Options}
use Rattle.command_runs.specs.Runs.{Bytes}
use Rattle.command_runs.specs.Fates.{Left, MayWrite}
use Rattle.command_runs.specs.Fates.Left.{Kept}
use Rattle.command_runs.specs.declared.status.Status.{Status}
use Rattle.command_runs.specs.declared.status.Status.TheVariants as status
use Rattle.script_texts.proofs.Texts.{IsLong, no_script}
use Rattle.script_answers.specs.Answers.{IsAnswered, ProvePrints}
use Rattle.script_answers.proofs.Texts.{long_prints}
use Rattle.prove_command.specs.Command.{IsCertificateOf, MakesFor, TextFate}

-- ---- a text
module _ (cut : Type 0) (cert : Option Bytes) (o : Options) (text lines : Bytes) where
  -- it is answered with lines of goals, and this is left
  abbrev pub IsMade : Left → Type 0
  IsMade left = (d : IsAnswered o text lines)
      × MakesFor cert (IsCertificateOf cut d.script d.shown) left

  -- it is answered otherwise, and nothing is written
  abbrev pub IsSpared : Status → Left → Type 0
  IsSpared s left = (s ≢ status.Answered) × ProvePrints o text s lines × (left ≡ Kept)

  pub either : (s : Status) (left : Left) → TextFate cut cert o text s lines left
      → ((s ≡ status.Answered) × IsMade left) ⊎ IsSpared s left
  either status.Answered left h = inl (refl, h)
  either _ left h = inr ((λ e. cc e), h.0, h.1)

  pub of_made : (s : Status) (left : Left) → s ≡ status.Answered → IsMade left
      → TextFate cut cert o text s lines left
  of_made s left e h = subst (λ t. TextFate cut cert o text t lines left) (sym e) h

  -- nothing is written
  pub of_kept : (s : Status) → ProvePrints o text s lines
      → (s ≡ status.Answered → (d : IsAnswered o text lines)
      → MakesFor cert (IsCertificateOf cut d.script d.shown) Kept)
      → TextFate cut cert o text s lines Kept
  of_kept status.Answered p makes = (p, makes refl p)
  of_kept _ p makes = (p, refl)

  pub of_spared : (s : Status) (left : Left) → IsSpared s left
      → TextFate cut cert o text s lines left
  of_spared s left (n, p, kept) = subst (λ l. TextFate cut cert o text s lines l) (sym kept)
      (of_kept s p (λ e. absurd (n e)))

  -- the lines are those of an answer
  pub prints_of : (s : Status) (left : Left) → TextFate cut cert o text s lines left
      → ProvePrints o text s lines
  prints_of s left h = by (either s left h) where
    by : ((s ≡ status.Answered) × IsMade left) ⊎ IsSpared s left → ProvePrints o text s lines
    by (inl (e, m)) = subst (λ t. ProvePrints o text t lines) (sym e) m.0
    by (inr (n, p, kept)) = p

  -- nothing is written where the file may not be
  pub kept_of : (s : Status) (left : Left) → ¬ MayWrite s → TextFate cut cert o text s lines left
      → left ≡ Kept
  kept_of s left still h = by (either s left h) where
    by : ((s ≡ status.Answered) × IsMade left) ⊎ IsSpared s left → left ≡ Kept
    by (inl (e, m)) = absurd (still (subst MayWrite (sym e) tt))
    by (inr (n, p, kept)) = kept

-- ---- certificates of which more may be so
module _ (C D : Type 0) (more : C → D) (cert : Option Bytes) (o : Options)
    (text lines : Bytes) where
  made_more : (given : Option Bytes) (left : Left) (d : IsAnswered o text lines)
      → MakesFor given (IsCertificateOf C d.script d.shown) left
      → MakesFor given (IsCertificateOf D d.script d.shown) left
  made_more None left d kept = kept
  made_more (Some name) left d (None, is, h) = (None, is, tt)
  made_more (Some name) left d (Some bytes, is, h) =
      (Some bytes, is, record { written = h.written; short = short_more h.short }) where
        short_more : {B : Type 0} → C ⊎ B → D ⊎ B
        short_more (inl c) = inl (more c)
        short_more (inr b) = inr b

  pub fate_more : (s : Status) (left : Left) → TextFate C cert o text s lines left
      → TextFate D cert o text s lines left
  fate_more s left h = by (either C cert o text lines s left h) where
    by : ((s ≡ status.Answered) × IsMade C cert o text lines left)
        ⊎ IsSpared C cert o text lines s left → TextFate D cert o text s lines left
    by (inl (e, m)) = of_made D cert o text lines s left e (m.0, made_more cert left m.0 m.1)
    by (inr spared) = of_spared D cert o text lines s left spared

-- all texts that are too long have the same
pub long_fate : (cut : Type 0) (cert : Option Bytes) (o : Options) (s : Status) (lines : Bytes)
    (left : Left) (t text : Bytes) → IsLong t → IsLong text
    → TextFate cut cert o text s lines left → TextFate cut cert o t s lines left
long_fate cut cert o s lines left t text a b h = by (either cut cert o text lines s left h) where
  by : ((s ≡ status.Answered) × IsMade cut cert o text lines left)
      ⊎ IsSpared cut cert o text lines s left → TextFate cut cert o t s lines left
  by (inl (e, m)) = absurd (no_script text m.0.script b m.0.proved.spelled)
  by (inr (n, p, kept)) =
      of_spared cut cert o t lines s left (n, long_prints o s lines t text a b p, kept)
