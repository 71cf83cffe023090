-- What is so of a text's first bytes is so of the text, where they are more than a program may
-- have.
use Rattle.std.proofs.Common.{◌≡◌, ◌<◌, ◌≤◌, ◌^◌, inl, inr, ℕ, length, take, Option, Some, None}
use Rattle.std.proofs.Common.{refl, subst, arith}
use Rattle.std.specs.Prelude.{◌⊎◌, min}
use Rattle.std.proofs.lemmas.Bool.{cases_lt}
use Rattle.std.proofs.lemmas.List.{length-take, length-take-le, take_all}
use Rattle.fixprog.specs.declared.fault.ProgFault.{ProgFault}
use Rattle.fixprog.specs.First.{IsFirstFault, Spells, too_long, not_text, first, faultless}
use Rattle.whole_texts.specs.Texts.{IsText}
use Rattle.command_runs.specs.Runs.{Bytes}
use Rattle.command_runs.specs.Fates.{Left, IsTold}
use Rattle.command_runs.specs.declared.status.Status.{Status}
use Rattle.command_runs.specs.declared.status.Status.TheVariants as status
use Rattle.fix_command.specs.Command.{FixText}

-- two texts that are too long have the same first fault
long_fault : (text all : Bytes) (o : Option ProgFault) → 2 ^ 16 < length text → 2 ^ 16 < length all
    → IsFirstFault text o → IsFirstFault all o
long_fault text all o l m (too_long h) = too_long m
long_fault text all o l m (not_text h v) = absurd (omega (arith, l, h))
long_fault text all o l m (first h r f b) = absurd (omega (arith, l, h.0))
long_fault text all o l m (faultless h r f) = absurd (omega (arith, l, h.0))

-- a text that has no fault isn't too long
short_text : (text : Bytes) (o : Option ProgFault) → o ≡ None → IsFirstFault text o
    → length text ≤ 2 ^ 16
short_text text o e (too_long h) = absurd (cc e)
short_text text o e (not_text h v) = h
short_text text o e (first h r f b) = h.0
short_text text o e (faultless h r f) = h.0

module _ (most : ℕ) (all : Bytes) (enough : 2 ^ 16 < most) where
  cut_fault : (o : Option ProgFault) → IsFirstFault (take most all) o → IsFirstFault all o
  cut_fault o h = by_length (cases_lt most (length all)) where
    by_length : (most < length all) ⊎ (length all ≤ most) → IsFirstFault all o
    by_length (inl long) =
        let cut : length (take most all) ≡ most =
        length-take-le most all (omega (arith, long)) in
        long_fault (take most all) all o (omega (arith, cut, enough))
        (omega (arith, long, enough)) h
    by_length (inr short) = subst (λ t. IsFirstFault t o) (take_all most all short) h

  cut_spelled : IsFirstFault (take most all) None → take most all ≡ all
  cut_spelled h =
      let short : length (take most all) ≤ 2 ^ 16 = short_text (take most all) None refl h in
      let size : length (take most all) ≡ min most (length all) = length-take most all in
      take_all most all (omega (arith, short, size, enough))

  cut_text : (s : Status) (lines : Bytes) (left : Left) → FixText (take most all) s lines left
      → FixText all s lines left
  cut_text status.Answered lines left (p, spelled, line, file) =
      let whole : take most all ≡ all = cut_spelled spelled.accepted in
      (p, subst (λ t. Spells t p) whole spelled, line, file)
  cut_text status.Program lines left (f, h, line, file) = (f, cut_fault (Some f) h, line, file)
  cut_text _ lines left h = absurd h

-- what comes of the bytes that were read comes of the text that is told
pub told_text : (most : ℕ) → 2 ^ 16 < most → (known : Option Bytes) (read : Bytes)
    → IsText most known read → (s : Status) (lines : Bytes) (left : Left)
    → FixText read s lines left → (text : Bytes) × IsTold known text × FixText text s lines left
told_text most enough None read short s lines left h = (read, tt, h)
told_text most enough (Some all) read is s lines left h =
    (all, refl, cut_text most all enough s lines left (subst (λ t. FixText t s lines left) is h))
