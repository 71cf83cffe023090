-- Laws of what specs/Texts defines.
use Rattle.std.specs.Prelude.{◌≡◌, ◌≤◌, ◌<◌, ◌⊎◌, length, Option, Some, None}
use Rattle.std.proofs.Common.{◌∙◌, ap, sym, subst, refl, inl, inr}
use Rattle.std.proofs.lemmas.Bool.{cases_lt}
use Rattle.std.proofs.lemmas.List.{length-take-le, take_all}
use Rattle.std.proofs.Math.Nat.{le_of_lt, lt-suc_self, not-le_of_lt}
use Rattle.script_judge.specs.declared.refusal.Refusal.{Refusal}
use Rattle.script_judge.specs.declared.refusal.RefusalKind.TheVariants as kind
use Rattle.script_judge.specs.declared.refusal.LimitKind.TheVariants as limit
use Rattle.script_judge.specs.Reading.{refusal, too_long, not_text}
use Rattle.script_judge.specs.First as first
use Rattle.script_judge.specs.First.{IsFirstRefusal, FirstsAreUnique}
use Rattle.script_grammar.specs.Spells.{View, Spells, IsRefused}
use Rattle.command_runs.specs.Runs.{Bytes, Told}
use Rattle.command_runs.specs.Fates.{IsTold}
use Rattle.report.specs.Lines.{refusal_line}
use Rattle.script_texts.specs.Texts.{IsRefusedWith, IsScriptText, OfScript}

-- ---- what is so of a text
-- there is one such line at most
pub refused_once : FirstsAreUnique → (text lines others : Bytes) → IsRefusedWith text lines
    → IsRefusedWith text others → lines ≡ others
refused_once unique text lines others (r, p, e) (q, h, f) =
    let one : r ≡ q = cc (unique text (Some r) (Some q) p h) in e ∙ ap refusal_line one ∙ sym f

-- ---- texts that are too long
-- it has more bytes than a script may have
abbrev pub IsLong : Bytes → Type 0
IsLong text = 1048576 < length text

-- the one refusal of such a text
abbrev past_bytes : Refusal
past_bytes = refusal (kind.Limit limit.Bytes) 1048576

refused_for_length : (text : Bytes) (o : Option Refusal) → IsLong text → IsFirstRefusal text o
    → o ≡ Some past_bytes
refused_for_length text o long (first.unread (too_long l)) = refl
refused_for_length text o long (first.unread (not_text l v)) = absurd (not-le_of_lt long l)
refused_for_length text o long (first.read h r s j) = absurd (not-le_of_lt long h.0)

-- it spells no script
pub no_script : (text : Bytes) (s : View) → IsLong text → ¬ Spells text s
no_script text s long p =
    let e : None ≡ Some past_bytes = refused_for_length text None long p.accepted in cc e

-- each is refused as another is
pub long_refusal : (t text : Bytes) (r : Refusal) → IsLong t → IsLong text
    → IsRefused text r → IsRefused t r
long_refusal t text r a b p =
    let e : r ≡ past_bytes = cc (refused_for_length text (Some r) b p) in
    subst (IsRefused t) (sym e) (first.unread (too_long a))

pub long_refused : (t text lines : Bytes) → IsLong t → IsLong text
    → IsRefusedWith text lines → IsRefusedWith t lines
long_refused t text lines a b (r, p, e) = (r, long_refusal t text r a b p, e)

-- ---- the text that was read, and the told one
-- What was read is a told text, but where both are too long.
abbrev Either : Bytes → Bytes → Type 0
Either all read = (read ≡ all) ⊎ (IsLong all × IsLong read)

pub read_or_long : (all read : Bytes) → IsScriptText (Some all) read → Either all read
read_or_long all read e = by (cases_lt 1048577 (length all)) where
  by : (1048577 < length all) ⊎ (length all ≤ 1048577) → Either all read
  by (inl long) = inr (
    le_of_lt long,
    subst IsLong (sym e)
        (subst (λ n. 1048576 < n) (sym (length-take-le 1048577 all (le_of_lt long)))
        (lt-suc_self 1048576)),
  )
  by (inr short) = inl (e ∙ take_all 1048577 all short)

-- What is so of the text that was read is so of the told one, where it is so of all texts that are
-- too long or of none.
module _ (P : Bytes → Type 0)
    (long : (t text : Bytes) → IsLong t → IsLong text → P text → P t) where
  told_all : (all read : Bytes) → Either all read → P read → (t : Bytes) × (t ≡ all) × P t
  told_all all read (inl e) p = (all, refl, subst P e p)
  told_all all read (inr (a, b)) p = (all, refl, long all read a b p)

  pub told_text : (known : Option Bytes) (read : Bytes) → IsScriptText known read → P read
      → (t : Bytes) × IsTold known t × P t
  told_text None read is p = (read, tt, p)
  told_text (Some all) read is p = told_all all read (read_or_long all read is) p

-- a told text that spells a script was read whole
pub read_whole : (known : Option Bytes) (text read : Bytes) (s : View) → known ≡ Some text
    → IsScriptText known read → Spells text s → read ≡ text
read_whole known text read s e is spelled =
    by (read_or_long text read (subst (λ k. IsScriptText k read) e is)) where
      by : Either text read → read ≡ text
      by (inl same) = same
      by (inr (a, b)) = absurd (no_script text s a spelled)

-- what spells a script that was read spells one that is told
pub told_script : (told : Told) (name read : Bytes) (P : View → Type 0)
    → IsScriptText (told name) read → (s : View) × Spells read s × P s → OfScript told name P
told_script told name read P is p =
    told_text (λ w. (s : View) × Spells w s × P s)
    (λ t text a b q. absurd (no_script text q.0 b q.1)) (told name) read is p
