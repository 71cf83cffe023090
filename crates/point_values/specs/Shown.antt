-- What the judging of a claim answers: its truth, and what is shown of it.
use Rattle.std.specs.Prelude.{◌≡◌, codes, List, ℤ, Option, MatchOption, Bool, true, false}
use Rattle.exact_fractions.specs.Wide.{are_narrow}
use Rattle.point_values.specs.declared.shown.Shown.{Shown}
use Rattle.point_values.specs.declared.shown.Shown.TheVariants as shown
use Rattle.point_values.specs.declared.claims.Judged.{Judged}
use Rattle.point_values.specs.Known.{fraction_of}
use Rattle.point_values.specs.Text.{Bytes, value_text}

-- The text of what is shown of a claim: its value, if any, or `zero` where both sides of a relative
-- claim are 0.
abbrev pub shown_text : Shown → Bytes
shown_text (shown.Value v) = value_text (fraction_of v)
shown_text shown.Zero = codes "zero"

-- all numbers are below 2^127; the claim's truth, and what is shown of it
pub record IsJudged (zs : List ℤ) (t : Bool) (text : Bytes) (j : Judged) : Type 0 where
  pub narrow : are_narrow zs ≡ true
  pub holds : j.holds ≡ t
  pub text_is : shown_text j.shown ≡ text

-- No answer exactly where a number is too wide.
abbrev pub GivesJudged : List ℤ → Bool → Bytes → Option Judged → Type 0
GivesJudged zs t text r = MatchOption r (are_narrow zs ≡ false) (IsJudged zs t text)
