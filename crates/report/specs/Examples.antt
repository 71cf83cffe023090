-- Worked rows: lines, byte by byte.
use Rattle.std.specs.Prelude.{◌≡◌, ℕ, ℤ, pos, negsuc, codes, List, [], ◌∷◌, refl}
use Rattle.std.proofs.Common.{arith, inr}
use Rattle.std.proofs.lemmas.Int.{ints}
use Rattle.std.specs.Fmt.{digits}
use Rattle.fx_model.specs.Powers.{scaled-le, scaled-shift}
use Rattle.dyadic.specs.declared.number.Dyadic.{Dyadic}
use Rattle.dyadic.specs.declared.number.End.TheVariants as end
use Rattle.dyadic.specs.Canonical.{IsCanonical}
use Rattle.interval.specs.declared.interval.Interval.{Interval}
use Rattle.facts.specs.declared.hint.HintMark.TheVariants.{Checked, Assumed}
use Rattle.goals.specs.declared.line.Line.TheVariants as shown
use Rattle.script_words.specs.declared.class.Symbol.TheVariants as sign
use Rattle.script_words.specs.declared.lex.Token.{Token}
use Rattle.script_words.specs.declared.lex.TokenKind.TheVariants as token
use Rattle.script_judge.specs.declared.refusal.LimitKind.TheVariants as limit
use Rattle.script_judge.specs.declared.refusal.RefusalKind.TheVariants as kind
use Rattle.cert_bytes.specs.declared.fault.CertKind.TheVariants as cert
use Rattle.cert_checker.specs.declared.fault.CheckFault.TheVariants as check
use Rattle.report.specs.Lines.{Bytes, refusal_line}
use Rattle.report.specs.Proved.{goal_line, hint_lines}
use Rattle.report.specs.Certificates.{cert_fault_line, check_fault_line}

-- ---- numbers and intervals

one_form : IsCanonical (pos 1) (pos 0)
one_form = record {
  form = inr refl;
  size = omega arith;
  lowest = omega (arith, ints);
  highest = omega (arith, ints);
  room = λ k e. absurd (omega (arith, ints));
}

three_form : IsCanonical (pos 3) (pos 0)
three_form = record {
  form = inr refl;
  size = omega arith;
  lowest = omega (arith, ints);
  highest = omega (arith, ints);
  room = λ k e. absurd (omega (arith, ints));
}

ten_form : IsCanonical (pos 5) (pos 1)
ten_form = record {
  form = inr refl;
  size = omega arith;
  lowest = omega (arith, ints);
  highest = omega (arith, ints);
  room = λ k e. absurd (omega (arith, ints));
}

sixteenth_form : IsCanonical (pos 1) (negsuc 3)
sixteenth_form = record {
  form = inr refl;
  size = omega arith;
  lowest = omega (arith, ints);
  highest = omega (arith, ints);
  room = λ k e. absurd (omega (arith, ints));
}

abbrev number : (m e : ℤ) → IsCanonical m e → Dyadic
number m e form = record { mantissa = m; exponent = e; canonical = form }

abbrev three_to_ten : Interval
three_to_ten = record {
  lo = end.At (number (pos 3) (pos 0) three_form);
  hi = end.At (number (pos 5) (pos 1) ten_form);
  ordered = rw (scaled-shift (pos 5) (pos 0) 1)
      (scaled-le (pos 3) (pos 10) (pos 0) (omega (arith, ints)));
}

abbrev from_one : Interval
from_one = record { lo = end.At (number (pos 1) (pos 0) one_form); hi = end.High; ordered = tt }

abbrev to_sixteenth : Interval
to_sixteenth =
    record { lo = end.Low; hi = end.At (number (pos 1) (negsuc 3) sixteenth_form); ordered = tt }

-- ---- goals

abbrev name_at : ℕ → ℕ → Token
name_at start end = record { kind = token.Name; start = start; end = end }

-- a comment, and no blank behind the star
abbrev text : Bytes
text = codes "{ x #\n *y in ? }"

abbrev product : List Token
product =
    name_at 2 3 ∷ (record { kind = token.Sign sign.Star; start = 7; end = 8 } ∷ (name_at 8 9 ∷ []))

product_line : goal_line text product (shown.In three_to_ten) ≡ codes "x * y in [3, 5b1]\n"
unfolding digits
product_line = refl

open_above : goal_line text (name_at 2 3 ∷ []) (shown.In from_one) ≡ codes "x in [1, +inf]\n"
unfolding digits
open_above = refl

open_below : goal_line text (name_at 2 3 ∷ []) (shown.In to_sixteenth) ≡ codes "x in [-inf, 1b-4]\n"
unfolding digits
open_below = refl

no_tokens : goal_line text [] (shown.In from_one) ≡ codes " in [1, +inf]\n"
unfolding digits
no_tokens = refl

no_values : goal_line text product shown.Empty ≡ codes "x * y in empty\n"
no_values = refl

second_is_assumed : hint_lines 1 (Checked ∷ (Assumed ∷ [])) ≡ codes "hint 2 assumed\n"
unfolding digits
second_is_assumed = refl

-- ---- refusals

nested : refusal_line (record { kind = kind.Limit limit.Nesting; at = 66 })
    ≡ codes "script: Limit(Nesting) at 66\n"
unfolding digits
nested = refl

out_of_order : refusal_line (record { kind = kind.BadBound; at = 10 })
    ≡ codes "script: BadBound at 10\n"
unfolding digits
out_of_order = refl

-- ---- certificates

cut_short : cert_fault_line (record { kind = cert.Truncated; at = 142 })
    ≡ codes "certificate: Truncated at 142\n"
unfolding digits
cut_short = refl

unsettled : check_fault_line (check.GoalMissing 3 1) ≡ codes "certificate: GoalMissing 3 1\n"
unfolding digits
unsettled = refl
