-- The lines of an evaluation. What is counted from 0 prints from 1.
use Rattle.std.specs.Prelude.{ℕ, ◌+◌, ◌==◌, List, [], ◌∷◌, ◌++◌, codes, Option, Some, None, Bool}
use Rattle.std.specs.Prelude.{true, false, if◌then◌else◌}
use Rattle.std.specs.Fmt.{decimal, signed_decimal}
use Rattle.fx_model.specs.Fraction.{Fraction}
use Rattle.fx_model.specs.declared.ExprId.{ExprId}
use Rattle.exact_fractions.specs.Reduced.{numerator, denominator}
use Rattle.facts.specs.declared.hint.HintMark.{HintMark}
use Rattle.facts.specs.declared.hint.HintMark.TheVariants as mark
use Rattle.script_claims.specs.declared.claim.Claim.{Claim}
use Rattle.script_claims.specs.declared.claim.Claim.TheVariants as claim
use Rattle.script_hints.specs.declared.hint.Hint.{Hint}
use Rattle.point_values.specs.Numbers.{error_of}
use Rattle.point_values.specs.Truth.{are_zero, claim_holds, hint_holds}

-- A text, as the numbers of its bytes.
abbrev pub Bytes : Type 0
Bytes = List ℕ

-- ---- values
-- `n` where the denominator is 1, else `n/d`
abbrev pub fraction_text : Fraction → Bytes
fraction_text x = signed_decimal (numerator x) ++ (if denominator x == 1 then [] else codes "/"
    ++ decimal (denominator x))

-- A value as it prints, and `no value` where there is none.
abbrev pub value_text : Option Fraction → Bytes
value_text None = codes "no value"
value_text (Some x) = fraction_text x

-- of a relative goal: x / y - 1, and `zero` where both are 0
abbrev pub relative_text : Option Fraction → Option Fraction → Bytes
relative_text x y = if are_zero x y then codes "zero" else value_text (error_of x y)

-- What the line of a goal shows: the value of its expression, or the relative error of its two
-- sides.
abbrev pub goal_text : (ExprId → Option Fraction) → Claim → Bytes
goal_text v (claim.Bounded x lower upper) = value_text (v x)
goal_text v (claim.Asked x) = value_text (v x)
goal_text v (claim.Relative x y lower upper) = relative_text (v x) (v y)
goal_text v (claim.RelativeAsked x y) = relative_text (v x) (v y)
goal_text v (claim.Above x w) = value_text (v x)
goal_text v (claim.Below x w) = value_text (v x)
goal_text v (claim.Multiple x k) = value_text (v x)

-- ---- lines
abbrev pub truth_text : Bool → Bytes
truth_text true = codes "holds"
truth_text false = codes "fails"

-- a question has no truth
abbrev pub is_asked : Claim → Bool
is_asked (claim.Asked x) = true
is_asked (claim.RelativeAsked x y) = true
is_asked c = false

-- How the line of a goal ends: whether the goal holds, and nothing for a question.
abbrev pub goal_truth : (ExprId → Option Fraction) → Claim → Bytes
goal_truth v c = if is_asked c then [] else codes ", " ++ truth_text (claim_holds v c)

-- The line of a hypothesis that k others precede: its number, counted from 1, and whether it holds.
unfoldable pub hypothesis_line : (ExprId → Option Fraction) → ℕ → Claim → Bytes
hypothesis_line v k c = codes "hypothesis " ++ decimal (k + 1) ++ codes ": "
    ++ truth_text (claim_holds v c) ++ codes "\n"

-- The line of a goal that k others precede: its number, counted from 1, its value, and, but for a
-- question, whether it holds.
unfoldable pub goal_line : (ExprId → Option Fraction) → ℕ → Claim → Bytes
goal_line v k c = codes "goal " ++ decimal (k + 1) ++ codes ": " ++ goal_text v c ++ goal_truth v c
    ++ codes "\n"

-- a hint that is checked has no line
unfoldable pub hint_line : (ExprId → Option Fraction) → ℕ → Hint × HintMark → Bytes
hint_line v k (h, mark.Checked) = []
hint_line v k (h, mark.Assumed) = codes "hint " ++ decimal (k + 1) ++ codes ": "
    ++ truth_text (hint_holds v h) ++ codes "\n"

-- The last line: whether the point meets all that is assumed.
abbrev pub point_line : Bool → Bytes
point_line true = codes "point: meets\n"
point_line false = codes "point: misses\n"

-- a line for each, counted from k
abbrev pub lines_from : {A : Type 0} → (ℕ → A → Bytes) → ℕ → List A → Bytes
lines_from line k [] = []
lines_from line k (x ∷ xs) = line k x ++ lines_from line (k + 1) xs
