-- What holds of an assignment, as tests: claims and hints, with bounds exactly as they are written.
use lib.IntN.{neg_ℤ}
use Rattle.std.specs.Prelude.{ℤ, ◌==◌, ◌&&◌, ◌||◌, not, Option, Some, None, Bool, true, false}
use Rattle.std.specs.List.{list_all}
use Rattle.fx_model.specs.Fraction.{Fraction, ◌*ℚ◌, le_ℚ, is_zero_ℚ}
use Rattle.fx_model.specs.Powers.{two_to}
use Rattle.fx_model.specs.declared.ExprId.{ExprId}
use Rattle.literal_order.specs.declared.written.Written.{Written}
use Rattle.literal_order.specs.Values.{written_value}
use Rattle.exact_fractions.specs.Exact.{are_equal}
use Rattle.exact_fractions.specs.Reduced.{denominator}
use Rattle.facts.specs.declared.hint.HintMark.{HintMark}
use Rattle.facts.specs.declared.hint.HintMark.TheVariants as mark
use Rattle.script_claims.specs.declared.claim.Claim.{Claim}
use Rattle.script_claims.specs.declared.claim.Claim.TheVariants as claim
use Rattle.script_hints.specs.declared.hint.Constraint.{Constraint}
use Rattle.script_hints.specs.declared.hint.Constraint.TheVariants as constraint
use Rattle.script_hints.specs.declared.hint.Hint.{Hint}
use Rattle.point_values.specs.Numbers.{error_of}

-- ---- of parts that have values
abbrev pub with_value : (Fraction → Bool) → Option Fraction → Bool
with_value f None = false
with_value f (Some x) = f x

-- Whether the test is true of both values; false where either is missing.
abbrev pub with_values : (Fraction → Fraction → Bool) → Option Fraction → Option Fraction → Bool
with_values f None y = false
with_values f (Some x) None = false
with_values f (Some x) (Some y) = f x y

-- ---- sides of a bound
abbrev pub is_below : Written → Bool → Fraction → Bool
is_below w true x = not (le_ℚ (written_value w) x)
is_below w false x = le_ℚ x (written_value w)

-- Whether x lies above the bound, or also on it where the bound isn't strict.
abbrev pub is_above : Written → Bool → Fraction → Bool
is_above w true x = not (le_ℚ x (written_value w))
is_above w false x = le_ℚ (written_value w) x

-- open where no bound is written
abbrev pub is_from : Option Written → Fraction → Bool
is_from None x = true
is_from (Some w) x = is_above w false x

-- Whether x isn't above the upper bound; always true where none is written.
abbrev pub is_to : Option Written → Fraction → Bool
is_to None x = true
is_to (Some w) x = is_below w false x

-- there is a value, and it lies between the bounds
abbrev pub lies_within : Option Written → Option Written → Option Fraction → Bool
lies_within lower upper o = with_value (is_from lower) o && with_value (is_to upper) o

-- ---- claims
-- both have values, which are 0
abbrev pub are_zero : Option Fraction → Option Fraction → Bool
are_zero x y = with_values (λ a b. is_zero_ℚ a && is_zero_ℚ b) x y

-- a whole multiple of 2^k
abbrev pub is_multiple : ℤ → Fraction → Bool
is_multiple k x = denominator (x *ℚ two_to (neg_ℤ k)) == 1

-- A question claims nothing. A relative claim holds where both sides are 0, too.
abbrev pub claim_holds : (ExprId → Option Fraction) → Claim → Bool
claim_holds v (claim.Bounded x lower upper) = lies_within lower upper (v x)
claim_holds v (claim.Asked x) = true
claim_holds v (claim.Relative x y lower upper) = are_zero (v x) (v y)
    || lies_within (Some lower) (Some upper) (error_of (v x) (v y))
claim_holds v (claim.RelativeAsked x y) = true
claim_holds v (claim.Above x w) = with_value (is_above w true) (v x)
claim_holds v (claim.Below x w) = with_value (is_below w true) (v x)
claim_holds v (claim.Multiple x k) = with_value (is_multiple k) (v x)

-- ---- hints
abbrev pub constraint_holds : (ExprId → Option Fraction) → Constraint → Bool
constraint_holds v (constraint.NotZero x) = with_value (λ r. not (is_zero_ℚ r)) (v x)
constraint_holds v (constraint.Below x w strict) = with_value (is_below w strict) (v x)
constraint_holds v (constraint.Above x w strict) = with_value (is_above w strict) (v x)

-- sides without a value have no two values that differ
abbrev pub agree : Option Fraction → Option Fraction → Bool
agree None y = true
agree (Some x) None = true
agree (Some x) (Some y) = are_equal x y

-- where the constraints hold and both sides have values, the two are equal
abbrev pub hint_holds : (ExprId → Option Fraction) → Hint → Bool
hint_holds v h = not (list_all (constraint_holds v) h.constraints) || agree (v h.left) (v h.right)

-- a hint that is checked isn't judged
unfoldable pub marked_holds : (ExprId → Option Fraction) → Hint × HintMark → Bool
marked_holds v (h, mark.Checked) = true
marked_holds v (h, mark.Assumed) = hint_holds v h
