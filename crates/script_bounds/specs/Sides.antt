-- On which side of a written bound a number stands.
use Rattle.std.specs.Prelude.{Bool, true, false}
use Rattle.fx_model.specs.Fraction.{Fraction, ◌≤ℚ◌, ◌<ℚ◌}
use Rattle.dyadic.specs.Ends.{bound_of}
use Rattle.literal_order.specs.declared.written.Written.{Written}
use Rattle.literal_order.specs.Values.{written_value}
use Rattle.facts.specs.Rows.{IsUnder, IsOver}
use Rattle.script_bounds.specs.Needs.{below_of, above_of}

-- x is below the bound as it is written, or at most it where that isn't strict
abbrev pub IsUnderWritten : Written → Bool → Fraction → Type 0
IsUnderWritten w true x = x <ℚ written_value w
IsUnderWritten w false x = x ≤ℚ written_value w

-- x is above the bound as it is written, or at least it where that isn't strict.
abbrev pub IsOverWritten : Written → Bool → Fraction → Type 0
IsOverWritten w true x = written_value w <ℚ x
IsOverWritten w false x = written_value w ≤ℚ x

-- Any number that is at most the end, or below it, is so to the written bound, be it of the grid or
-- not.
abbrev pub UnderIsEnough : Type 0
UnderIsEnough = (w : Written) (strict : Bool) (x : Fraction)
    → IsUnder (bound_of (below_of w strict).0) (below_of w strict).1 x → IsUnderWritten w strict x

-- Any number that is at least the end, or above it, is so to the written bound, be it of the grid
-- or not.
abbrev pub OverIsEnough : Type 0
OverIsEnough = (w : Written) (strict : Bool) (x : Fraction)
    → IsOver (bound_of (above_of w strict).0) (above_of w strict).1 x → IsOverWritten w strict x
