-- Constraints with bounds as they are written, and the needs that stand for them.
use Rattle.std.specs.Prelude.{⊤, All, Some}
use Rattle.literal_order.specs.Values.{IsWritten}
use Rattle.facts.specs.declared.hint.Need.{Need}
use Rattle.facts.specs.declared.hint.Need.TheVariants as need
use Rattle.script_bounds.specs.Needs.{below_of, above_of}
use Rattle.script_hints.specs.declared.hint.Constraint.{Constraint}
use Rattle.script_hints.specs.declared.hint.Constraint.TheVariants.{NotZero, Below, Above}
use Rattle.script_hints.specs.declared.hint.Hint.{Hint}

-- a bound that is there has its literal in normal form
abbrev pub HasNormalBound : Constraint → Type 0
HasNormalBound (NotZero x) = ⊤
HasNormalBound (Below x w strict) = IsWritten (Some w)
HasNormalBound (Above x w strict) = IsWritten (Some w)

-- the bound of each of the hint's constraints is in normal form
abbrev pub HasNormalBounds : Hint → Type 0
HasNormalBounds h = All HasNormalBound h.constraints

-- the same on the grid, with the bound rounded inward
abbrev pub need_of : Constraint → Need
need_of (NotZero x) = need.NotZero x
need_of (Below x w strict) = need.Below x (below_of w strict).0 (below_of w strict).1
need_of (Above x w strict) = need.Above x (above_of w strict).0 (above_of w strict).1
