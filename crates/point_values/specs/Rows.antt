-- The rows of a point: what each variable is set to.
use Rattle.std.specs.Prelude.{◌≢◌, List, map, Option, Some, None}
use Rattle.fx_model.specs.Fraction.{Fraction, ◌/ℚ◌}
use Rattle.fx_model.specs.Expression.{Assignment, literal_value}
use Rattle.fx_model.specs.declared.Literal.{Literal}
use Rattle.literal.specs.Normal.{IsNormal}
use Rattle.literal_order.specs.declared.written.Written.{Written}
use Rattle.literal_order.specs.Values.{written_value}

-- a number, and what it is divided by
abbrev pub Row : Type 0
Row = Written × Option Literal

-- the fraction that a variable is set to
abbrev pub row_value : Row → Fraction
row_value (w, None) = written_value w
row_value (w, Some l) = written_value w /ℚ literal_value l

-- The assignment that the rows say, by the number of the variable.
abbrev pub assignment_of : List Row → Assignment
assignment_of rows = map row_value rows

-- literals in normal form, the divisor's not 0
abbrev pub IsRow : Row → Type 0
IsRow (w, None) = IsNormal w.literal
IsRow (w, Some l) = IsNormal w.literal × IsNormal l × (l.num ≢ 0)
