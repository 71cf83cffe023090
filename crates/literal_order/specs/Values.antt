-- What literals with their signs stand for.
use Rattle.std.specs.Prelude.{⊤, Option, Some, None}
use Rattle.fx_model.specs.Fraction.{Fraction}
use Rattle.fx_model.specs.Grid.{signed}
use Rattle.fx_model.specs.Expression.{literal_value}
use Rattle.literal.specs.Normal.{IsNormal}
use Rattle.literal_order.specs.declared.written.Written.{Written}

-- the literal's value, or the negative of it
abbrev pub written_value : Written → Fraction
written_value w = signed w.negative (literal_value w.literal)

-- a number that is there has its literal in normal form
abbrev pub IsWritten : Option Written → Type 0
IsWritten None = ⊤
IsWritten (Some w) = IsNormal w.literal
