-- The bounds of a tree as they are written.
use Rattle.std.specs.Prelude.{true, false}
use Rattle.literal_order.specs.declared.written.Written.{Written}
use Rattle.script_shape.specs.Expressions.{Bound, unsigned, positive, negative}
use Rattle.script_nodes.specs.Literals.{literal_of}

-- the literal of a bound, and whether a minus stands before it
abbrev pub bound_written : Bound → Written
bound_written (unsigned k text) = record { literal = literal_of text; negative = false }
bound_written (positive k text) = record { literal = literal_of text; negative = false }
bound_written (negative k text) = record { literal = literal_of text; negative = true }
