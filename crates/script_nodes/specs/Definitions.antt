-- What definitions add to what is known, by recursion on their trees.
use Rattle.std.specs.Prelude.{Option, Some, None}
use Rattle.fx_model.specs.declared.Rounding.{Rounding}
use Rattle.script_shape.specs.Expressions.{AnyName, plain, operator}
use Rattle.script_shape.specs.Tree.{How, exactly, rounded_by, rounded_apart, rounded_joined}
use Rattle.script_shape.specs.Tree.{Definition, names_operator, names_value, Script, formula}
use Rattle.script_shape.specs.Tree.{define}
use Rattle.script_nodes.specs.Operators.{rounding_of}
use Rattle.script_nodes.specs.Known.{Name, Known, PlacedNode, with_entry, operator_named}
use Rattle.script_nodes.specs.Values.{expr_value}

-- the text of a name
abbrev pub name_text : AnyName → Name
name_text (plain k text) = text
name_text (operator k text) = text

-- what rounds the operations of a definition
abbrev pub rounding_by : Known → How → Option Rounding
rounding_by k exactly = None
rounding_by k (rounded_by kind text) = Some (operator_named k text)
rounding_by k (rounded_apart o) = Some (rounding_of o)
rounding_by k (rounded_joined o) = Some (rounding_of o)

-- with one more value, and with one more operator
abbrev pub with_value : Name → PlacedNode → Known
with_value text p = record p.0 { values = with_entry p.0.values text p.1 }

-- the name gets this rounding
abbrev pub with_operator : Name → Rounding → Known → Known
with_operator text r k = record k { operators = with_entry k.operators text r }

-- A value's right side is read before its name joins.
abbrev pub definition_value : Definition → Known → Known
definition_value (names_operator n o) k = with_operator (name_text n) (rounding_of o) k
definition_value (names_value n h e) k = with_value (name_text n) (expr_value (rounding_by k h) e k)

-- what is known before the formula
abbrev pub definitions_value : Script → Known → Known
definitions_value (formula f h) k = k
definitions_value (define x rest) k = definitions_value rest (definition_value x k)
