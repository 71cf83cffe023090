-- The script of a program, byte by byte.
use Rattle.std.specs.Prelude.{ℕ, ℤ, codes, List, [], ◌∷◌, ◌++◌, map}
use Rattle.std.specs.List.{flat_map}
use Rattle.std.specs.Fmt.{decimal, signed_decimal}
use Rattle.std.specs.Str.Parse.{digits_value}
use Rattle.fixprog.specs.declared.program.Mark.{Mark}
use Rattle.fixprog.specs.declared.program.Mark.TheVariants as mark
use Rattle.fixprog.specs.Words.{Name}
use Rattle.fixprog.specs.Grammar.{Operand, named, given, Operation, copy, negation, sum, difference}
use Rattle.fixprog.specs.Grammar.{product, shift_right, shift_left, Bound, Input, Step, Program}
use Rattle.fixprog.specs.Grammar.{outputs}
use Rattle.fixprog.specs.declared.format.Format.{Format}
use Rattle.fixprog.specs.Formats.{format_of, least, greatest, last_place}
use Rattle.fixprog.specs.Execution.{way_text}

-- A text of a script, by its bytes.
abbrev pub Bytes : Type 0
Bytes = List ℕ

-- ---- definitions of steps

-- An operand in a script: its name or its literal, as the program has it.
abbrev pub operand_text : Operand → Bytes
operand_text (named text) = text
operand_text (given text) = text

-- A shift is a product with a power of two.
abbrev pub operation_text : Operation → Bytes
operation_text (copy a) = operand_text a
operation_text (negation a) = codes "-" ++ operand_text a
operation_text (sum a b) = operand_text a ++ (codes " + " ++ operand_text b)
operation_text (difference a b) = operand_text a ++ (codes " - " ++ operand_text b)
operation_text (product a b) = operand_text a ++ (codes " * " ++ operand_text b)
operation_text (shift_right a k) = operand_text a
    ++ (codes " * 1b-" ++ decimal (digits_value 10 k.text))
operation_text (shift_left a k) = operand_text a
    ++ (codes " * 1b" ++ decimal (digits_value 10 k.text))

-- `-F`, and `0` where F is 0
abbrev pub last_place_text : Format → Bytes
last_place_text f = signed_decimal (last_place f)

-- `NAME = fixed<L,DIR>(OP);`
abbrev pub step_line : Step → Bytes
step_line x =
    x.name ++ (codes " = fixed<" ++ (last_place_text (format_of x.format)
    ++ (codes "," ++ (way_text x.way ++ (codes ">("
    ++ (operation_text x.operation ++ codes ");\n"))))))

-- ---- propositions

-- The sign before an end of a range in a script; nothing where the program has none.
abbrev pub mark_text : Mark → Bytes
mark_text mark.Unmarked = []
mark_text mark.Plus = codes "+"
mark_text mark.Minus = codes "-"

-- An end of a range in a script: its sign and its literal, as the program has them.
abbrev pub bound_text : Bound → Bytes
bound_text b = mark_text b.mark ++ b.text

-- The proposition that the value of a name lies in a range, whose ends are given by their texts.
abbrev pub range_text : Name → Bytes → Bytes → Bytes
range_text name lower upper = name ++ (codes " in ["
    ++ (lower ++ (codes ", " ++ (upper ++ codes "]"))))

-- `x in [lo, hi] /\ @FIX(x,L)`
abbrev pub input_text : Input → Bytes
input_text x =
    range_text x.name (bound_text x.lower) (bound_text x.upper)
    ++ (codes " /\\ @FIX(" ++ (x.name ++ (codes "," ++ (last_place_text (format_of x.format)
    ++ codes ")"))))

-- the number w * 2^L, which is written `wbL`
abbrev pub word_text : Format → ℤ → Bytes
word_text f w = signed_decimal w ++ (codes "b" ++ last_place_text f)

-- no step's value is outside its format
abbrev pub format_goal : Step → Bytes
format_goal x =
    let f = format_of x.format in
    range_text x.name (word_text f (least f)) (word_text f (greatest f))

-- The goal that asks in which range an output lies.
abbrev pub output_goal : Name → Bytes
output_goal text = text ++ codes " in ?"

-- Propositions with `/\` between each two; nothing where there are none.
abbrev pub joined : List Bytes → Bytes
joined [] = []
joined (p ∷ ps) = p ++ flat_map (λ q. codes " /\\ " ++ q) ps

-- the hypotheses with their arrow, where there are inputs
abbrev pub hypotheses_text : List Input → Bytes
hypotheses_text [] = []
hypotheses_text (x ∷ xs) = joined (map input_text (x ∷ xs)) ++ codes " -> "

-- The goals of a script's formula: that each step's value lies in its format, then the outputs'
-- ranges that are asked for.
abbrev pub goals_text : Program → Bytes
goals_text p = joined (map format_goal p.steps ++ map output_goal (outputs p))

-- ---- the text

-- a line for each step, and one for the formula
abbrev pub lines_of : List Step → Bytes
lines_of xs = flat_map step_line xs

-- The script that a program is turned into: a line for each step, and the formula in braces.
abbrev pub script_of : Program → Bytes
script_of p = lines_of p.steps ++ (codes "{ "
    ++ (hypotheses_text p.inputs ++ (goals_text p ++ codes " }\n")))
