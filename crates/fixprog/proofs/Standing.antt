-- Laws of what specs/Standing defines.
use Rattle.std.specs.Prelude.{ℕ, List, [], ◌∷◌, ◌++◌}
use Rattle.script_words.specs.declared.class.Symbol.TheVariants as s
use Rattle.fixprog.specs.declared.program.Joint.{Joint}
use Rattle.fixprog.specs.declared.program.Joint.TheVariants as joint
use Rattle.fixprog.specs.declared.program.Shift.{Shift}
use Rattle.fixprog.specs.declared.program.Shift.TheVariants as shift
use Rattle.fixprog.specs.Words.{Name, Word, name, format, sign, colon, right, left, out}
use Rattle.fixprog.specs.Grammar.{operand_words, operation_words, mark_words, bound_words}
use Rattle.fixprog.specs.Grammar.{way_words}
use Rattle.fixprog.specs.Standing.{Head, Begun, Part, between, input_name, input_colon}
use Rattle.fixprog.specs.Standing.{input_format, input_open, lower, lower_marked, comma, upper}
use Rattle.fixprog.specs.Standing.{upper_marked, input_close, input_end, step_colon, step_format}
use Rattle.fixprog.specs.Standing.{step_way, step_equal, step_operand, step_negated, step_operator}
use Rattle.fixprog.specs.Standing.{step_second, step_places, step_end, output_name, output_end}

-- How a joint is spelled in a program: always one sign.
abbrev pub joint_words : Joint → List Word
joint_words joint.Plus = sign s.Plus ∷ []
joint_words joint.Minus = sign s.Minus ∷ []
joint_words joint.Times = sign s.Star ∷ []

-- How a shift is spelled in a program: always one word, `>>` or `<<`.
abbrev pub shift_words : Shift → List Word
shift_words shift.Right = right ∷ []
shift_words shift.Left = left ∷ []

-- the words that a statement begins with
abbrev pub head_words : Name → List ℕ → List Word → List Word
head_words n f more = name n ∷ (colon ∷ (format f ∷ more))

-- The words of an input up to the `[` of its range, with `more` behind them.
abbrev pub range_words : Head → List Word → List Word
range_words h more = sign s.In ∷ head_words h.name h.format (sign s.OpenBracket ∷ more)

-- The words of a step up to its direction, with `more` behind them.
abbrev pub begun_words : Begun → List Word → List Word
begun_words b more = head_words b.name b.format (way_words b.way ++ more)

-- its words so far
abbrev pub part_words : Part → List Word
part_words between = []
part_words input_name = sign s.In ∷ []
part_words (input_colon n) = sign s.In ∷ (name n ∷ [])
part_words (input_format n) = sign s.In ∷ (name n ∷ (colon ∷ []))
part_words (input_open h) = sign s.In ∷ head_words h.name h.format []
part_words (lower h) = range_words h []
part_words (lower_marked h m) = range_words h (mark_words m)
part_words (comma h a) = range_words h (bound_words a)
part_words (upper h a) = range_words h (bound_words a ++ (sign s.Comma ∷ []))
part_words (upper_marked h a m) = range_words h (bound_words a ++ (sign s.Comma ∷ mark_words m))
part_words (input_close x) = range_words (record { name = x.name; format = x.format })
    (bound_words x.lower ++ (sign s.Comma ∷ bound_words x.upper))
part_words (input_end x) = range_words (record { name = x.name; format = x.format })
    (bound_words x.lower ++ (sign s.Comma ∷ (bound_words x.upper ++ (sign s.CloseBracket ∷ []))))
part_words (step_colon n) = name n ∷ []
part_words (step_format n) = name n ∷ (colon ∷ [])
part_words (step_way h) = head_words h.name h.format []
part_words (step_equal b) = begun_words b []
part_words (step_operand b) = begun_words b (sign s.Equal ∷ [])
part_words (step_negated b) = begun_words b (sign s.Equal ∷ (sign s.Minus ∷ []))
part_words (step_operator b a) = begun_words b (sign s.Equal ∷ operand_words a)
part_words (step_second b a j) = begun_words b (sign s.Equal ∷ (operand_words a ++ joint_words j))
part_words (step_places b a k) = begun_words b (sign s.Equal ∷ (operand_words a ++ shift_words k))
part_words (step_end x) = begun_words (record { name = x.name; format = x.format; way = x.way })
    (sign s.Equal ∷ operation_words x.operation)
part_words output_name = out ∷ []
part_words (output_end text) = out ∷ (name text ∷ [])
