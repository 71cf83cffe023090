-- The code's values as those that definitions speak of.
use Rattle.std.specs.Prelude.{List, [], ◌∷◌, map, Option, Some, None, Result, Ok, Err}
use Rattle.fixprog.specs.declared.word.Word.{Word as CodeWord}
use Rattle.fixprog.specs.declared.word.Word.TheVariants as word
use Rattle.fixprog.specs.declared.program.Operand.{Operand as CodeOperand}
use Rattle.fixprog.specs.declared.program.Operand.TheVariants as operand
use Rattle.fixprog.specs.declared.program.Digits.{Digits as CodeDigits}
use Rattle.fixprog.specs.declared.program.Operation.{Operation as CodeOperation}
use Rattle.fixprog.specs.declared.program.Operation.TheVariants as operation
use Rattle.fixprog.specs.declared.program.Bound.{Bound as CodeBound}
use Rattle.fixprog.specs.declared.program.Input.{Input as CodeInput}
use Rattle.fixprog.specs.declared.program.Way.{Way as CodeWay}
use Rattle.fixprog.specs.declared.program.Way.TheVariants as way
use Rattle.fixprog.specs.declared.program.Step.{Step as CodeStep}
use Rattle.fixprog.specs.declared.program.Statement.{Statement as CodeStatement}
use Rattle.fixprog.specs.declared.program.Statement.TheVariants as statement
use Rattle.fixprog.specs.declared.program.Program.{Program as CodeProgram}
use Rattle.fixprog.specs.declared.part.Part.{Part as CodePart}
use Rattle.fixprog.specs.declared.part.Part.TheVariants as part
use Rattle.fixprog.specs.declared.part.Opening.{Opening as CodeOpening}
use Rattle.fixprog.specs.declared.part.Head.{Head as CodeHead}
use Rattle.fixprog.specs.declared.part.Begun.{Begun as CodeBegun}
use Rattle.fixprog.specs.declared.fault.ProgFault.{ProgFault}
use Rattle.fixprog.specs.declared.judge.Names.{Names}
use Rattle.fixprog.specs.declared.reader.ProgramReader.{ProgramReader}
use Rattle.fixprog.specs.Faults.{Before}
use Rattle.fixprog.specs.Words.{Name, Word, name, literal, format, sign, colon, right, left, out}
use Rattle.fixprog.specs.Grammar as g
use Rattle.fixprog.specs.Standing as st

-- A word of the code, as definitions have it.
abbrev pub word_of : CodeWord → Word
word_of (word.Name text) = name text.now
word_of (word.Literal text) = literal text.now
word_of (word.Format text) = format text.now
word_of (word.Sign x) = sign x
word_of word.Colon = colon
word_of word.Right = right
word_of word.Left = left
word_of word.Out = out

-- An operand of the code, as the grammar has it.
abbrev pub operand_of : CodeOperand → g.Operand
operand_of (operand.Named text) = g.named text.now
operand_of (operand.Given text) = g.given text.now

-- Digits of the code, as the grammar has them, with the fact that they are digits.
abbrev pub digits_seen : CodeDigits → g.Digits
digits_seen k = record { text = k.text.now; decimal = k.decimal }

-- An operation of the code, as the grammar has it.
abbrev pub operation_of : CodeOperation → g.Operation
operation_of (operation.Copy a) = g.copy (operand_of a)
operation_of (operation.Negation a) = g.negation (operand_of a)
operation_of (operation.Sum a b) = g.sum (operand_of a) (operand_of b)
operation_of (operation.Difference a b) = g.difference (operand_of a) (operand_of b)
operation_of (operation.Product a b) = g.product (operand_of a) (operand_of b)
operation_of (operation.Right a k) = g.shift_right (operand_of a) (digits_seen k)
operation_of (operation.Left a k) = g.shift_left (operand_of a) (digits_seen k)

-- An end of a range in the code, as the grammar has it.
abbrev pub bound_of : CodeBound → g.Bound
bound_of b = record { mark = b.mark; text = b.text.now }

-- An input of the code, as the grammar has it.
abbrev pub input_of : CodeInput → g.Input
input_of x = record {
  name = x.name.now;
  format = x.format.now;
  lower = bound_of x.lower;
  upper =
      bound_of x.upper;
}

-- What stands for a direction, or the reserved word `out` where nothing does.
abbrev pub or_out : Option g.Way → g.Way
or_out (Some v) = v
or_out None = g.reserved_out

-- A sign in the place of a direction is a reserved word.
abbrev pub way_of : CodeWay → g.Way
way_of (way.Called text) = g.called text.now
way_of (way.Reserved x) = or_out (st.way_in (sign x))
way_of way.Out = g.reserved_out

-- A step of the code, as the grammar has it.
abbrev pub step_of : CodeStep → g.Step
step_of x = record {
  name = x.name.now;
  format = x.format.now;
  way = way_of x.way;
  operation =
      operation_of x.operation;
}

-- A statement of the code, as the grammar has it.
abbrev pub statement_of : CodeStatement → g.Statement
statement_of (statement.Input x) = g.input (input_of x)
statement_of (statement.Step x) = g.step (step_of x)
statement_of (statement.Output text) = g.output text.now

-- A name and format that the code has read, as the front of a statement.
abbrev pub head_of : CodeHead → st.Head
head_of h = record { name = h.name.now; format = h.format.now }

-- A name, format and direction that the code has read, as the front of a step.
abbrev pub begun_of : CodeBegun → st.Begun
begun_of b = record { name = b.name.now; format = b.format.now; way = way_of b.way }

-- The code's part of a statement that isn't ended, as definitions have it.
abbrev pub part_of : CodePart → st.Part
part_of part.Between = st.between
part_of part.InputName = st.input_name
part_of (part.InputColon n) = st.input_colon n.now
part_of (part.InputFormat n) = st.input_format n.now
part_of (part.InputOpen h) = st.input_open (head_of h)
part_of (part.Lower h) = st.lower (head_of h)
part_of (part.LowerMarked h m) = st.lower_marked (head_of h) m
part_of (part.Comma h a) = st.comma (head_of h) (bound_of a)
part_of (part.Upper h a) = st.upper (head_of h) (bound_of a)
part_of (part.UpperMarked h a m) = st.upper_marked (head_of h) (bound_of a) m
part_of (part.InputClose x) = st.input_close (input_of x)
part_of (part.InputEnd x) = st.input_end (input_of x)
part_of (part.StepColon n) = st.step_colon n.now
part_of (part.StepFormat n) = st.step_format n.now
part_of (part.StepWay h) = st.step_way (head_of h)
part_of (part.StepEqual b) = st.step_equal (begun_of b)
part_of (part.StepOperand b) = st.step_operand (begun_of b)
part_of (part.StepNegated b) = st.step_negated (begun_of b)
part_of (part.StepOperator b a) = st.step_operator (begun_of b) (operand_of a)
part_of (part.StepSecond b a j) = st.step_second (begun_of b) (operand_of a) j
part_of (part.StepPlaces b a k) = st.step_places (begun_of b) (operand_of a) k
part_of (part.StepEnd x) = st.step_end (step_of x)
part_of part.OutputName = st.output_name
part_of (part.OutputEnd text) = st.output_end text.now

-- Which statements the code lets begin beside an output, as definitions have it.
abbrev pub opening_of : CodeOpening → st.Opening
opening_of o = record { inputs = o.inputs; steps = o.steps }

-- The names and the weight that the code keeps, as those of the statements before.
abbrev pub before_seen : Names → Before
before_seen n = record { names = map (λ t. t.now) n.names.items; weight = n.weight }

-- How far the code's reader has come, without its faults: its whole statements, and the part of one
-- that isn't ended.
abbrev pub standing_of : ProgramReader → st.Standing
standing_of r = record {
  inputs = map input_of r.program.inputs.items;
  steps = map step_of r.program.steps.items;
  outputs = map (λ t. t.now) r.program.outputs.items;
  before = before_seen r.names;
  part = part_of r.part;
}

-- what the reader answers
abbrev pub answer_of : Option ProgFault → CodeProgram → Result CodeProgram ProgFault
answer_of (Some f) p = Err f
answer_of None p = Ok p

-- the program of these statements, of which an output is one at least
abbrev pub program_with : List g.Input → List g.Step → List Name → Option g.Program
program_with inputs steps [] = None
program_with inputs steps (o ∷ os) = Some (record {
  inputs = inputs;
  steps = steps;
  output =
      o;
  more_outputs = os;
})

-- The program that the code's lists make up; none where there is no output.
abbrev pub program_of : CodeProgram → Option g.Program
program_of p = program_with (map input_of p.inputs.items) (map step_of p.steps.items)
    (map (λ t. t.now) p.outputs.items)
