-- The grammar of programs: one type for each row of its table, one constructor for each form, and
-- the words that each
-- form spells.
use Rattle.std.specs.Prelude.{◌≡◌, ℕ, List, [], ◌∷◌, ◌++◌, map, true}
use Rattle.std.specs.List.{list_all}
use Rattle.std.specs.Char.{is_ascii_digit}
use Rattle.script_words.specs.declared.class.Symbol.{Symbol}
use Rattle.script_words.specs.declared.class.Symbol.TheVariants as s
use Rattle.script_judge.specs.Fault.{is_reserved}
use Rattle.fixprog.specs.declared.program.Mark.{Mark}
use Rattle.fixprog.specs.declared.program.Mark.TheVariants as mark
use Rattle.fixprog.specs.Words.{Name, Word, name, literal, format, sign, colon, right, left, out}

-- What an operation computes with: a value by its name, or a number by the text of its literal.
pub data Operand : Type 0 where
  named : Name → Operand
  given : (text : List ℕ) → Operand

-- The one word that an operand is written with.
abbrev pub operand_words : Operand → List Word
operand_words (named text) = name text ∷ []
operand_words (given text) = literal text ∷ []

-- decimal digits alone
pub record Digits : Type 0 where
  pub text : List ℕ
  pub decimal : list_all is_ascii_digit text ≡ true

-- What a step computes before its value is rounded; the digits of a shift are its places.
pub data Operation : Type 0 where
  copy : Operand → Operation
  negation : Operand → Operation
  sum : Operand → Operand → Operation
  difference : Operand → Operand → Operation
  product : Operand → Operand → Operation
  shift_right : Operand → Digits → Operation
  shift_left : Operand → Digits → Operation

-- The words of an operation, in the order of writing.
abbrev pub operation_words : Operation → List Word
operation_words (copy a) = operand_words a
operation_words (negation a) = sign s.Minus ∷ operand_words a
operation_words (sum a b) = operand_words a ++ (sign s.Plus ∷ operand_words b)
operation_words (difference a b) = operand_words a ++ (sign s.Minus ∷ operand_words b)
operation_words (product a b) = operand_words a ++ (sign s.Star ∷ operand_words b)
operation_words (shift_right a k) = operand_words a ++ (right ∷ (literal k.text ∷ []))
operation_words (shift_left a k) = operand_words a ++ (left ∷ (literal k.text ∷ []))

-- the sign that is written before the end of an input's range
abbrev pub mark_words : Mark → List Word
mark_words mark.Unmarked = []
mark_words mark.Plus = sign s.Plus ∷ []
mark_words mark.Minus = sign s.Minus ∷ []

-- the end of an input's range
pub record Bound : Type 0 where
  pub mark : Mark
  pub text : List ℕ

-- The words of an end of a range: its sign, if it has one, and its literal.
abbrev pub bound_words : Bound → List Word
bound_words b = mark_words b.mark ++ (literal b.text ∷ [])

-- An input: its name, the text of its format, and the two ends of the range that it lies in.
pub record Input : Type 0 where
  pub name : Name
  pub format : List ℕ
  pub lower : Bound
  pub upper : Bound

-- The words of an input, from `in` to its semicolon.
abbrev pub input_words : Input → List Word
input_words x =
    sign s.In ∷ (name x.name ∷ (colon ∷ (format x.format ∷
    (sign s.OpenBracket ∷ (bound_words x.lower
    ++ (sign s.Comma ∷ (bound_words x.upper ++ (sign s.CloseBracket ∷
    (sign s.Semicolon ∷ [])))))))))

-- a reserved word of scripts
pub record Reserved : Type 0 where
  pub sign : Symbol
  pub reserved : is_reserved sign ≡ true

-- what stands for a direction: any name or reserved word, of which the checks leave the eleven
-- directions
pub data Way : Type 0 where
  called : Name → Way
  reserved : Reserved → Way
  reserved_out : Way

-- The one word that stands for a direction.
abbrev pub way_words : Way → List Word
way_words (called text) = name text ∷ []
way_words (reserved g) = sign g.sign ∷ []
way_words reserved_out = out ∷ []

-- A step: its name, the text of its format, the direction in which it rounds, and what it computes.
pub record Step : Type 0 where
  pub name : Name
  pub format : List ℕ
  pub way : Way
  pub operation : Operation

-- The words of a step, from its name to its semicolon.
abbrev pub step_words : Step → List Word
step_words x =
    name x.name ∷ (colon ∷ (format x.format ∷ (way_words x.way
    ++ (sign s.Equal ∷ (operation_words x.operation ++ (sign s.Semicolon ∷ []))))))

-- The words that make a name an output, from `out` to the semicolon.
abbrev pub output_words : Name → List Word
output_words text = out ∷ (name text ∷ (sign s.Semicolon ∷ []))

-- one or more outputs stand last
pub record Program : Type 0 where
  pub inputs : List Input
  pub steps : List Step
  pub output : Name
  pub more_outputs : List Name

-- The names of all outputs, in the order of writing; there is one at least.
abbrev pub outputs : Program → List Name
outputs p = p.output ∷ p.more_outputs

-- What ends with a semicolon in a program: an input, a step, or an output by its name.
pub data Statement : Type 0 where
  input : Input → Statement
  step : Step → Statement
  output : Name → Statement

-- The words of a statement, with its semicolon.
abbrev pub statement_words : Statement → List Word
statement_words (input x) = input_words x
statement_words (step x) = step_words x
statement_words (output text) = output_words text

-- The statements of a program in the order of writing: the inputs, then the steps, then the
-- outputs.
abbrev pub statements : Program → List Statement
statements p = map input p.inputs ++ (map step p.steps ++ map output (outputs p))

-- The words of these statements, one statement behind the other.
abbrev pub words_from : List Statement → List Word
words_from [] = []
words_from (x ∷ xs) = statement_words x ++ words_from xs

-- The words that a program is written with, from the first to the last.
abbrev pub program_words : Program → List Word
program_words p = words_from (statements p)
