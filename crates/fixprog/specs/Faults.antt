-- What is wrong with the words of a program, by recursion on its tree.
use Rattle.std.specs.Prelude.{ℕ, ◌+◌, ◌&&◌, ◌||◌, not, nat_lt, List, [], ◌∷◌, ◌++◌, length, Bool}
use Rattle.std.specs.Prelude.{true, false, if◌then◌else◌}
use Rattle.std.specs.List.{list_any}
use Rattle.std.specs.Str.{bytes_eq}
use Rattle.std.specs.Str.Parse.{digits_value}
use Rattle.fx_model.specs.Fraction.{Fraction, le_ℚ}
use Rattle.fx_model.specs.Grid.{signed}
use Rattle.fx_model.specs.Expression.{literal_value}
use Rattle.script_words.specs.Named.{is_direction}
use Rattle.script_nodes.specs.Literals.{literal_of, parts_of, is_read_as}
use Rattle.fixprog.specs.declared.fault.ProgKind.{ProgKind}
use Rattle.fixprog.specs.declared.fault.ProgKind.TheVariants as kind
use Rattle.fixprog.specs.declared.program.Mark.{Mark}
use Rattle.fixprog.specs.declared.program.Mark.TheVariants as mark
use Rattle.fixprog.specs.Words.{Name}
use Rattle.fixprog.specs.Grammar.{Operand, named, given, Digits, Operation, copy, negation, sum}
use Rattle.fixprog.specs.Grammar.{difference, product, shift_right, shift_left, Bound, mark_words}
use Rattle.fixprog.specs.Grammar.{bound_words, Input, Way, called, Step, Statement, input, step}
use Rattle.fixprog.specs.Grammar.{output, statement_words, Program, statements}
use Rattle.fixprog.specs.declared.format.Format.{Format}
use Rattle.fixprog.specs.Formats.{format_of, is_format, is_within}

-- The word that is refused, by its number, and the last word that it takes to tell.
pub record Fault : Type 0 where
  pub kind : ProgKind
  pub word : ℕ
  pub told : ℕ

-- One fault of this kind at this word where the test holds, and none otherwise.
abbrev pub fault_if : Bool → ProgKind → ℕ → ℕ → List Fault
fault_if b k word told = if b then record { kind = k; word = word; told = told } ∷ [] else []

-- ---- names and numbers, at the word i

-- The names of the inputs and steps before, and their weight with the outputs': an input weighs
-- two, the others one.
pub record Before : Type 0 where
  pub names : List Name
  pub weight : ℕ

-- Whether the name is, byte for byte, one of these.
abbrev pub is_among : List Name → Name → Bool
is_among names text = list_any (bytes_eq text) names

-- A limit's fault where the name has more than 32 bytes.
abbrev pub length_faults : ℕ → Name → List Fault
length_faults i text = fault_if (nat_lt 32 (length text)) kind.Limit i i

-- a statement of this weight begins or ends here
abbrev pub weight_faults : Before → ℕ → ℕ → List Fault
weight_faults b weight i = fault_if (nat_lt 128 (b.weight + weight)) kind.Limit i i

-- What is wrong with the name that an input or step gets: it is used already, or longer than 32
-- bytes.
abbrev pub new_name_faults : Before → ℕ → Name → List Fault
new_name_faults b i text = fault_if (is_among b.names text) kind.NameUsed i i
    ++ length_faults i text

-- What is wrong with a mentioned name: it is no input's and no earlier step's, or longer than 32
-- bytes.
abbrev pub known_name_faults : Before → ℕ → Name → List Fault
known_name_faults b i text = fault_if (not (is_among b.names text)) kind.Undefined i i
    ++ length_faults i text

-- the literal is within its limits
abbrev pub is_literal : List ℕ → Bool
is_literal text = is_read_as text (parts_of text)

-- What is wrong with a literal, which can only be that it exceeds its limits.
abbrev pub literal_faults : ℕ → List ℕ → List Fault
literal_faults i text = fault_if (not (is_literal text)) kind.LiteralLimit i i

-- What is wrong with a format: its width isn't from 1 to 60, or its places are more than 60.
abbrev pub format_faults : ℕ → List ℕ → List Fault
format_faults i text = fault_if (not (is_format (format_of text))) kind.BadFormat i i

-- ---- inputs

-- Whether the sign before an end of a range is a minus; a plus or no sign isn't.
abbrev pub is_negative : Mark → Bool
is_negative mark.Minus = true
is_negative m = false

-- The exact number that an end of a range stands for, with its sign; 0 where its literal exceeds
-- its limits.
abbrev pub bound_value : Bound → Fraction
bound_value b = signed (is_negative b.mark) (literal_value (literal_of b.text))

-- how far its literal is from its first word
abbrev pub mark_len : Bound → ℕ
mark_len b = length (mark_words b.mark)

-- An end is compared with its format, and the upper one with the lower, where each of the two is
-- within its limits.
abbrev pub is_outside : Format → Bound → Bool
is_outside f b = is_format f && is_literal b.text && not (is_within f (bound_value b))

-- Whether the first end lies above the second, both literals being within their limits; equal ends
-- aren't crossed.
abbrev pub is_crossed : Bound → Bound → Bool
is_crossed a b = is_literal a.text && is_literal b.text
    && not (le_ℚ (bound_value a) (bound_value b))

-- What is wrong with an end of a range: its number, where `bad` says so, which its literal tells,
-- and the literal's own limits.
abbrev pub bound_faults : Bool → ℕ → Bound → List Fault
bound_faults bad i b = fault_if bad kind.BadRange i (i + mark_len b)
    ++ literal_faults (i + mark_len b) b.text

-- `in name : format [ lower , upper ] ;`
abbrev pub input_faults : Before → ℕ → Input → List Fault
input_faults b i x =
    let f = format_of x.format in
    let upper = i + 5 + length (bound_words x.lower) + 1 in
    new_name_faults b (i + 1) x.name ++ (weight_faults b 2 (i + 1)
    ++ (format_faults (i + 3) x.format
    ++ (bound_faults (is_outside f x.lower) (i + 5) x.lower
    ++ bound_faults (is_outside f x.upper || is_crossed x.lower x.upper) upper x.upper)))

-- ---- steps

-- What is wrong with an operand: a name that is unknown or too long, or a literal beyond its
-- limits.
abbrev pub operand_faults : Before → ℕ → Operand → List Fault
operand_faults b i (named text) = known_name_faults b i text
operand_faults b i (given text) = literal_faults i text

-- The digits of a shift are judged by their own range alone.
abbrev pub shift_faults : ℕ → Digits → List Fault
shift_faults i k = fault_if (nat_lt 63 (digits_value 10 k.text)) kind.Limit i i

-- What is wrong with an operation whose first word has the number `i`: with its operands, and with
-- the places of a shift.
abbrev pub operation_faults : Before → ℕ → Operation → List Fault
operation_faults b i (copy x) = operand_faults b i x
operation_faults b i (negation x) = operand_faults b (i + 1) x
operation_faults b i (sum x y) = operand_faults b i x ++ operand_faults b (i + 2) y
operation_faults b i (difference x y) = operand_faults b i x ++ operand_faults b (i + 2) y
operation_faults b i (product x y) = operand_faults b i x ++ operand_faults b (i + 2) y
operation_faults b i (shift_right x k) = operand_faults b i x ++ shift_faults (i + 2) k
operation_faults b i (shift_left x k) = operand_faults b i x ++ shift_faults (i + 2) k

-- Whether what stands for a direction is one of the eleven directions; a reserved word never is.
abbrev pub is_way : Way → Bool
is_way (called text) = is_direction text
is_way w = false

-- `name : format direction = operation ;`
abbrev pub step_faults : Before → ℕ → Step → List Fault
step_faults b i x =
    new_name_faults b i x.name ++ (weight_faults b 1 i
    ++ (format_faults (i + 2) x.format
    ++ (fault_if (not (is_way x.way)) kind.BadDirection (i + 3) (i + 3)
    ++ operation_faults b (i + 5) x.operation)))

-- ---- programs

-- `out name ;`
abbrev pub output_faults : Before → ℕ → Name → List Fault
output_faults b i text = known_name_faults b (i + 1) text ++ weight_faults b 1 (i + 1)

-- What is wrong with a statement whose first word has the number `i`, behind the statements that
-- `b` sums up.
abbrev pub statement_faults : Before → ℕ → Statement → List Fault
statement_faults b i (input x) = input_faults b i x
statement_faults b i (step x) = step_faults b i x
statement_faults b i (output text) = output_faults b i text

-- An operand or output may be what ended before it.
abbrev pub after : Before → Statement → Before
after b (input x) = record { names = b.names ++ (x.name ∷ []); weight = b.weight + 2 }
after b (step x) = record { names = b.names ++ (x.name ∷ []); weight = b.weight + 1 }
after b (output text) = record b { weight = b.weight + 1 }

-- What is wrong with these statements, the first of which begins at the word `i`, each judged by
-- those that ended before it.
abbrev pub faults_from : Before → ℕ → List Statement → List Fault
faults_from b i [] = []
faults_from b i (x ∷ xs) = statement_faults b i x
    ++ faults_from (after b x) (i + length (statement_words x)) xs

-- All that is wrong with a program, by the numbers of its words, which count from 0.
abbrev pub program_faults : Program → List Fault
program_faults p = faults_from (record { names = []; weight = 0 }) 0 (statements p)
