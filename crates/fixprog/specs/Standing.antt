-- Where the reading of a program stands: its whole statements, and the words of one that isn't
-- ended.
use Rattle.std.specs.Prelude.{◌≡◌, ℕ, ◌&&◌, List, [], ◌∷◌, ◌++◌, Option, Some, None, Bool, true}
use Rattle.std.specs.Prelude.{false, if◌then◌else◌, refl}
use Rattle.std.specs.List.{list_all}
use Rattle.std.specs.Option.{option_map}
use Rattle.std.specs.Char.{is_ascii_digit}
use Rattle.script_words.specs.declared.class.Symbol.{Symbol}
use Rattle.script_words.specs.declared.class.Symbol.TheVariants as s
use Rattle.script_judge.specs.Fault.{is_reserved}
use Rattle.fixprog.specs.declared.program.Mark.{Mark}
use Rattle.fixprog.specs.declared.program.Mark.TheVariants as mark
use Rattle.fixprog.specs.declared.program.Joint.{Joint}
use Rattle.fixprog.specs.declared.program.Joint.TheVariants as joint
use Rattle.fixprog.specs.declared.program.Shift.{Shift}
use Rattle.fixprog.specs.declared.program.Shift.TheVariants as shift
use Rattle.fixprog.specs.Words.{Name, Word, name, literal, format, sign, colon, right, left, out}
use Rattle.fixprog.specs.Grammar.{Operand, named, given, Digits, Operation, copy, negation, sum}
use Rattle.fixprog.specs.Grammar.{difference, product, shift_right, shift_left, Bound, Input, Way}
use Rattle.fixprog.specs.Grammar.{called, reserved, reserved_out, Step, Statement, input, step}
use Rattle.fixprog.specs.Grammar.{output}
use Rattle.fixprog.specs.Faults.{Before, after}

-- ---- what a word can be

-- The name that a word is, or none where it is another kind of word.
abbrev pub name_in : Word → Option Name
name_in (name text) = Some text
name_in w = None

-- The text of a literal, or none for any other word.
abbrev pub literal_in : Word → Option (List ℕ)
literal_in (literal text) = Some text
literal_in w = None

-- The text of a format, whose limits aren't judged here, or none for any other word.
abbrev pub format_in : Word → Option (List ℕ)
format_in (format text) = Some text
format_in w = None

-- The operand that a name or a literal stands for, or none for any other word.
abbrev pub operand_in : Word → Option Operand
operand_in (name text) = Some (named text)
operand_in (literal text) = Some (given text)
operand_in w = None

-- The mark before an end of a range, `+` or `-`, or none for any other word.
abbrev pub mark_in : Word → Option Mark
mark_in (sign s.Plus) = Some mark.Plus
mark_in (sign s.Minus) = Some mark.Minus
mark_in w = None

-- The joint that a word puts between two operands, `+`, `-` or `*`, or none for any other word.
abbrev pub joint_in : Word → Option Joint
joint_in (sign s.Plus) = Some joint.Plus
joint_in (sign s.Minus) = Some joint.Minus
joint_in (sign s.Star) = Some joint.Times
joint_in w = None

-- The shift that a word stands for, `>>` or `<<`, or none for any other word.
abbrev pub shift_in : Word → Option Shift
shift_in right = Some shift.Right
shift_in left = Some shift.Left
shift_in w = None

-- with the fact that they are digits
abbrev pub digits_if : (text : List ℕ) (b : Bool) → list_all is_ascii_digit text ≡ b → Option Digits
digits_if text true e = Some (record { text = text; decimal = e })
digits_if text false e = None

-- The text as decimal digits, or none where another byte is among them; an empty text counts as
-- digits.
abbrev pub digits_of : List ℕ → Option Digits
digits_of text = digits_if text (list_all is_ascii_digit text) refl

-- The number of places that a word gives to a shift: a literal of decimal digits alone, or none.
abbrev pub digits_in : Word → Option Digits
digits_in (literal text) = digits_of text
digits_in w = None

-- with the fact that it is reserved
abbrev pub reserved_if : (g : Symbol) (b : Bool) → is_reserved g ≡ b → Option Way
reserved_if g true e = Some (reserved (record { sign = g; reserved = e }))
reserved_if g false e = None

-- What a word is in a direction's place: any name or reserved word, `out` among them, and none for
-- others.
abbrev pub way_in : Word → Option Way
way_in (name text) = Some (called text)
way_in (sign g) = reserved_if g (is_reserved g) refl
way_in out = Some reserved_out
way_in w = None

-- Whether the word is `in`, which begins an input.
abbrev pub is_in : Word → Bool
is_in (sign s.In) = true
is_in w = false

-- Whether the word is `out`, which begins an output.
abbrev pub is_out : Word → Bool
is_out out = true
is_out w = false

-- Whether the word is the `:` between a name and its format.
abbrev pub is_colon : Word → Bool
is_colon colon = true
is_colon w = false

-- Whether the word is the `[` before an input's range.
abbrev pub is_open : Word → Bool
is_open (sign s.OpenBracket) = true
is_open w = false

-- Whether the word is the `,` between the ends of an input's range.
abbrev pub is_comma : Word → Bool
is_comma (sign s.Comma) = true
is_comma w = false

-- Whether the word is the `]` behind an input's range.
abbrev pub is_close : Word → Bool
is_close (sign s.CloseBracket) = true
is_close w = false

-- Whether the word is the `;` that ends each statement.
abbrev pub is_semicolon : Word → Bool
is_semicolon (sign s.Semicolon) = true
is_semicolon w = false

-- Whether the word is the `=` before a step's operation.
abbrev pub is_equal : Word → Bool
is_equal (sign s.Equal) = true
is_equal w = false

-- Whether the word is `-`, which negates an operand where it stands before one.
abbrev pub is_minus : Word → Bool
is_minus (sign s.Minus) = true
is_minus w = false

-- ---- a statement that isn't ended, by what is due next

-- `name : format`
pub record Head : Type 0 where
  pub name : Name
  pub format : List ℕ

-- `name : format direction`
pub record Begun : Type 0 where
  pub name : Name
  pub format : List ℕ
  pub way : Way

-- How far a statement that isn't ended has come: each case is named after what is due next, and
-- `between` has no word yet.
pub data Part : Type 0 where
  between : Part
  input_name : Part
  input_colon : Name → Part
  input_format : Name → Part
  input_open : Head → Part
  lower : Head → Part
  lower_marked : Head → Mark → Part
  comma : Head → Bound → Part
  upper : Head → Bound → Part
  upper_marked : Head → Bound → Mark → Part
  input_close : Input → Part
  input_end : Input → Part
  step_colon : Name → Part
  step_format : Name → Part
  step_way : Head → Part
  step_equal : Begun → Part
  step_operand : Begun → Part
  step_negated : Begun → Part
  step_operator : Begun → Operand → Part
  step_second : Begun → Operand → Joint → Part
  step_places : Begun → Operand → Shift → Part
  step_end : Step → Part
  output_name : Part
  output_end : Name → Part

-- ---- the part behind a word

-- The part behind a word that is the one due, and none behind any other.
abbrev pub some_if : Bool → Part → Option Part
some_if true p = Some p
some_if false p = None

-- The head of a statement with this name and this text of a format.
abbrev pub headed : Name → List ℕ → Head
headed n f = record { name = n; format = f }

-- The beginning of a step, by its head and the word in its direction's place, which may still be no
-- direction.
abbrev pub directed : Head → Way → Begun
directed h v = record { name = h.name; format = h.format; way = v }

-- The end of a range that is written as this mark and this text of a literal.
abbrev pub bound_of : Mark → List ℕ → Bound
bound_of m text = record { mark = m; text = text }

-- The input with this head and these ends of its range, whose order isn't judged here.
abbrev pub ranged : Head → Bound → Bound → Input
ranged h a b = record { name = h.name; format = h.format; lower = a; upper = b }

-- The step that begins like this and has this operation.
abbrev pub stepped : Begun → Operation → Step
stepped b o = record { name = b.name; format = b.format; way = b.way; operation = o }

-- The operation that a joint makes of the operand on its left and the one on its right.
abbrev pub joined : Operand → Joint → Operand → Operation
joined a joint.Plus b = sum a b
joined a joint.Minus b = difference a b
joined a joint.Times b = product a b

-- The operation that shifts an operand by this number of places.
abbrev pub shifted : Operand → Shift → Digits → Operation
shifted a shift.Right k = shift_right a k
shifted a shift.Left k = shift_left a k

-- whether an input, and whether a step, may begin
pub record Opening : Type 0 where
  pub inputs : Bool
  pub steps : Bool

-- The part behind a first word that isn't an input's: `out` begins an output, and a name a step
-- where `steps` allows it.
abbrev pub begun_otherwise : Bool → Word → Option Part
begun_otherwise steps w = if is_out w then Some output_name else if steps
    then option_map step_colon (name_in w) else None

-- The part behind the first word of a statement, or none where no statement may begin with it.
abbrev pub begun : Opening → Word → Option Part
begun o w = if o.inputs && is_in w then Some input_name else begun_otherwise o.steps w

-- The part behind the first word of a range's lower end: a mark, or else a literal without one, or
-- none for others.
abbrev pub lower_next : Head → Option Mark → Option (List ℕ) → Option Part
lower_next h (Some m) t = Some (lower_marked h m)
lower_next h None t = option_map (λ text. comma h (bound_of mark.Unmarked text)) t

-- The part behind the first word of a range's upper end: a mark, or else a literal without one, or
-- none for others.
abbrev pub upper_next : Head → Bound → Option Mark → Option (List ℕ) → Option Part
upper_next h a (Some m) t = Some (upper_marked h a m)
upper_next h a None t = option_map (λ text. input_close (ranged h a (bound_of mark.Unmarked text)))
    t

-- The part behind the word after a step's `=`: a minus (`true`), or else an operand, or none for
-- others.
abbrev pub operand_next : Begun → Bool → Option Operand → Option Part
operand_next b true a = Some (step_negated b)
operand_next b false a = option_map (step_operator b) a

-- The part behind the word after a step's first operand: a joint, or else a shift, or none for
-- others.
abbrev pub operator_next : Begun → Operand → Option Joint → Option Shift → Option Part
operator_next b a (Some j) k = Some (step_second b a j)
operator_next b a None k = option_map (step_places b a) k

-- Statements end at a `;`, which isn't among these.
abbrev pub next_part : Opening → Part → Word → Option Part
next_part o between w = begun o w
next_part o input_name w = option_map input_colon (name_in w)
next_part o (input_colon n) w = some_if (is_colon w) (input_format n)
next_part o (input_format n) w = option_map (λ f. input_open (headed n f)) (format_in w)
next_part o (input_open h) w = some_if (is_open w) (lower h)
next_part o (lower h) w = lower_next h (mark_in w) (literal_in w)
next_part o (lower_marked h m) w = option_map (λ text. comma h (bound_of m text)) (literal_in w)
next_part o (comma h a) w = some_if (is_comma w) (upper h a)
next_part o (upper h a) w = upper_next h a (mark_in w) (literal_in w)
next_part o (upper_marked h a m) w = option_map
    (λ text. input_close (ranged h a (bound_of m text))) (literal_in w)
next_part o (input_close x) w = some_if (is_close w) (input_end x)
next_part o (input_end x) w = None
next_part o (step_colon n) w = some_if (is_colon w) (step_format n)
next_part o (step_format n) w = option_map (λ f. step_way (headed n f)) (format_in w)
next_part o (step_way h) w = option_map (λ v. step_equal (directed h v)) (way_in w)
next_part o (step_equal b) w = some_if (is_equal w) (step_operand b)
next_part o (step_operand b) w = operand_next b (is_minus w) (operand_in w)
next_part o (step_negated b) w = option_map (λ a. step_end (stepped b (negation a))) (operand_in w)
next_part o (step_operator b a) w = operator_next b a (joint_in w) (shift_in w)
next_part o (step_second b a j) w = option_map (λ c. step_end (stepped b (joined a j c)))
    (operand_in w)
next_part o (step_places b a k) w = option_map (λ n. step_end (stepped b (shifted a k n)))
    (digits_in w)
next_part o (step_end x) w = None
next_part o output_name w = option_map output_end (name_in w)
next_part o (output_end text) w = None

-- the statement that a `;` ends here
abbrev pub ending : Part → Option Statement
ending (input_end x) = Some (input x)
ending (step_operator b a) = Some (step (stepped b (copy a)))
ending (step_end x) = Some (step x)
ending (output_end text) = Some (output text)
ending p = None

-- The statement that a word ends, which only a `;` does, and only behind a part that may end there.
abbrev pub ended : Part → Word → Option Statement
ended p w = if is_semicolon w then ending p else None

-- ---- the whole statements, and the part

-- The inputs, steps and outputs that are read whole, the names and weight they leave behind, and
-- the part that isn't ended.
pub record Standing : Type 0 where
  pub inputs : List Input
  pub steps : List Step
  pub outputs : List Name
  pub before : Before
  pub part : Part

-- Whether a list has no items.
abbrev pub is_none : {A : Type 0} → List A → Bool
is_none [] = true
is_none (x ∷ xs) = false

-- An input may begin until there is a step or an output, and a step until there is an output.
abbrev pub opening_of : Standing → Opening
opening_of s = record { inputs = is_none s.steps && is_none s.outputs; steps = is_none s.outputs }

-- Where the reading stands once this statement is whole: it goes last among those of its form, and
-- no part is left.
abbrev pub with_statement : Standing → Statement → Standing
with_statement s (input x) = record s {
  inputs = s.inputs ++ (x ∷ []);
  before =
      after s.before (input x);
  part = between;
}
with_statement s (step x) = record s {
  steps = s.steps ++ (x ∷ []);
  before =
      after s.before (step x);
  part = between;
}
with_statement s (output text) = record s {
  outputs = s.outputs ++ (text ∷ []);
  before =
      after s.before (output text);
  part = between;
}

-- The same whole statements, with this part of the next one.
abbrev pub with_part : Standing → Part → Standing
with_part s p = record s { part = p }

-- Where the reading stands behind a word that ends a statement, or else adds to a part; none where
-- it does neither.
abbrev pub stands_by : Standing → Option Statement → Option Part → Option Standing
stands_by s (Some x) o = Some (with_statement s x)
stands_by s None o = option_map (with_part s) o

-- where it stands behind a word, if the word has a place there
abbrev pub stands_after : Standing → Word → Option Standing
stands_after s w = stands_by s (ended s.part w) (next_part (opening_of s) s.part w)

-- Where the reading stands before a program's first word.
abbrev pub nothing_read : Standing
nothing_read = record {
  inputs = [];
  steps = [];
  outputs = [];
  before =
      record { names = []; weight = 0 };
  part = between;
}

-- a program may end here
abbrev pub is_whole : Standing → Bool
is_whole s = is_between s.part && is_some_output s.outputs
  where
    is_between : Part → Bool
    is_between between = true
    is_between p = false

    is_some_output : List Name → Bool
    is_some_output [] = false
    is_some_output (x ∷ xs) = true
