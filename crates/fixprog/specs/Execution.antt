-- The run of a program on words.
use Rattle.std.specs.Prelude.{ℤ, pos, neg_ℤ, List, [], ◌∷◌, Option, Some, None, if◌then◌else◌}
use Rattle.std.specs.Str.Parse.{digits_value}
use Rattle.fx_model.specs.Fraction.{Fraction, ◌+ℚ◌, ◌-ℚ◌, ◌*ℚ◌, ◌≤ℚ◌, neg_ℚ, zero_ℚ}
use Rattle.fx_model.specs.Powers.{two_to}
use Rattle.fx_model.specs.Expression.{literal_value}
use Rattle.fx_model.specs.Rounded.{rounded}
use Rattle.script_nodes.specs.Literals.{literal_of}
use Rattle.script_nodes.specs.Operators.{direction_of}
use Rattle.script_nodes.specs.Known.{entry_of}
use Rattle.fixprog.specs.Words.{Name}
use Rattle.fixprog.specs.Grammar.{Operand, named, given, Operation, copy, negation, sum, difference}
use Rattle.fixprog.specs.Grammar.{product, shift_right, shift_left, Input, Way, called, Step}
use Rattle.fixprog.specs.Grammar.{Program}
use Rattle.fixprog.specs.Formats.{format_of, last_place, word_value, is_within}
use Rattle.fixprog.specs.Faults.{bound_value}

-- names with their values
abbrev pub Values : Type 0
Values = List (Name × Fraction)

-- a run wraps at the step of this name, or gives each name its value
pub data Outcome : Type 0 where
  wraps : Name → Outcome
  values : Values → Outcome

-- The value where there is one; zero stands in where there is none.
abbrev pub value_or_zero : Option Fraction → Fraction
value_or_zero (Some x) = x
value_or_zero None = zero_ℚ

-- A program's operands have values.
abbrev pub name_value : Values → Name → Fraction
name_value vs text = value_or_zero (entry_of vs text)

-- ---- inputs

-- each input with the value of its word
abbrev pub input_values : List Input → List ℤ → Values
input_values (x ∷ xs) (w ∷ ws) = (x.name, word_value (format_of x.format) w) ∷ input_values xs ws
input_values _ _ = []

-- there is a word for each input, whose value lies in the input's range
abbrev pub AreInRange : List Input → List ℤ → Type 0
AreInRange [] [] = Unit {0}
AreInRange (x ∷ xs) (w ∷ ws) =
    (bound_value x.lower ≤ℚ word_value (format_of x.format) w)
    × (word_value (format_of x.format) w ≤ℚ bound_value x.upper) × AreInRange xs ws
AreInRange _ _ = ⊥

-- ---- steps

-- The exact value of an operand in a run: of its name among those so far, or of its literal.
abbrev pub operand_value : Values → Operand → Fraction
operand_value vs (named text) = name_value vs text
operand_value vs (given text) = literal_value (literal_of text)

-- the exact result
abbrev pub exact_value : Values → Operation → Fraction
exact_value vs (copy a) = operand_value vs a
exact_value vs (negation a) = neg_ℚ (operand_value vs a)
exact_value vs (sum a b) = operand_value vs a +ℚ operand_value vs b
exact_value vs (difference a b) = operand_value vs a -ℚ operand_value vs b
exact_value vs (product a b) = operand_value vs a *ℚ operand_value vs b
exact_value vs (shift_right a k) = operand_value vs a *ℚ two_to
    (neg_ℤ (pos (digits_value 10 k.text)))
exact_value vs (shift_left a k) = operand_value vs a *ℚ two_to (pos (digits_value 10 k.text))

-- A program's ways are directions.
abbrev pub way_text : Way → Name
way_text (called text) = text
way_text w = []

-- the exact result, rounded in the step's direction to the last place of its format
abbrev pub step_value : Values → Step → Fraction
step_value vs x = rounded (direction_of (way_text x.way)) (last_place (format_of x.format))
    (exact_value vs x.operation)

-- a run of steps behind these values; the rounded value is a multiple of the last place, so that
-- it is one of the format's
-- where it lies between the least and the greatest
abbrev pub run_steps : Values → List Step → Outcome
run_steps vs [] = values vs
run_steps vs (x ∷ xs) =
    if is_within (format_of x.format) (step_value vs x)
    then run_steps ((x.name, step_value vs x) ∷ vs) xs else wraps x.name

-- The outcome of a program's run on a word for each input, in their order: its first wrap, or all
-- values.
abbrev pub execution_of : Program → List ℤ → Outcome
execution_of p words = run_steps (input_values p.inputs words) p.steps
