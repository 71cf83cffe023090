-- The programs that have a script: their formats and shifts are within their limits.
use Rattle.std.specs.Prelude.{◌≡◌, ⊤, ◌<◌, ℕ, codes, List, [], ◌∷◌, ◌++◌, true}
use Rattle.std.specs.Borrow.{Bor}
use Rattle.std.specs.List.{flat_map}
use Rattle.std.specs.Str.Parse.{digits_value}
use Rattle.fixprog.specs.Grammar.{Operation, shift_right, shift_left, Input, Step}
use Rattle.fixprog.specs.declared.program.Input.{Input as CodeInput}
use Rattle.fixprog.specs.declared.program.Program.{Program as CodeProgram}
use Rattle.fixprog.specs.Turned.{Bytes, step_line, input_text, format_goal, output_goal}
use Rattle.fixprog.specs.Views.{input_of, step_of}
use Rattle.fixprog.specs.Formats.{format_of, is_format}

-- The operation is no shift, or one by at most 63 places.
abbrev pub IsShort : Operation → Type 0
IsShort (shift_right a k) = digits_value 10 k.text < 64
IsShort (shift_left a k) = digits_value 10 k.text < 64
IsShort o = ⊤

-- A step that can be written in a script: its format is within its limits, and so is its shift, if
-- it is one.
pub record IsPrintable (x : Step) : Type 0 where
  pub format : is_format (format_of x.format) ≡ true
  pub shift : IsShort x.operation

-- An input that can be written in a script: its format is within its limits.
abbrev pub IsInputPrintable : Input → Type 0
IsInputPrintable x = is_format (format_of x.format) ≡ true

-- ---- texts of the code's values, as they are written one behind the other

-- The hypotheses of a script's formula with their arrow; nothing where there are no inputs.
abbrev pub inputs_written : List CodeInput → Bytes
inputs_written [] = []
inputs_written (x ∷ xs) = input_text (input_of x)
    ++ (flat_map (λ y. codes " /\\ " ++ input_text (input_of y)) xs ++ codes " -> ")

-- The goals that ask in which range each output lies, with `/\` between each two.
abbrev pub outputs_written : List (Bor (List ℕ)) → Bytes
outputs_written [] = []
outputs_written (t ∷ ts) = output_goal t.now ++ flat_map (λ u. codes " /\\ " ++ output_goal u.now)
    ts

-- A script's formula without its braces: that the inputs are in their ranges and formats implies
-- the goals of steps and outputs.
abbrev pub formula_text : CodeProgram → Bytes
formula_text c = inputs_written c.inputs.items
    ++ (flat_map (λ x. format_goal (step_of x) ++ codes " /\\ ") c.steps.items
    ++ outputs_written c.outputs.items)

-- The script of the code's program: a line for each step, and the formula in braces.
abbrev pub script_text : CodeProgram → Bytes
script_text c = flat_map (λ x. step_line (step_of x)) c.steps.items
    ++ (codes "{ " ++ (formula_text c ++ codes " }\n"))
