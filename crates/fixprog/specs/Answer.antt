-- What a turned program is.
use Rattle.std.specs.Prelude.{◌≡◌, ◌≤◌, ◌^◌, ℕ, List, length}
use Rattle.std.specs.Str.{IsUtf8}
use Rattle.std.specs.String.{string_bytes}
use Rattle.fixprog.specs.declared.turn.Turned.{Turned}
use Rattle.fixprog.specs.Grammar.{Program, outputs}
use Rattle.fixprog.specs.First.{Spells}
use Rattle.fixprog.specs.Turned.{script_of}

-- The text spells a program, whose script this is, with the numbers of its steps and outputs.
pub record Turns (text : List ℕ) (t : Turned) : Type 0 where
  pub program : Program
  pub spelled : Spells text program
  pub script : string_bytes t.text ≡ script_of program
  pub steps : t.steps ≡ length program.steps
  pub outs : t.outs ≡ length (outputs program)

-- The script of a program that a text spells is text.
abbrev pub ScriptsAreText : Type 0
ScriptsAreText = (text : List ℕ) (p : Program) → Spells text p → IsUtf8 (script_of p)

-- It is no longer than a script may be.
abbrev pub ScriptsAreShort : Type 0
ScriptsAreShort = (text : List ℕ) (p : Program) → Spells text p → length (script_of p) ≤ 2 ^ 20
