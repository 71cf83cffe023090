-- What the literals and digits of a script are read as.
use Rattle.std.specs.Prelude.{◌≡◌, ⊤, ℕ, List}
use Rattle.std.specs.List.{AllByRecursion}
use Rattle.std.specs.Str.Parse.{digits_value}
use Rattle.literal.specs.Normal.{IsReading}
use Rattle.script_words.specs.Words.{Word, literal}
use Rattle.script_shape.specs.declared.due.Due.{Due}
use Rattle.script_shape.specs.declared.due.Due.TheVariants as d
use Rattle.script_shape.specs.Roles.{script_leaves}
use Rattle.script_nodes.specs.Literals.{literal_of}
use Rattle.script_nodes.specs.Operators.{number_of}
use Rattle.script_claims.specs.Claims.{exponent_size}
use Rattle.script_grammar.specs.Spells.{View, Spells}

-- digits alone are read as the number that they write, as the place of an operator and as the
-- exponent of a multiple
abbrev pub AreDigits : List ℕ → Type 0
AreDigits text = (number_of text ≡ digits_value 10 text)
    × (exponent_size text ≡ digits_value 10 text)

-- A literal of an expression or a bound is within its limits, and the literal of its text is what
-- it is read as. Digits alone stand for the number that they write.
abbrev pub IsRead : Due → Word → Type 0
IsRead d.Operand (literal k text) = IsReading text (literal_of text)
IsRead d.Bound (literal k text) = IsReading text (literal_of text)
IsRead d.Magnitude (literal k text) = IsReading text (literal_of text)
IsRead d.Whole (literal k text) = AreDigits text
IsRead d.WholeDigits (literal k text) = AreDigits text
IsRead d.Cut (literal k text) = AreDigits text
IsRead r w = ⊤

-- Each word of a script that a text spells is read so.
abbrev pub SpelledAreRead : Type 0
SpelledAreRead = (text : List ℕ) (s : View) (p : Spells text s)
    → AllByRecursion (λ l. IsRead l.role l.word) (script_leaves p.tree)
