-- A text as a list of words: its tokens without blanks, comments and places.
use Rattle.std.specs.Prelude.{ℕ, Bool, true, false, List}
use Rattle.script_words.specs.declared.class.Symbol.{Symbol}
use Rattle.script_words.specs.declared.class.Spelled.{Spelled}
use Rattle.script_words.specs.declared.class.Number.{Number}
use Rattle.script_words.specs.declared.class.Class.{Class}
use Rattle.script_words.specs.declared.class.Class.TheVariants as class
use Rattle.script_words.specs.declared.class.Symbol.TheVariants as s

-- A name is `rounding` where it names a rounding operator that was defined before it.
pub data Word : Type 0 where
  name : Spelled → (text : List ℕ) → Word
  rounding : Spelled → (text : List ℕ) → Word
  literal : Number → (text : List ℕ) → Word
  sign : Symbol → Word

-- What is kept of a word beside its text: whether it is a name, rounding, literal or sign, and of
-- which kind.
abbrev pub class_of : Word → Class
class_of (name k text) = class.Name k
class_of (rounding k text) = class.Rounding k
class_of (literal k text) = class.Literal k
class_of (sign s) = class.Sign s

-- whether it is a `{`
abbrev pub is_open_brace : Word → Bool
is_open_brace (sign s.OpenBrace) = true
is_open_brace w = false
