-- Laws of what specs/Fault defines.
use Rattle.std.specs.Prelude.{Option, Some, Bool, true, false}
use Rattle.script_words.specs.Words.{Word, name}

-- a name that isn't an operator's
abbrev pub is_plain : Option Word → Bool
is_plain (Some (name k text)) = true
is_plain _ = false
