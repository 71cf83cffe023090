-- What the words after a command of two names ask for.
use Rattle.std.specs.Prelude.{List, Option, Some, None, if◌then◌else◌}
use Rattle.clap.specs.Words.{App, Text, with_rule}
use Rattle.command_line.specs.Simple.{name_rule, bare_app, are_names, Texts, read_by, ◌>>=◌}
use Rattle.command_line.specs.declared.names.TwoNames.{TwoNames}

-- the command as clap sees it, by its own name and the ids of its two names
abbrev pub names_app : Text → Text → Text → App
names_app command first second =
    with_rule (with_rule (bare_app command) (name_rule first)) (name_rule second)

-- two names, in their order
pub record AskedNames : Type 0 where
  pub first : Text
  pub second : Text

-- nothing, where a name isn't given or is empty, or the two are equal
abbrev pub names_from : Text → Text → Texts → Option AskedNames
names_from first second given = do
  one ← given first
  other ← given second
  if are_names one (Some other)
      then Some (record { first = one; second = other })
      else None

-- what the words after such a command ask for; nothing is Usage
unfoldable pub asked_names : Text → Text → Text → List Text → Option AskedNames
asked_names command first second words =
    read_by (names_app command first second) (names_from first second) words

-- two names, without where they lie in memory
abbrev pub names_of : TwoNames → AskedNames
names_of n = record { first = n.first.now; second = n.second.now }
