-- What the words after `at` ask for.
use Rattle.std.specs.Prelude.{List, Option, codes}
use Rattle.std.specs.Option.{option_map}
use Rattle.clap.specs.Words.{Text}
use Rattle.command_line.specs.Names.{AskedNames, asked_names}
use Rattle.command_line.specs.declared.at.AtRequest.{AtRequest}

-- what `at` is asked for: the names of a script and of a point
pub record AskedAt : Type 0 where
  pub script : Text
  pub point : Text

-- two names, as what `at` is asked for
abbrev pub at_from : AskedNames → AskedAt
at_from names = record { script = names.first; point = names.second }

-- what the words after `at` ask for; nothing is Usage
unfoldable pub asked_at : List Text → Option AskedAt
asked_at words = option_map at_from
    (asked_names (codes "at") (codes "script") (codes "point") words)

-- a request, without where its names lie in memory
abbrev pub at_of : AtRequest → AskedAt
at_of r = record { script = r.script.now; point = r.point.now }
