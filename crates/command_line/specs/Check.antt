-- What the words after `check` ask for.
use Rattle.std.specs.Prelude.{List, Option, codes}
use Rattle.std.specs.Option.{option_map}
use Rattle.clap.specs.Words.{Text}
use Rattle.command_line.specs.Names.{AskedNames, asked_names}
use Rattle.command_line.specs.declared.check.CheckRequest.{CheckRequest}

-- what `check` is asked for: the names of a script and of a certificate
pub record AskedCheck : Type 0 where
  pub script : Text
  pub cert : Text

-- two names, as what `check` is asked for
abbrev pub check_from : AskedNames → AskedCheck
check_from names = record { script = names.first; cert = names.second }

-- what the words after `check` ask for; nothing is Usage
unfoldable pub asked_check : List Text → Option AskedCheck
asked_check words = option_map check_from
    (asked_names (codes "check") (codes "script") (codes "cert") words)

-- a request, without where its names lie in memory
abbrev pub check_of : CheckRequest → AskedCheck
check_of r = record { script = r.script.now; cert = r.cert.now }
