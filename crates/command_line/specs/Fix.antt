-- What the words after `fix` ask for.
use Rattle.std.specs.Prelude.{List, Option, codes}
use Rattle.std.specs.Option.{option_map}
use Rattle.clap.specs.Words.{Text}
use Rattle.command_line.specs.Names.{AskedNames, asked_names}
use Rattle.command_line.specs.declared.fix.FixRequest.{FixRequest}

-- what `fix` is asked for: the names of a program and of a script
pub record AskedFix : Type 0 where
  pub program : Text
  pub script : Text

-- two names, as what `fix` is asked for
abbrev pub fix_from : AskedNames → AskedFix
fix_from names = record { program = names.first; script = names.second }

-- what the words after `fix` ask for; nothing is Usage
unfoldable pub asked_fix : List Text → Option AskedFix
asked_fix words = option_map fix_from
    (asked_names (codes "fix") (codes "program") (codes "script") words)

-- a request, without where its names lie in memory
abbrev pub fix_of : FixRequest → AskedFix
fix_of r = record { program = r.program.now; script = r.script.now }
