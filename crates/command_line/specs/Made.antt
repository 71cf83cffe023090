-- What the words after `gen` ask for.
use Rattle.std.specs.Prelude.{ℕ, List, Option, codes}
use Rattle.clap.specs.Words.{App, Text, with_rule}
use Rattle.command_line.specs.Numbers.{number_in}
use Rattle.command_line.specs.Simple.{name_rule, bare_app, Texts, read_by, ◌>>=◌}

-- the command, as clap sees it
abbrev pub gen_app : App
gen_app = with_rule (bare_app (codes "gen")) (name_rule (codes "degree"))

-- nothing, where the name isn't plain decimal from 1 to 12
abbrev pub degree_from : Texts → Option ℕ
degree_from given = given (codes "degree") >>= number_in 1 12

-- what the words after `gen` ask for; nothing is Usage
unfoldable pub asked_gen : List Text → Option ℕ
asked_gen words = read_by gen_app degree_from words
