-- What the words after `trim` ask for.
use Rattle.std.specs.Prelude.{◌&&◌, Bool, List, Option, Some, None, codes, if◌then◌else◌}
use Rattle.clap.specs.Words.{App, Text, with_rule}
use Rattle.command_line.specs.Simple.{name_rule, are_names, Texts, read_by, ◌>>=◌}
use Rattle.command_line.specs.Names.{names_app}
use Rattle.command_line.specs.declared.trim.TrimRequest.{TrimRequest}

-- the command, as clap sees it
abbrev pub trim_app : App
trim_app =
    with_rule (names_app (codes "trim") (codes "script") (codes "cert")) (name_rule (codes "new"))

-- what `trim` is asked for: the names of a script, of a certificate and of a new one
pub record AskedTrim : Type 0 where
  pub script : Text
  pub cert : Text
  pub new : Text

-- three names, of which none is empty and no two are equal
abbrev pub are_three_names : Text → Text → Text → Bool
are_three_names script cert new =
    are_names script (Some cert) && (are_names script (Some new) && are_names cert (Some new))

-- nothing, where a name isn't given or is empty, or two are equal
abbrev pub trim_from : Texts → Option AskedTrim
trim_from given = do
  script ← given (codes "script")
  cert ← given (codes "cert")
  new ← given (codes "new")
  if are_three_names script cert new
      then Some (record { script = script; cert = cert; new = new })
      else None

-- what the words after `trim` ask for; nothing is Usage
unfoldable pub asked_trim : List Text → Option AskedTrim
asked_trim words = read_by trim_app trim_from words

-- a request, without where its names lie in memory
abbrev pub trim_of : TrimRequest → AskedTrim
trim_of r = record { script = r.script.now; cert = r.cert.now; new = r.new.now }
