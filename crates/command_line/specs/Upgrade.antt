-- What the words after `upgrade` ask for.
use Rattle.std.specs.Prelude.{List, Option, codes}
use Rattle.std.specs.Option.{option_map}
use Rattle.clap.specs.Words.{Text}
use Rattle.command_line.specs.Names.{AskedNames, asked_names}
use Rattle.command_line.specs.declared.upgrade.UpgradeRequest.{UpgradeRequest}

-- what `upgrade` is asked for: the names of a certificate and of a new one
pub record AskedUpgrade : Type 0 where
  pub cert : Text
  pub new : Text

-- two names, as what `upgrade` is asked for
abbrev pub upgrade_from : AskedNames → AskedUpgrade
upgrade_from names = record { cert = names.first; new = names.second }

-- what the words after `upgrade` ask for; nothing is Usage
unfoldable pub asked_upgrade : List Text → Option AskedUpgrade
asked_upgrade words = option_map upgrade_from
    (asked_names (codes "upgrade") (codes "cert") (codes "new") words)

-- a request, without where its names lie in memory
abbrev pub upgrade_of : UpgradeRequest → AskedUpgrade
upgrade_of r = record { cert = r.cert.now; new = r.new.now }
