-- What the words after `prove` ask for, by what clap states of a simple command.
use Rattle.std.specs.Prelude.{ℕ, List, Option, Some, None, codes, if◌then◌else◌}
use Rattle.std.specs.Option.{option_map}
use Rattle.clap.specs.Words.{App, Text, with_rule}
use Rattle.proof_options.specs.declared.options.Options.{Options}
use Rattle.proof_options.specs.Ranges.{AreWithin}
use Rattle.command_line.specs.Simple.{option_rule, name_rule, bare_app, are_names, Texts, read_by}
use Rattle.command_line.specs.Simple.{◌>>=◌}
use Rattle.command_line.specs.Options.{with_options, options_from}
use Rattle.command_line.specs.declared.prove.Request.{Request}

-- ---- the command, as clap sees it

-- The command `prove` as clap sees it: a script's name that has to be there, `--cert`, and the
-- options of a proof.
abbrev pub prove_app : App
prove_app = with_options
    (with_rule (with_rule (bare_app (codes "prove")) (name_rule (codes "script")))
    (option_rule (codes "cert")))

-- ---- the reading

-- what `prove` is asked for: a script's name, that of a certificate, if one is to be written, and
-- how it is to be proved
pub record Asked : Type 0 where
  pub script : Text
  pub cert : Option Text
  pub options : Options

-- Nothing, where no script is given, a name is empty, the two names are equal, or a number isn't
-- plain decimal in its range. An option that isn't given has its default; with no `cert` no
-- certificate is asked for.
abbrev pub asked_from : Texts → Option Asked
asked_from given = do
  script ← given (codes "script")
  o ← options_from 4096 8192 given
  if are_names script (given (codes "cert"))
      then Some (record {
        script = script;
        cert = given (codes "cert");
        options = o;
      })
      else None

-- what the words after `prove` ask for; nothing is Usage
unfoldable pub asked : List Text → Option Asked
asked words = read_by prove_app asked_from words

-- ---- the code's values

-- a request, without where its names lie in memory
abbrev pub asked_of : Request → Asked
asked_of r = record {
  script = r.script.now;
  cert = option_map (λ c. c.now) r.cert;
  options = r.options;
}

-- the numbers are in their ranges
abbrev pub AreInRange : Request → Type 0
AreInRange r = AreWithin 8192 r.options
