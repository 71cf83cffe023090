-- What the words after `batch` ask for.
use Rattle.std.specs.Prelude.{ℕ, List, Option, Some, None, codes, if◌then◌else◌}
use Rattle.clap.specs.Words.{App, Text, with_rule}
use Rattle.proof_options.specs.declared.options.Options.{Options}
use Rattle.proof_options.specs.Ranges.{AreWithin}
use Rattle.command_line.specs.Simple.{name_rule, bare_app, are_names, Texts, read_by, ◌>>=◌}
use Rattle.command_line.specs.Options.{with_options, options_from}
use Rattle.command_line.specs.declared.batch.BatchRequest.{BatchRequest}

-- the command, as clap sees it
abbrev pub batch_app : App
batch_app = with_options (with_rule (bare_app (codes "batch")) (name_rule (codes "list")))

-- what `batch` is asked for: a list's name, and how each script is to be proved
pub record AskedBatch : Type 0 where
  pub list : Text
  pub options : Options

-- nothing, where no list is given, its name is empty, or a number isn't plain decimal in its range
abbrev pub batch_from : Texts → Option AskedBatch
batch_from given = do
  list ← given (codes "list")
  o ← options_from 256 512 given
  if are_names list None
      then Some (record {
        list = list;
        options = o;
      })
      else None

-- what the words after `batch` ask for; nothing is Usage
unfoldable pub asked_batch : List Text → Option AskedBatch
asked_batch words = read_by batch_app batch_from words

-- a request, without where its name lies in memory
abbrev pub batch_of : BatchRequest → AskedBatch
batch_of r = record {
  list = r.list.now;
  options = r.options;
}

-- the numbers are in their ranges
abbrev pub AreInBatchRange : BatchRequest → Type 0
AreInBatchRange r = AreWithin 512 r.options
