-- A simple command as clap sees it, and what its words ask for.
use Rattle.std.specs.Prelude.{◌==◌, ◌&&◌, Bool, not, List, [], ◌∷◌, length, true, Option, Some}
use Rattle.std.specs.Prelude.{None}
use Rattle.std.specs.Str.{bytes_eq}
use Rattle.clap.specs.Words.{App, Row, Rule, Text, new_app, new_rule, matches_of, first_of, Kinds}
use Rattle.clap.specs.Words.{fault_of}
use Rattle.clap.specs.declared.builder.ArgAction.TheVariants.{Set}

-- ---- the command

-- `--name value` or `--name=value`
abbrev pub option_rule : Text → Rule
option_rule name = record (new_rule name) { long = Some name; action = Some Set }

-- a name that has to be there
abbrev pub name_rule : Text → Rule
name_rule name = record (new_rule name) { required = true; action = Some Set }

-- a command without options: its words are all the words, and it has no help
abbrev pub bare_app : Text → App
bare_app name = record {
  top = record (new_app name).top { no_binary_name = true; disable_help_flag = true };
  subs = [];
}

-- ---- names of files

-- a name, as that of a script, and another, as that of a certificate, if there is one: neither is
-- empty, and they aren't equal
abbrev pub are_names : Text → Option Text → Bool
are_names script None = not (length script == 0)
are_names script (Some cert) =
    not (length script == 0) && (not (length cert == 0) && not (bytes_eq script cert))

-- ---- the reading

infixl 10 ◌>>=◌
-- What the second step makes of what the first gives; nothing where the first gives nothing.
abbrev pub ◌>>=◌ : {A B : Type 0} → Option A → (A → Option B) → Option B
None >>= f = None
(Some x) >>= f = f x

-- the text that is given for each name or option
abbrev pub Texts : Type 0
Texts = Text → Option Text

-- nothing where clap refuses the words
abbrev pub reads : {A : Type 0} → (Texts → Option A) → Kinds → List Row → Option A
reads asking [] rows = asking (λ id. first_of id rows)
reads asking (k ∷ ks) rows = None

-- what the words of a command ask for, by what the texts that they give ask for
abbrev pub read_by : {A : Type 0} → App → (Texts → Option A) → List Text → Option A
read_by app asking words = reads asking (fault_of app words) (matches_of app words)
