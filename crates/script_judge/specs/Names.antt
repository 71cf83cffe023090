-- Names that were defined, used and split on.
use Rattle.std.specs.Prelude.{ℕ, ◌&&◌, ◌||◌, not, List, [], ◌∷◌, ◌++◌, Option, Some, None, Bool}
use Rattle.std.specs.Prelude.{true, false, if◌then◌else◌}
use Rattle.std.specs.List.{list_any}
use Rattle.std.specs.Str.{bytes_eq}
use Rattle.script_words.specs.Words.{Word, name, rounding}
use Rattle.script_shape.specs.declared.due.Due.{Due}
use Rattle.script_shape.specs.declared.due.Due.TheVariants as d
use Rattle.script_shape.specs.Roles.{Leaf}

-- the bytes of a name
abbrev pub Name : Type 0
Name = List ℕ

-- the text of a name, whether or not it is an operator's
abbrev pub text_of : Word → Option Name
text_of (name k text) = Some text
text_of (rounding k text) = Some text
text_of w = None

-- the text of a name that isn't an operator's
abbrev pub plain_text : Word → Option Name
plain_text (name k text) = Some text
plain_text w = None

-- the name that a definition is for
abbrev pub defines : Due → Word → Option Name
defines d.NewName w = text_of w
defines d.Script w = text_of w
defines r w = None

-- the name of an operand
abbrev pub operand_name : Due → Word → Option Name
operand_name d.Operand w = plain_text w
operand_name r w = None

-- the name of a split variable
abbrev pub split_name : Due → Word → Option Name
split_name d.SplitName w = text_of w
split_name r w = None

-- the name is one of these
abbrev pub is_among : List Name → Name → Bool
is_among names text = list_any (λ n. bytes_eq n text) names

-- there is a name, and it is one of these
abbrev pub is_some_among : List Name → Option Name → Bool
is_some_among names None = false
is_some_among names (Some text) = is_among names text

-- there is a name, and it is none of these
abbrev pub is_some_apart : List Name → Option Name → Bool
is_some_apart names None = false
is_some_apart names (Some text) = not (is_among names text)

-- `known` has every name that is defined or was an operand, `defined` those that are defined,
-- `pending` the name whose definition is being read, and `halved` the variables that hints halve
-- for goals.
pub record NamesSeen : Type 0 where
  pub known : List Name
  pub defined : List Name
  pub pending : Option Name
  pub halved : List Name

-- before the first token
abbrev pub no_names : NamesSeen
no_names = record { known = []; defined = []; pending = None; halved = [] }

-- with one more name, where there is one
abbrev pub with_some : Option Name → List Name → List Name
with_some None names = names
with_some (Some text) names = text ∷ names

-- a definition's name is defined at its `;`
abbrev pub ended : Due → Option Name → Option Name
ended d.Semicolon pending = pending
ended r pending = None

-- a name is pending from where it stands to the `;` of its definition
abbrev pub pending_after : Option Name → Due → Option Name → Option Name
pending_after old d.Semicolon new = None
pending_after old r (Some text) = Some text
pending_after old r None = old

-- a variable counts at its first place in the hints that halve
abbrev pub halved_after : List Name → Bool → Option Name → List Name
halved_after halved halves (Some text) =
    if halves && not (is_among halved text) then halved ++ (text ∷ []) else halved
halved_after halved halves None = halved

-- the names behind a token, which stands in a hint that halves or in none
abbrev pub names_after : NamesSeen → Bool → Due → Word → NamesSeen
names_after n halves r w = record {
  known = with_some (operand_name r w) (with_some (ended r n.pending) n.known);
  defined = with_some (ended r n.pending) n.defined;
  pending = pending_after n.pending r (defines r w);
  halved = halved_after n.halved halves (split_name r w);
}

-- an operand that is a name for the first time
abbrev pub is_new : NamesSeen → Due → Word → Bool
is_new n r w = is_some_apart n.known (operand_name r w)

-- ---- names that are used before they are defined

-- the end of a definition
abbrev pub is_end : Due → Bool
is_end d.Semicolon = true
is_end r = false

-- there is a name, and it is this one
abbrev pub is_text : Name → Option Name → Bool
is_text text None = false
is_text text (Some found) = bytes_eq found text

-- the name is an operand before the next `;`
abbrev pub is_used_before_end : Name → List Leaf → Bool
is_used_before_end text [] = false
is_used_before_end text (l ∷ ls) =
    not (is_end l.role) && (is_text text (operand_name l.role l.word) || is_used_before_end text ls)

-- A definition's name that is defined or was an operand before, or is an operand of its own
-- definition.
abbrev pub is_used : NamesSeen → Option Name → List Leaf → Bool
is_used n None behind = false
is_used n (Some text) behind = is_among n.known text || is_used_before_end text behind
