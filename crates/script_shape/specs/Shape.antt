-- The parser's stack: what is due after some words of a script, the next first.
use Rattle.std.specs.Prelude.{List, [], ◌∷◌, ◌++◌, Option, Some, None, option_and_then, Bool, true}
use Rattle.std.specs.Prelude.{false, ◌&&◌}
use Rattle.script_words.specs.declared.class.Class.{Class}
use Rattle.script_words.specs.Words.{Word, class_of}
use Rattle.script_shape.specs.declared.due.Due.{Due}
use Rattle.script_shape.specs.declared.due.Due.TheVariants as d
use Rattle.script_shape.specs.Table.{takes, may_skip, role_of}

-- what a token leaves due: the top takes it, or may be left out, or refuses it
abbrev pub after_top : Option (List Due) → Bool → List Due → Option (List Due) → Option (List Due)
after_top (Some new) skip rest below = Some (new ++ rest)
after_top None true rest below = below
after_top None false rest below = None

-- what is due after one more token, or none where it has no place
unfoldable pub step : Class → List Due → Option (List Due)
step c [] = None
step c (d ∷ rest) = after_top (takes d c) (may_skip d) rest (step c rest)

-- the role that the top gives a token, or that what is below gives it
abbrev pub role_at_top : Option (List Due) → Due → Option Due → Option Due
role_at_top (Some new) r below = Some r
role_at_top None r below = below

-- the role of the next token
unfoldable pub role_next : Class → List Due → Option Due
role_next c [] = None
role_next c (d ∷ rest) = role_at_top (takes d c) (role_of d c) (role_next c rest)

-- nothing more has to come
unfoldable pub may_end : List Due → Bool
may_end [] = true
may_end (d ∷ rest) = may_skip d && may_end rest

-- a script is due
abbrev pub start : List Due
start = d.Script ∷ []

-- what is due after some words, or none where one of them has no place
unfoldable pub run : List Word → List Due → Option (List Due)
run [] due = Some due
run (w ∷ ws) due = option_and_then (run ws) (step (class_of w) due)
