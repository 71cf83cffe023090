-- What the first word is that no script has at its place.
use Rattle.std.specs.Prelude.{ℕ, ◌-◌, ◌&&◌, ◌||◌, not, List, length, take, slice_get, Option, Some}
use Rattle.std.specs.Prelude.{Bool, true, false, if◌then◌else◌}
use Rattle.std.specs.List.{list_any}
use Rattle.std.specs.Str.{bytes_eq}
use Rattle.script_words.specs.declared.class.Symbol.{Symbol}
use Rattle.script_words.specs.declared.class.Symbol.TheVariants as s
use Rattle.script_words.specs.declared.class.Spelled.TheVariants as spelled
use Rattle.script_words.specs.declared.class.Class.TheVariants as class
use Rattle.script_words.specs.Words.{Word, name, rounding, literal, sign}
use Rattle.script_shape.specs.declared.due.Due.{Due}
use Rattle.script_shape.specs.declared.due.Due.TheVariants as d
use Rattle.script_shape.specs.Next.{may_follow}
use Rattle.script_shape.specs.Roles.{Leaf}
use Rattle.script_judge.specs.declared.refusal.RefusalKind.TheVariants as kind
use Rattle.script_judge.specs.declared.fault.Fault.{Fault}

-- ---- words

-- a reserved word
abbrev pub is_reserved : Symbol → Bool
is_reserved s.In = true
is_reserved s.Not = true
is_reserved s.Fixed = true
is_reserved s.Int = true
is_reserved s.Fma = true
is_reserved s.Float = true
is_reserved s.Sqrt = true
is_reserved _ = false

-- a name or a reserved word
abbrev pub is_spelled : Word → Bool
is_spelled (name k text) = true
is_spelled (rounding k text) = true
is_spelled (literal k text) = false
is_spelled (sign g) = is_reserved g

-- `float` and `sqrt`: operators that no script has
abbrev pub is_foreign : Word → Bool
is_foreign (sign s.Float) = true
is_foreign (sign s.Sqrt) = true
is_foreign _ = false

-- a name that isn't an operator's stands before `(`
abbrev pub is_unknown_call : Option Word → Option Word → Bool
is_unknown_call (Some (name k text)) (Some (sign s.OpenParen)) = true
is_unknown_call _ _ = false

-- the sign `=`
abbrev pub is_equal : Option Word → Bool
is_equal (Some (sign s.Equal)) = true
is_equal _ = false

-- ---- what is due behind some words

-- the name of a direction, and not any name
abbrev pub is_direction_due : List Word → Bool
is_direction_due before = may_follow before (class.Name spelled.Direction)
    && not (may_follow before (class.Name spelled.Plain))

-- `=` or an operator, as behind the name that a definition begins with
abbrev pub is_definition_due : List Word → Bool
is_definition_due before =
    may_follow before (class.Sign s.Equal) && may_follow before (class.Sign s.Fixed)

-- a written operator, and neither `=` nor a name: as behind `@ name =`
abbrev pub is_operator_due : List Word → Bool
is_operator_due before =
    may_follow before (class.Sign s.Fixed) && not (may_follow before (class.Sign s.Equal))
    && not (may_follow before (class.Name spelled.Plain))

-- ---- names with a value

-- a definition begins with this name, which gets a value
abbrev pub gives_value : List ℕ → Due → Word → Bool
gives_value text d.Script (name k found) = bytes_eq found text
gives_value text r w = false

-- a definition among these words gives the name a value
abbrev pub has_value : List ℕ → List Leaf → Bool
has_value text leaves = list_any (λ l. gives_value text l.role l.word) leaves

-- a definition before the one whose name is the last word
abbrev pub has_earlier_value : List ℕ → List Leaf → Bool
has_earlier_value text leaves = has_value text (take (length leaves - 1) leaves)

-- ---- the word

-- a name with no meaning so far, before `=`, in the place of an operator behind a definition's name
abbrev pub is_unknown_op : List Word → List Leaf → Word → Option Word → Bool
is_unknown_op before leaves (name k text) next =
    is_equal next && not (has_earlier_value text leaves) && is_definition_due before
is_unknown_op before leaves w next = false

-- A word that stands for an operator or a direction that there isn't.
abbrev pub is_unknown : List Word → List Leaf → Word → Option Word → Bool
is_unknown before leaves w next =
    is_foreign w
    || is_unknown_call (Some w) next
    || is_spelled w && (is_operator_due before || is_direction_due before)
    || is_unknown_op before leaves w next

-- Why a word that has no place behind these is refused, and at which word: at the name before it
-- where it is the `(` of a call of what is no operator, else at the word.
abbrev pub fault_of : List Word → List Leaf → Word → Option Word → Fault
fault_of before leaves w next =
    if not (is_foreign w) && is_unknown_call (slice_get before (length before - 1)) (Some w)
    then record { kind = kind.UnsupportedOperator; word = length before - 1 }
    else record {
      kind = if is_unknown before leaves w next then kind.UnsupportedOperator else kind.Unexpected;
      word = length before;
    }
