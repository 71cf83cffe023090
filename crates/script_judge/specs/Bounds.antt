-- The bounds of ranges: what they stand for, and which are refused.
use Rattle.std.specs.Prelude.{◌&&◌, ◌||◌, List, [], ◌∷◌, Option, Some, None, Bool, true, false}
use Rattle.std.specs.Prelude.{if◌then◌else◌}
use Rattle.fx_model.specs.Fraction.{Fraction}
use Rattle.script_words.specs.declared.class.Symbol.TheVariants as s
use Rattle.script_words.specs.Words.{Word, literal, sign}
use Rattle.script_shape.specs.declared.due.Due.{Due}
use Rattle.script_shape.specs.declared.due.Due.TheVariants as d
use Rattle.script_shape.specs.Roles.{Leaf}
use Rattle.script_bounds.specs.Texts.{IsNumber}
use Rattle.script_bounds.specs.Tests.{is_less, is_too_low}

-- ---- a bound as a whole, at its first word

-- x is the value of a word that is a literal within its limits, or the negative of it
abbrev pub IsWordNumber : Bool → Word → Fraction → Type 0
IsWordNumber negative (literal k text) x = IsNumber negative text x
IsWordNumber negative w x = ⊥

-- of the next word
abbrev pub IsMagnitude : Bool → List Leaf → Fraction → Type 0
IsMagnitude negative [] x = ⊥
IsMagnitude negative (l ∷ ls) x = IsWordNumber negative l.word x

-- of the bound that begins with a word; of none where the reading ends before its literal
abbrev pub IsBoundText : Word → List Leaf → Fraction → Type 0
IsBoundText (literal k text) behind x = IsNumber false text x
IsBoundText (sign s.Plus) behind x = IsMagnitude false behind x
IsBoundText (sign s.Minus) behind x = IsMagnitude true behind x
IsBoundText w behind x = ⊥

-- x is the value of the bound that begins with a token
abbrev pub IsBoundOf : Due → Word → List Leaf → Fraction → Type 0
IsBoundOf d.Bound w behind x = IsBoundText w behind x
IsBoundOf r w behind x = ⊥

-- ---- what stands before a bound

-- `relative` says that the range is one of relative errors, `lower_due` that its lower bound comes
-- next, and `lower` is the lower bound, up to the upper.
pub record BoundsSeen : Type 0 where
  pub relative : Bool
  pub lower_due : Bool
  pub lower : Option Fraction

-- before the first token
abbrev pub no_bounds : BoundsSeen
no_bounds = record { relative = false; lower_due = false; lower = None }

-- behind `-/` and an expression the word `in` has a role of its own
abbrev pub relative_after : Bool → Due → Bool
relative_after old d.In = true
relative_after old d.Relation = false
relative_after old r = old

-- the sign `[`
abbrev pub is_open_bracket : Word → Bool
is_open_bracket (sign s.OpenBracket) = true
is_open_bracket w = false

-- the `[` of a range
abbrev pub opens_range : Due → Word → Bool
opens_range d.Range w = is_open_bracket w
opens_range r w = false

-- the lower bound is kept up to the next one
abbrev pub lower_after : Option Fraction → Bool → Option Fraction → Due → Option Fraction
lower_after old lower_due number d.Bound = if lower_due then number else None
lower_after old lower_due number r = old

-- what stands behind a token, with the number of the bound that begins there
abbrev pub bounds_after : BoundsSeen → Option Fraction → Due → Word → BoundsSeen
bounds_after b number r w = record {
  relative = relative_after b.relative r;
  lower_due = opens_range r w;
  lower = lower_after b.lower b.lower_due number r;
}

-- ---- bounds that are refused

-- the upper bound is below the lower
abbrev pub is_crossed : Option Fraction → Option Fraction → Bool
is_crossed None upper = false
is_crossed (Some low) None = false
is_crossed (Some low) (Some high) = is_less high low

-- there is a number, which rounded down isn't above -1
abbrev pub is_some_too_low : Option Fraction → Bool
is_some_too_low None = false
is_some_too_low (Some x) = is_too_low x

-- An upper bound below its lower one, or a lower bound of relative errors that is too low.
abbrev pub is_bad_bound : BoundsSeen → Option Fraction → Bool
is_bad_bound b number =
    is_crossed b.lower number || b.relative && b.lower_due && is_some_too_low number
