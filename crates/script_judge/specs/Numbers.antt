-- What the digits of a token tell.
use Rattle.std.specs.Prelude.{◌≡◌, ℕ, ◌==◌, nat_lt, List, Option, Some, Bool, true, false, IsTrue}
use Rattle.std.specs.Prelude.{◌↔◌}
use Rattle.std.specs.Str.Parse.{digits_value}
use Rattle.fx_model.specs.Fraction.{Fraction}
use Rattle.literal.specs.Normal.{IsPastLimits}
use Rattle.script_words.specs.Words.{Word, literal}
use Rattle.script_shape.specs.declared.due.Due.{Due}
use Rattle.script_shape.specs.declared.due.Due.TheVariants as d
use Rattle.script_shape.specs.Roles.{Leaf}
use Rattle.script_judge.specs.Bounds.{IsBoundOf}

-- ---- digits alone

-- the number that digits alone write
abbrev pub digits_of : Word → ℕ
digits_of (literal k text) = digits_value 10 text
digits_of w = 0

-- a cut into no pieces
abbrev pub has_no_pieces : Due → Word → Bool
has_no_pieces d.Cut (literal k text) = digits_value 10 text == 0
has_no_pieces r w = false

-- the digits of the least significant bit of an operator, or of `@FIX`
abbrev pub is_past_lsb : Due → Word → Bool
is_past_lsb d.Whole w = nat_lt 512 (digits_of w)
is_past_lsb d.WholeDigits w = nat_lt 512 (digits_of w)
is_past_lsb r w = false

-- the digits of a cut into too many pieces
abbrev pub is_past_pieces : Due → Word → Bool
is_past_pieces d.Cut w = nat_lt 64 (digits_of w)
is_past_pieces r w = false

-- ---- what only a literal's value tells

-- what is noted of a token: whether it is a literal of an expression or a bound that is past its
-- limits, the value of the bound that begins there
pub record Notes : Type 0 where
  pub past : Bool
  pub number : Option Fraction

-- what is due where a literal of an expression or a bound stands
abbrev pub is_number : Due → Bool
is_number d.Operand = true
is_number d.Bound = true
is_number d.Magnitude = true
is_number r = false

-- a literal past its limits
abbrev pub IsPastWord : Word → Type 0
IsPastWord (literal k text) = IsPastLimits text
IsPastWord w = ⊥

-- such a literal, where one is due
abbrev pub IsPast : Bool → Word → Type 0
IsPast true w = IsPastWord w
IsPast false w = ⊥

-- The notes are right for the token, with these behind it.
pub record Tells (v : Notes) (r : Due) (w : Word) (behind : List Leaf) : Type 0 where
  pub past : IsTrue v.past ↔ IsPast (is_number r) w
  pub number : (x : Fraction) → (v.number ≡ Some x) ↔ IsBoundOf r w behind x
