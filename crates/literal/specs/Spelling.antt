-- Literals as they are written, and the numbers that they stand for.
use Rattle.std.specs.Prelude.{◌≡◌, ℕ, ◌*◌, ◌^◌, ◌<◌, ◌≤◌, List, [], ◌∷◌, ◌++◌, length, codes}
use Rattle.std.specs.Prelude.{Option, Some, None, Bool, true, false, ℤ, pos, negsuc, ◌≤ℤ◌, neg_ℤ}
use Rattle.std.specs.Str.Parse.{AllDigits, IsNumeral, digits_value}
use Rattle.std.proofs.Common.{◌-ℤ◌}
use Rattle.fx_model.specs.declared.Literal.{Literal}
use Rattle.literal.specs.declared.scan.Form.{Form}
use Rattle.literal.specs.declared.scan.Form.TheVariants.{Decimal, Binary, Hexadecimal}
use Rattle.literal.specs.declared.scan.Mark.{Mark}
use Rattle.literal.specs.declared.scan.Mark.TheVariants.{Unmarked, Plus, Minus}

-- A sign and digits.
pub record Exponent : Type 0 where
  pub mark : Mark
  pub digits : List ℕ

-- The parts of a literal: digits, those behind a point (none where there is no point), and an
-- exponent.
pub record Spelling : Type 0 where
  pub form : Form
  pub whole : List ℕ
  pub fraction : List ℕ
  pub exponent : Option Exponent

-- ---- the bytes that it is written with

-- the bytes of a sign
abbrev pub mark_bytes : Mark → List ℕ
mark_bytes Unmarked = []
mark_bytes Plus = codes "+"
mark_bytes Minus = codes "-"

-- the sign and the digits of an exponent
abbrev pub exponent_bytes : Exponent → List ℕ
exponent_bytes e = mark_bytes e.mark ++ e.digits

-- what stands in front of the digits: `0x` in the hexadecimal form
abbrev pub opening : Form → List ℕ
opening Decimal = []
opening Binary = []
opening Hexadecimal = codes "0x"

-- the letter in front of an exponent: `e`, `b` or `p`
abbrev pub letter : Form → ℕ
letter Decimal = 101
letter Binary = 98
letter Hexadecimal = 112

-- the point and the fraction's digits, where there are any
abbrev pub point_bytes : List ℕ → List ℕ
point_bytes [] = []
point_bytes (d ∷ ds) = 46 ∷ (d ∷ ds)

-- the letter and the exponent, where one is written
abbrev pub scale_bytes : Form → Option Exponent → List ℕ
scale_bytes form None = []
scale_bytes form (Some e) = letter form ∷ exponent_bytes e

-- all that follows the opening
abbrev pub body_bytes : Spelling → List ℕ
body_bytes x = x.whole ++ (point_bytes x.fraction ++ scale_bytes x.form x.exponent)

-- the whole literal
abbrev pub spelling_bytes : Spelling → List ℕ
spelling_bytes x = opening x.form ++ body_bytes x

-- ---- what each part may be

-- whether its digits are hexadecimal
abbrev pub is_hexadecimal : Form → Bool
is_hexadecimal Decimal = false
is_hexadecimal Binary = false
is_hexadecimal Hexadecimal = true

-- the base of the digits, hexadecimal or not
abbrev pub base : Bool → ℕ
base false = 10
base true = 16

-- A number with `b` has no point, and always an exponent.
abbrev pub IsFraction : Form → List ℕ → Type 0
IsFraction Binary ds = ds ≡ []
IsFraction Decimal ds = AllDigits 10 ds
IsFraction Hexadecimal ds = AllDigits 16 ds

-- an exponent has digits; the binary form can't do without one
abbrev pub IsExponent : Option Exponent → Form → Type 0
IsExponent None Binary = ⊥
IsExponent None Decimal = Unit {0}
IsExponent None Hexadecimal = Unit {0}
IsExponent (Some e) form = IsNumeral 10 e.digits

-- each part is one that its form may have
pub record IsSpelling (x : Spelling) : Type 0 where
  pub whole : IsNumeral (base (is_hexadecimal x.form)) x.whole
  pub fraction : IsFraction x.form x.fraction
  pub exponent : IsExponent x.exponent x.form

-- The text is a literal, with these parts.
pub record Spells (text : List ℕ) (x : Spelling) : Type 0 where
  pub bytes : spelling_bytes x ≡ text
  pub parts : IsSpelling x

-- the text spells some number
abbrev pub IsLiteral : List ℕ → Type 0
IsLiteral text = (x : Spelling) × Spells text x

-- ---- what it stands for, once the point is removed into the exponent

-- the number with its sign
abbrev pub signed_value : Mark → ℕ → ℤ
signed_value Unmarked n = pos n
signed_value Plus n = pos n
signed_value Minus n = neg_ℤ (pos n)

-- the exponent, or 0 where none is written
abbrev pub exponent_value : Option Exponent → ℤ
exponent_value None = pos 0
exponent_value (Some e) = signed_value e.mark (digits_value 10 e.digits)

-- A hexadecimal digit behind the point is four places of two.
abbrev pub written_as : Form → List ℕ → List ℕ → Option Exponent → Literal
written_as Decimal w p e =
    record { num = digits_value 10 (w ++ p); two = pos 0; ten = exponent_value e -ℤ pos (length p) }
written_as Binary w p e = record { num = digits_value 10 w; two = exponent_value e; ten = pos 0 }
written_as Hexadecimal w p e = record {
  num = digits_value 16 (w ++ p);
  two = exponent_value e -ℤ pos (4 * length p);
  ten = pos 0;
}

-- the literal of a spelling
abbrev pub written : Spelling → Literal
written x = written_as x.form x.whole x.fraction x.exponent

-- ---- the limits: 30 or 25 digits, and the exponent's range

-- low ≤ z ≤ high
abbrev pub IsBetween : ℤ → ℤ → ℤ → Type 0
IsBetween low high z = (low ≤ℤ z) × (z ≤ℤ high)

-- Leading zeros count with `b` alone: elsewhere the number itself is judged.
abbrev pub IsWithinAs : Form → List ℕ → Literal → Type 0
IsWithinAs Decimal w l = (l.num < 10 ^ 30) × IsBetween (negsuc 29) (pos 8) l.ten
IsWithinAs Binary w l = (length w ≤ 30) × IsBetween (negsuc 511) (pos 512) l.two
IsWithinAs Hexadecimal w l = (l.num < 16 ^ 25) × IsBetween (negsuc 511) (pos 512) l.two

-- the number is within the limits of its form
abbrev pub IsWithin : Spelling → Type 0
IsWithin x = IsWithinAs x.form x.whole (written x)
