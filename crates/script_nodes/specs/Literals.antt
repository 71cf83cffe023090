-- The literal of a text: its parts, and the normal form of the number that they stand for.
use Rattle.std.specs.Prelude.{◌≡◌, ◌⊎◌, ℕ, ℤ, pos, int_lt, zero, suc, ◌/◌, ◌%◌, ◌==◌, ◌^◌, ◌&&◌}
use Rattle.std.specs.Prelude.{not, ◌+ℤ◌, negsuc, nat_lt, List, [], ◌∷◌, length, drop, Option, Some}
use Rattle.std.specs.Prelude.{None, Bool, true, false, if◌then◌else◌}
use Rattle.std.specs.Bool.{Decides}
use Rattle.std.specs.Char.{digit_value}
use Rattle.std.specs.Str.{bytes_eq}
use Rattle.fx_model.specs.declared.Literal.{Literal}
use Rattle.literal.specs.declared.scan.Form.{Form}
use Rattle.literal.specs.declared.scan.Form.TheVariants.{Decimal, Binary, Hexadecimal}
use Rattle.literal.specs.declared.scan.Mark.TheVariants.{Unmarked, Plus, Minus}
use Rattle.literal.specs.Spelling.{Exponent, Spelling, Spells, IsLiteral, base, is_hexadecimal}
use Rattle.literal.specs.Spelling.{spelling_bytes, written}
use Rattle.literal.specs.Normal.{nought, IsReading, IsPastLimits}

-- ---- parts

-- the digits at the front, and what stands behind them
abbrev pub front : ℕ → List ℕ → List ℕ
front radix [] = []
front radix (b ∷ bs) = if nat_lt (digit_value b) radix then b ∷ front radix bs else []

-- what follows the digits at the front
abbrev pub behind : ℕ → List ℕ → List ℕ
behind radix [] = []
behind radix (b ∷ bs) = if nat_lt (digit_value b) radix then behind radix bs else b ∷ bs

-- the digits behind a point at the front, and what stands behind both
abbrev pub fraction_at : ℕ → List ℕ → List ℕ
fraction_at radix [] = []
fraction_at radix (b ∷ bs) = if b == 46 then front radix bs else []

-- what follows the point and the digits behind it; all where no point is first
abbrev pub behind_fraction : ℕ → List ℕ → List ℕ
behind_fraction radix [] = []
behind_fraction radix (b ∷ bs) = if b == 46 then behind radix bs else b ∷ bs

-- a sign and digits
abbrev pub exponent_at : List ℕ → Exponent
exponent_at [] = record { mark = Unmarked; digits = [] }
exponent_at (b ∷ bs) =
    if b == 43 then record { mark = Plus; digits = bs }
    else if b == 45 then record { mark = Minus; digits = bs }
    else record { mark = Unmarked; digits = b ∷ bs }

-- the exponent behind its letter
abbrev pub scale_at : List ℕ → Option Exponent
scale_at [] = None
scale_at (b ∷ bs) = Some (exponent_at bs)

-- the letter tells a binary literal from a decimal one
abbrev pub form_at : Bool → List ℕ → Form
form_at true bs = Hexadecimal
form_at false [] = Decimal
form_at false (b ∷ bs) = if b == 98 then Binary else Decimal

-- the parts, from the digits and what follows them, of a hexadecimal text or another
abbrev pub body_at : Bool → List ℕ → List ℕ → Spelling
body_at h bs rest = record {
  form = form_at h (behind_fraction (base h) rest);
  whole = front (base h) bs;
  fraction = fraction_at (base h) rest;
  exponent = scale_at (behind_fraction (base h) rest);
}

-- `0x` stands in front
abbrev pub opens_hexadecimal : List ℕ → Bool
opens_hexadecimal [] = false
opens_hexadecimal (a ∷ []) = false
opens_hexadecimal (a ∷ (b ∷ bs)) = if b == 120 then a == 48 else false

-- the text without its first two bytes where it is hexadecimal
abbrev pub without_opening : Bool → List ℕ → List ℕ
without_opening h bs = if h then drop 2 bs else bs

-- the parts of a text behind its opening, hexadecimal or not
abbrev pub parts_as : Bool → List ℕ → Spelling
parts_as h bs = body_at h bs (behind (base h) bs)

-- the parts of a literal
unfoldable pub parts_of : List ℕ → Spelling
parts_of text = parts_as (opens_hexadecimal text) (without_opening (opens_hexadecimal text) text)

-- ---- normal forms

-- n * 10^e, and n * 2^e, with so many factors at most taken out of the number
unfoldable pub tens_out : ℕ → ℕ → ℤ → Literal
tens_out zero n e = record { num = n; two = pos 0; ten = e }
tens_out (suc k) n e = if n % 10 == 0 then tens_out k (n / 10) (e +ℤ pos 1)
    else record { num = n; two = pos 0; ten = e }

-- n * 2^e, with at most k factors of two taken out of the number
unfoldable pub twos_out : ℕ → ℕ → ℤ → Literal
twos_out zero n e = record { num = n; two = e; ten = pos 0 }
twos_out (suc k) n e =
    if n % 2 == 0 then twos_out k (n / 2) (e +ℤ pos 1) else record { num = n; two = e; ten = pos 0 }

-- A number within the limits has fewer than 30 factors of ten, and than 100 of two.
abbrev pub normal_of : Form → Literal → Literal
normal_of Decimal l = if l.num == 0 then nought else tens_out 30 l.num l.ten
normal_of Binary l = if l.num == 0 then nought else twos_out 100 l.num l.two
normal_of Hexadecimal l = if l.num == 0 then nought else twos_out 100 l.num l.two

-- ---- which texts are read

-- whether each byte is a digit of this base
abbrev pub all_digits : ℕ → List ℕ → Bool
all_digits radix [] = true
all_digits radix (c ∷ cs) = nat_lt (digit_value c) radix && all_digits radix cs

-- whether there are digits, and nothing else
abbrev pub is_numeral : ℕ → List ℕ → Bool
is_numeral radix ds = nat_lt 0 (length ds) && all_digits radix ds

-- whether the form may have these digits behind the point
abbrev pub is_fraction : Form → List ℕ → Bool
is_fraction Binary [] = true
is_fraction Binary (d ∷ ds) = false
is_fraction Decimal ds = all_digits 10 ds
is_fraction Hexadecimal ds = all_digits 16 ds

-- whether the form may have this exponent
abbrev pub is_exponent : Option Exponent → Form → Bool
is_exponent None Binary = false
is_exponent None Decimal = true
is_exponent None Hexadecimal = true
is_exponent (Some e) form = is_numeral 10 e.digits

-- whether low ≤ z ≤ high
abbrev pub is_between : ℤ → ℤ → ℤ → Bool
is_between low high z = not (int_lt z low) && not (int_lt high z)

-- whether the literal, whose whole digits are w, is within the limits of its form
abbrev pub is_within : Form → List ℕ → Literal → Bool
is_within Decimal w l = nat_lt l.num (10 ^ 30) && is_between (negsuc 29) (pos 8) l.ten
is_within Binary w l = nat_lt (length w) 31 && is_between (negsuc 511) (pos 512) l.two
is_within Hexadecimal w l = nat_lt l.num (16 ^ 25) && is_between (negsuc 511) (pos 512) l.two

-- The text is written with these parts, and they are those of a literal within its limits.
abbrev pub is_read_as : List ℕ → Spelling → Bool
is_read_as text x =
    bytes_eq (spelling_bytes x) text && (is_numeral (base (is_hexadecimal x.form)) x.whole
    && (is_fraction x.form x.fraction
    && (is_exponent x.exponent x.form && is_within x.form x.whole (written x))))

-- The literal that a text spells, in its normal form. Of other texts, and of literals past their
-- limits, it is 0.
unfoldable pub literal_of : List ℕ → Literal
literal_of text = if is_read_as text (parts_of text)
    then normal_of (parts_of text).form (written (parts_of text)) else nought

-- It is what a text is read as wherever it is read.
abbrev pub ReadsLiterals : Type 0
ReadsLiterals = (text : List ℕ) (l : Literal) → IsReading text l → literal_of text ≡ l

-- Each text is read as its literal, or is a literal past its limits, or is no literal.
abbrev pub LiteralsAreTold : Type 0
LiteralsAreTold = (text : List ℕ)
    → IsReading text (literal_of text) ⊎ (IsPastLimits text ⊎ ¬ IsLiteral text)

-- A text has the parts of one literal at most.
abbrev pub SpelledOnce : Type 0
SpelledOnce = (text : List ℕ) (x y : Spelling) → Spells text x → Spells text y → x ≡ y

-- The test of a text is true exactly where it is read as its literal.
abbrev pub LiteralsAreTested : Type 0
LiteralsAreTested = (text : List ℕ)
    → Decides (is_read_as text (parts_of text)) (IsReading text (literal_of text))
