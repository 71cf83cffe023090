-- Written operators: `fixed<l,d>`, and `int<d>`, which is `fixed<0,d>`.
use Rattle.std.specs.Prelude.{ℕ, ℤ, pos, neg_ℤ, codes, List, if◌then◌else◌, nat_lt}
use Rattle.std.specs.Str.{bytes_eq}
use Rattle.std.specs.Str.Parse.{digits_value}
use Rattle.fx_model.specs.declared.Direction.{Direction}
use Rattle.fx_model.specs.declared.Direction.TheVariants.{Zr, Aw, Dn, Up, Od, Ne, No, Nz, Na, Nd}
use Rattle.fx_model.specs.declared.Direction.TheVariants.{Nu}
use Rattle.fx_model.specs.declared.Rounding.{Rounding}
use Rattle.script_shape.specs.Expressions.{Special, free, defined, Digits, zero_alone, digits}
use Rattle.script_shape.specs.Expressions.{Whole, natural, opposite, Operator, fixed, int}

-- the direction of a word: `zr aw dn up od ne no nz na nd`, else `nu`
unfoldable pub direction_of : List ℕ → Direction
direction_of text =
    if bytes_eq text (codes "zr") then Zr
    else if bytes_eq text (codes "aw") then Aw
    else if bytes_eq text (codes "dn") then Dn
    else if bytes_eq text (codes "up") then Up
    else if bytes_eq text (codes "od") then Od
    else if bytes_eq text (codes "ne") then Ne
    else if bytes_eq text (codes "no") then No
    else if bytes_eq text (codes "nz") then Nz
    else if bytes_eq text (codes "na") then Na
    else if bytes_eq text (codes "nd") then Nd
    else Nu

-- no more than 512
abbrev pub stopped : ℕ → ℕ
stopped n = if nat_lt n 512 then n else 512

-- The number that digits write, and 512 where they write more. Digits may be of any length and have
-- leading zeros; scripts that are accepted write no more than 512.
unfoldable pub number_of : List ℕ → ℕ
number_of text = stopped (digits_value 10 text)

-- the text of `FIX`, or of a direction
abbrev pub special_text : Special → List ℕ
special_text (free text) = text
special_text (defined text) = text

-- the text of digits
abbrev pub digits_text : Digits → List ℕ
digits_text (zero_alone text) = text
digits_text (digits text) = text

-- the value of a whole number
abbrev pub whole_value : Whole → ℤ
whole_value (natural d) = pos (number_of (digits_text d))
whole_value (opposite d) = neg_ℤ (pos (number_of (digits_text d)))

-- the rounding that an operator stands for
abbrev pub rounding_of : Operator → Rounding
rounding_of (fixed l d) = record { lsb = whole_value l; dir = direction_of (special_text d) }
rounding_of (int d) = record { lsb = pos 0; dir = direction_of (special_text d) }
