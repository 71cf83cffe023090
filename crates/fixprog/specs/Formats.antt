-- Formats, and the values of their words.
use Rattle.std.specs.Prelude.{ℕ, ℤ, pos, neg_ℤ, ◌+◌, ◌-◌, ◌^◌, ◌==◌, ◌&&◌, nat_lt, List, [], ◌∷◌}
use Rattle.std.specs.Prelude.{take, drop, Option, Some, None, Bool, false, if◌then◌else◌}
use Rattle.std.specs.Str.Parse.{digits_value}
use Rattle.fx_model.specs.Fraction.{Fraction, le_ℚ}
use Rattle.fx_model.specs.Powers.{scaled}
-- `sW.F` is signed, `uW.F` isn't; W is the width and F the number of places behind the binary
-- point.
use Rattle.fixprog.specs.declared.format.Format.{Format}
use Rattle.fixprog.specs.Lex.{digits_len}

-- the format of a text that is one; its numbers may have leading zeros
unfoldable pub format_of : List ℕ → Format
format_of [] = record { signed = false; width = 0; places = 0 }
format_of (b ∷ bs) = record {
  signed = b == 115;
  width = digits_value 10 (take (digits_len bs) bs);
  places = digits_value 10 (drop (digits_len bs + 1) bs);
}

-- The width is 1 to 60, the places are 0 to 60.
abbrev pub is_format : Format → Bool
is_format f = nat_lt 0 f.width && nat_lt f.width 61 && nat_lt f.places 61

-- the least word and the greatest
abbrev pub least : Format → ℤ
least f = if f.signed then neg_ℤ (pos (2 ^ (f.width - 1))) else pos 0

-- The greatest word of a format, as a whole number; where it is signed, one bit is the sign's.
abbrev pub greatest : Format → ℤ
greatest f = if f.signed then pos (2 ^ (f.width - 1) - 1) else pos (2 ^ f.width - 1)

-- the place of the last bit
abbrev pub last_place : Format → ℤ
last_place f = neg_ℤ (pos f.places)

-- the value of a word
abbrev pub word_value : Format → ℤ → Fraction
word_value f w = scaled w (last_place f)

-- from the least value of the format to the greatest
abbrev pub is_within : Format → Fraction → Bool
is_within f x = le_ℚ (word_value f (least f)) x && le_ℚ x (word_value f (greatest f))

-- The format where its width and places are within their limits, or none.
abbrev pub within_limits : Format → Option Format
within_limits f = if is_format f then Some f else None
