-- Numbers in plain decimal: digits alone, with no leading zero but in `0` itself.
use Rattle.std.specs.Prelude.{ℕ, ◌+◌, ◌*◌, ◌-◌, ◌==◌, ◌&&◌, ◌||◌, Bool, not, nat_le, nat_lt, List}
use Rattle.std.specs.Prelude.{length, fold, slice_index, Option, Some, None, if◌then◌else◌}
use Rattle.std.specs.List.{list_all}
use Rattle.std.specs.Option.{option_map_or}

-- Whether a byte is one of the ASCII digits `0` to `9`.
abbrev pub is_digit : ℕ → Bool
is_digit b = nat_le 48 b && nat_le b 57

-- Whether a text is digits alone, at least one, and begins with `0` only where it is `0` itself.
abbrev pub is_plain_decimal : List ℕ → Bool
is_plain_decimal ds = list_all is_digit ds
    && (length ds == 1 || (nat_lt 1 (length ds) && not (slice_index ds 0 == 48)))

-- The number that digits spell, the highest first; no digits spell 0.
abbrev pub value_of : List ℕ → ℕ
value_of ds = fold (λ v d. 10 * v + (d - 48)) 0 ds

-- the number that a text spells, where it lies in the range
abbrev pub number_in : ℕ → ℕ → List ℕ → Option ℕ
number_in low high text =
    if is_plain_decimal text && (nat_le low (value_of text) && nat_le (value_of text) high)
    then Some (value_of text) else None

-- the number of an option, or its default where it isn't given
abbrev pub number_or : ℕ → ℕ → ℕ → Option (List ℕ) → Option ℕ
number_or default low high given = option_map_or (number_in low high) given (Some default)
