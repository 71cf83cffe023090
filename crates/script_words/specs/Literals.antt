-- How long a literal is, by cases on its bytes. Each part is as long as it can be.
use Rattle.std.specs.Prelude.{ℕ, ◌+◌, ◌==◌, ◌&&◌, ◌||◌, nat_lt, List, [], ◌∷◌, drop, Bool, false}
use Rattle.std.specs.Prelude.{if◌then◌else◌}
use Rattle.std.specs.List.{prefix_len}
use Rattle.std.specs.Char.{is_ascii_alphanumeric, is_ascii_digit, is_ascii_hexdigit}
use Rattle.script_words.specs.declared.lex.Run.{Run}
use Rattle.script_words.specs.declared.lex.Run.TheVariants.{Word, Digit, HexDigit}

-- an ASCII letter or digit, or `_`
abbrev pub is_word : ℕ → Bool
is_word b = is_ascii_alphanumeric b || b == 95

-- the bytes of a run of each sort
abbrev pub is_in : Run → ℕ → Bool
is_in Word b = is_word b
is_in Digit b = is_ascii_digit b
is_in HexDigit b = is_ascii_hexdigit b

-- how many bytes at the front are of the run's sort
abbrev pub run_len : Run → List ℕ → ℕ
run_len r bs = prefix_len (is_in r) bs

-- a mark and one or more digits after it, or nothing
abbrev pub part_len : ℕ → Run → List ℕ → ℕ
part_len mark r [] = 0
part_len mark r (b ∷ bs) = if b == mark && nat_lt 0 (run_len r bs) then 1 + run_len r bs else 0

-- digits with or without a sign before them, or nothing
abbrev pub signed_len : List ℕ → ℕ
signed_len [] = 0
signed_len (b ∷ bs) =
    if b == 43 || b == 45 then (if nat_lt 0 (run_len Digit bs) then 1 + run_len Digit bs else 0)
    else run_len Digit (b ∷ bs)

-- an exponent behind its mark, or nothing
abbrev pub exponent_len : ℕ → List ℕ → ℕ
exponent_len mark [] = 0
exponent_len mark (b ∷ bs) = if b == mark && nat_lt 0 (signed_len bs) then 1 + signed_len bs else 0

-- digits, and then perhaps a point with digits, and then perhaps an exponent
unfoldable pub scaled_len : Run → ℕ → List ℕ → ℕ
scaled_len r mark bs =
    let whole = run_len r bs in
    let point = part_len 46 r (drop whole bs) in
    whole + point + exponent_len mark (drop (whole + point) bs)

-- `0x` and a hexadecimal digit begin a hexadecimal literal
abbrev pub is_hex : List ℕ → Bool
is_hex [] = false
is_hex (a ∷ []) = false
is_hex (a ∷ (b ∷ bs)) = a == 48 && b == 120 && nat_lt 0 (run_len HexDigit bs)

-- the longest literal at the front, which begins with a digit. Digits with `b` and an exponent are
-- a binary one
unfoldable pub literal_len : List ℕ → ℕ
literal_len bs =
    if is_hex bs then 2 + scaled_len HexDigit 112 (drop 2 bs)
    else (let binary = exponent_len 98 (drop (run_len Digit bs) bs) in
    if nat_lt 0 binary then run_len Digit bs + binary else scaled_len Digit 101 bs)
