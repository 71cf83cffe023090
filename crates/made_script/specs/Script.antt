-- The text of the made script of degree n, as bytes.
use Rattle.std.specs.Prelude.{◌≡◌, ℕ, zero, suc, ◌+◌, ◌-◌, ◌*◌, ◌%◌, ◌<◌, ◌++◌, nat_lt, codes, List}
use Rattle.std.specs.Prelude.{if◌then◌else◌}
use Rattle.std.specs.Fmt.{decimal}

-- The text of a script, byte by byte.
abbrev pub Bytes : Type 0
Bytes = List ℕ

-- the factor of the power i, in units of 2^-6
abbrev pub coefficient : ℕ → ℕ
coefficient i = (37 * i + 11) % 64

-- The factor of the power i as the script writes it: a whole number times 2^-6.
abbrev pub literal : ℕ → Bytes
literal i = decimal (coefficient i) ++ codes "b-6"

-- what x is multiplied by: in parentheses, but for the last literal alone
abbrev pub in_parentheses : ℕ → Bytes → Bytes
in_parentheses zero text = text
in_parentheses (suc powers) text = codes "(" ++ text ++ codes ")"

-- The polynomial from the power i on, where so many powers follow. With Horner's form x is written
-- once for each of these.
abbrev pub horner : ℕ → ℕ → Bytes
horner i zero = literal i
horner i (suc powers) =
    in_parentheses powers (horner (i + 1) powers) ++ codes " * x + " ++ literal i

-- the polynomial of degree n from the power i on
abbrev pub polynomial : ℕ → ℕ → Bytes
polynomial n i = horner i (n - i)

-- the script, line by line: the polynomial stands in the second with rounded operations, in the
-- third as it is
abbrev pub script_text : ℕ → Bytes
script_text n =
    codes "@q = fixed<-12,dn>;\n"
    ++ codes "y q= " ++ polynomial n 0 ++ codes ";\n"
    ++ codes "My = " ++ polynomial n 0 ++ codes ";\n"
    ++ codes "{ x in [0,1] -> y - My in ? }\n"
    ++ codes "$ x in 64;\n"

-- ---- the polynomial by its powers alone

-- from the power n on it is a literal
abbrev pub EndsInALiteral : Type 0
EndsInALiteral = (n : ℕ) → polynomial n n ≡ literal n

-- what x is multiplied by at the power i: the polynomial from the next power on, in parentheses
-- where that isn't the last
abbrev pub factor : ℕ → ℕ → Bytes → Bytes
factor n i text = if nat_lt (i + 1) n then codes "(" ++ text ++ codes ")" else text

-- Below power n the polynomial is the one from the next power on, times x, plus the literal of its
-- own power.
abbrev pub AreNested : Type 0
AreNested = (n i : ℕ) → i < n
    → polynomial n i ≡ factor n i (polynomial n (i + 1)) ++ codes " * x + " ++ literal i
