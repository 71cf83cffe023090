-- Literals as reduced fractions.
use Rattle.std.specs.Prelude.{◌≡◌, ◌≢◌, ◌⊎◌, ℕ, pos, negsuc, ◌≤ℤ◌, ◌/◌, ◌%◌, ◌^◌, ◌<◌, ◌≤◌, Option}
use Rattle.std.specs.Prelude.{Some, None, List, slice_index_or, length, ⊤}
use Rattle.fx_model.specs.declared.Literal.{Literal}
use Rattle.fx_model.specs.declared.Node.{Node}
use Rattle.fx_model.specs.declared.Node.TheVariants.{Lit}
use Rattle.poly_normal.specs.Form.{literal_top, literal_bottom, literal_divisor}
use Rattle.poly_normal.specs.declared.literals.Ratio.{Ratio}

-- A decimal, or an odd number times a power of two. Each literal in normal form is one.
abbrev pub IsPlain : Literal → Type 0
IsPlain l = ((l.two ≡ pos 0) × (negsuc 37 ≤ℤ l.ten)) ⊎ ((l.ten ≡ pos 0) × (l.num % 2 ≢ 0))

-- A node that is a literal has a plain one; nothing is asked of other nodes.
abbrev pub IsPlainNode : Node → Type 0
IsPlainNode (Lit l) = IsPlain l
IsPlainNode n = ⊤

-- every literal of the list is plain
abbrev pub ArePlain : List Node → Type 0
ArePlain nodes = (i : ℕ) (n : Node) → i < length nodes → IsPlainNode (slice_index_or nodes i n)

-- the literal as a reduced fraction
abbrev pub reduced_top : Literal → ℕ
reduced_top l = literal_top l / literal_divisor l

-- The denominator of the literal once it is reduced.
abbrev pub reduced_bottom : Literal → ℕ
reduced_bottom l = literal_bottom l / literal_divisor l

-- top / bottom, or none exactly where one of them reaches 2^127
abbrev pub IsRatio : ℕ → ℕ → Option Ratio → Type 0
IsRatio top bottom None = (2 ^ 127 ≤ top) ⊎ (2 ^ 127 ≤ bottom)
IsRatio top bottom (Some r) = (r.top ≡ top) × (r.bottom ≡ bottom)
    × (top < 2 ^ 127) × (bottom < 2 ^ 127)

-- n, or none exactly where it reaches 2^127
abbrev pub IsBelowLimit : ℕ → Option ℕ → Type 0
IsBelowLimit n None = 2 ^ 127 ≤ n
IsBelowLimit n (Some m) = (m ≡ n) × (n < 2 ^ 127)
