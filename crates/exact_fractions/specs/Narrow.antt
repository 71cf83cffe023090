-- Numbers below 2^127, and what a call answers that finds one.
use Rattle.std.specs.Prelude.{◌≡◌, ℕ, ℤ, pos, ◌^◌, nat_lt, Option, MatchOption, Bool, true, false}
use Rattle.std.specs.Int.RustNames.{unsigned_abs}

-- below 2^127 in absolute value
abbrev pub is_narrow : ℤ → Bool
is_narrow z = nat_lt (unsigned_abs z) (2 ^ 127)

-- the number z, where it is below 2^127
abbrev pub GivesNumber : ℤ → Option ℤ → Type 0
GivesNumber z r = MatchOption r (is_narrow z ≡ false) (λ n. (is_narrow z ≡ true) × (n ≡ z))

-- The answer is n, where it is below 2^127, and none exactly where it isn't.
abbrev pub GivesSize : ℕ → Option ℕ → Type 0
GivesSize n r = MatchOption r (is_narrow (pos n) ≡ false) (λ m. (is_narrow (pos n) ≡ true)
    × (m ≡ n))
