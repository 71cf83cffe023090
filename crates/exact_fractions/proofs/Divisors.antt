-- Laws of what specs/Divisors defines.
use Rattle.std.specs.Prelude.{◌≡◌, ℕ}
use Rattle.std.specs.Int.{IsGcd}
use Rattle.std.proofs.lemmas.Nat.Gcd.{same_from_IsGcd}
use Rattle.exact_fractions.specs.Divisors.{gcd, gcd_is}

-- ---- it is what it is called
pub gcd_of : (a b g : ℕ) → IsGcd a b g → gcd a b ≡ g
gcd_of a b g h = same_from_IsGcd a b (gcd a b) g (gcd_is a b) h
