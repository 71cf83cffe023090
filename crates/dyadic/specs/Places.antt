-- How large numbers are, and where their digits lie, in the calls that add and divide them.
use Rattle.std.specs.Prelude.{ℕ, ℤ, pos, negsuc, ◌≤ℤ◌, ◌<◌, ◌≤◌}
use Rattle.std.specs.Int.RustNames.{unsigned_abs}
use Rattle.dyadic.specs.declared.sums.Term.{Term}

-- a place as far down as that of a product of three grid numbers, or as far up
pub record IsPlace (two : ℤ) : Type 0 where
  pub low : negsuc 2999 ≤ℤ two
  pub high : two ≤ℤ pos 3000

-- a term of up to 66 bits, with the exponent of a grid number, or of one that was multiplied
pub record IsShort (t : Term) : Type 0 where
  pub small : unsigned_abs t.mantissa < 73786976294838206464
  pub low : negsuc 511 ≤ℤ t.exponent
  pub high : t.exponent ≤ℤ pos 572

-- The parts of a sum lie far apart: `top` has 126 bits and stands `lost` places above `base`, where
-- `low` stands, of up to 66 bits.
pub record IsFar (top low lost : ℕ) (base : ℤ) : Type 0 where
  pub top_long : 42535295865117307932921825928971026432 ≤ top
  pub top_small : top < 85070591730234615865843651857942052864
  pub low_small : low < 73786976294838206464
  pub lost_small : lost ≤ 2000
  pub lost_some : 0 < lost
  pub base_low : negsuc 511 ≤ℤ base
  pub base_high : base ≤ℤ pos 572

-- n * 2^two / d, of numbers as literals have them
pub record IsRatio (n : ℤ) (d : ℕ) (two : ℤ) : Type 0 where
  pub numerator : unsigned_abs n ≤ 100000000000000000000000000000000000000
  pub not_zero : 0 < d
  pub divisor : d ≤ 1000000000000000000000000000000
  pub low : negsuc 611 ≤ℤ two
  pub high : two ≤ℤ pos 612
