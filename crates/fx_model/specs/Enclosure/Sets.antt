-- Intervals, the exact results of operations on their fractions, and the best outward interval of a
-- set of fractions.
use Rattle.std.specs.Prelude.{◌≡◌, ⊤, ℤ}
use Rattle.fx_model.specs.Fraction.{Fraction, ◌+ℚ◌, ◌-ℚ◌, ◌*ℚ◌, ◌/ℚ◌, neg_ℚ, abs_ℚ, ◌≤ℚ◌, zero_ℚ}
use Rattle.fx_model.specs.Powers.{IsMultiple}
use Rattle.fx_model.specs.Grid.{Bound, Below, At, Above, IsOnGrid}

-- what lies between two bounds
pub record Range : Type 0 where
  pub low : Bound
  pub high : Bound

-- The range between these bounds.
abbrev pub from_ends : Bound → Bound → Range
from_ends low high = record { low = low; high = high }

-- x isn't below the lower bound
abbrev pub IsFrom : Bound → Fraction → Type 0
IsFrom Below x = ⊤
IsFrom (At g) x = g ≤ℚ x
IsFrom Above x = ⊥

-- x isn't above the upper bound
abbrev pub IsUpTo : Bound → Fraction → Type 0
IsUpTo Below x = ⊥
IsUpTo (At g) x = x ≤ℚ g
IsUpTo Above x = ⊤

-- x lies in the interval
abbrev pub Lies : Range → Fraction → Type 0
Lies r x = IsFrom r.low x × IsUpTo r.high x

-- the greatest grid number that is at most every member, or minus infinity where there is none
abbrev pub IsInfimum : (Fraction → Type 0) → Bound → Type 0
IsInfimum S (At g) = IsOnGrid g × ((x : Fraction) → S x → g ≤ℚ x)
    × ((h : Fraction) → IsOnGrid h → ((x : Fraction) → S x → h ≤ℚ x) → h ≤ℚ g)
IsInfimum S Below = (h : Fraction) → IsOnGrid h → ¬ ((x : Fraction) → S x → h ≤ℚ x)
IsInfimum S Above = ⊥

-- The least grid number that nothing in S is above. Where there is none, the end is Above.
abbrev pub IsSupremum : (Fraction → Type 0) → Bound → Type 0
IsSupremum S (At g) = IsOnGrid g × ((x : Fraction) → S x → x ≤ℚ g)
    × ((h : Fraction) → IsOnGrid h → ((x : Fraction) → S x → x ≤ℚ h) → g ≤ℚ h)
IsSupremum S Above = (h : Fraction) → IsOnGrid h → ¬ ((x : Fraction) → S x → x ≤ℚ h)
IsSupremum S Below = ⊥

-- the narrowest outward interval of S with ends of the grid
pub record IsEnclosure (S : Fraction → Type 0) (r : Range) : Type 0 where
  pub low : IsInfimum S r.low
  pub high : IsSupremum S r.high

-- ---- the exact results of the operations on the fractions of intervals
abbrev pub Negations : Range → Fraction → Type 0
Negations r z = (x : Fraction) × Lies r x × (z ≡ neg_ℚ x)

-- the absolute values of what lies in r
abbrev pub Sizes : Range → Fraction → Type 0
Sizes r z = (x : Fraction) × Lies r x × (z ≡ abs_ℚ x)

-- x * x for one x
abbrev pub Squares : Range → Fraction → Type 0
Squares r z = (x : Fraction) × Lies r x × (z ≡ x *ℚ x)

-- the sums of what lies in r and in s
abbrev pub Sums : Range → Range → Fraction → Type 0
Sums r s z = (x : Fraction) × (y : Fraction) × Lies r x × Lies s y × (z ≡ x +ℚ y)

-- the differences of what lies in r and in s
abbrev pub Differences : Range → Range → Fraction → Type 0
Differences r s z = (x : Fraction) × (y : Fraction) × Lies r x × Lies s y × (z ≡ x -ℚ y)

-- the products of what lies in r and in s
abbrev pub Products : Range → Range → Fraction → Type 0
Products r s z = (x : Fraction) × (y : Fraction) × Lies r x × Lies s y × (z ≡ x *ℚ y)

-- of a divisor that isn't 0
abbrev pub Quotients : Range → Range → Fraction → Type 0
Quotients r s z = (x : Fraction) × (y : Fraction) × Lies r x × Lies s y × (z ≡ x /ℚ y)

-- the multiples of 2^k in the interval
abbrev pub MultiplesIn : ℤ → Range → Fraction → Type 0
MultiplesIn k r z = Lies r z × IsMultiple k z

-- both bounds are numbers
abbrev pub IsFinite : Range → Type 0
IsFinite r = (g : Fraction) × (h : Fraction) × (r.low ≡ At g) × (r.high ≡ At h)

-- all fractions
abbrev pub whole_line : Range
whole_line = record { low = Below; high = Above }

-- The best interval of each operation. A product or quotient with an infinite end is the whole
-- line.
abbrev pub IsNegation : Range → Range → Type 0
IsNegation r t = IsEnclosure (Negations r) t

-- t encloses the absolute values
abbrev pub IsSize : Range → Range → Type 0
IsSize r t = IsEnclosure (Sizes r) t

-- t encloses the squares
abbrev pub IsSquare : Range → Range → Type 0
IsSquare r t = IsEnclosure (Squares r) t

-- t encloses the sums
abbrev pub IsSum : Range → Range → Range → Type 0
IsSum r s t = IsEnclosure (Sums r s) t

-- t encloses the differences
abbrev pub IsDifference : Range → Range → Range → Type 0
IsDifference r s t = IsEnclosure (Differences r s) t

-- t encloses the products where both ranges are finite, and is the whole line elsewhere
pub record IsProduct (r s t : Range) : Type 0 where
  pub finite : IsFinite r → IsFinite s → IsEnclosure (Products r s) t
  pub infinite : ¬ (IsFinite r × IsFinite s) → t ≡ whole_line

-- 0 isn't in the divisor s
pub record IsQuotient (r s t : Range) : Type 0 where
  pub nonzero : ¬ (Lies s zero_ℚ)
  pub finite : IsFinite r → IsFinite s → IsEnclosure (Quotients r s) t
  pub infinite : ¬ (IsFinite r × IsFinite s) → t ≡ whole_line
