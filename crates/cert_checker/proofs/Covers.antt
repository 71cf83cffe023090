-- The pieces of a cut cover the line.
use Rattle.std.proofs.Common.{◌≡◌, ◌≤◌, ◌<◌, ◌+◌, ◌-◌, ◌==◌, ℕ, zero, suc, true, false, List}
use Rattle.std.proofs.Common.{length, Some, refl, arith, ⊎_elim}
use Rattle.fx_model.specs.Fraction.{Fraction, le_or_lt, lt_le}
use Rattle.fx_model.specs.Enclosure.{Lies, IsFrom, IsUpTo, ordered_by}
use Rattle.dyadic.specs.declared.number.Dyadic.{Dyadic}
use Rattle.dyadic.specs.declared.number.End.{End}
use Rattle.dyadic.specs.declared.number.End.TheVariants.{At, High}
use Rattle.dyadic.specs.Values.{value_of}
use Rattle.dyadic.specs.Ends.{bound_of}
use Rattle.dyadic.specs.Rising.{point_of}
use Rattle.interval.specs.declared.interval.Interval.{Interval}
use Rattle.interval.specs.Intervals.{range_of}
use Rattle.interval.specs.Meets.{interval_from, interval_from-some}
use Rattle.cert_checker.specs.Contexts.{low_end, high_end, piece_of}

-- the fraction lies in piece k
abbrev pub LiesIn : List Dyadic → ℕ → Fraction → Type 0
LiesIn points k x = (i : Interval) × (piece_of points k ≡ Some i) × Lies (range_of i) x

between : (lo hi : End) (x : Fraction) → IsFrom (bound_of lo) x → IsUpTo (bound_of hi) x
    → (i : Interval) × (interval_from lo hi ≡ Some i) × Lies (range_of i) x
between lo hi x l h =
    let o = ordered_by (bound_of lo) (bound_of hi) x l h in
    (record { lo = lo; hi = hi; ordered = o }, interval_from-some lo hi o, (l, h))

low_behind : (points : List Dyadic) (k : ℕ) → low_end points (k + 1) ≡ At (point_of points k)
low_behind points k = let e : (k + 1) - 1 ≡ k = omega arith in
    let z : ((k + 1) == 0) ≡ false = grind arith in rw (z, e) refl

high_last : (points : List Dyadic) (k : ℕ) → k ≡ length points → high_end points k ≡ High
high_last points k e = let z : (k == length points) ≡ true = grind arith in rw z refl

high_before : (points : List Dyadic) (k : ℕ) → k < length points
    → high_end points k ≡ At (point_of points k)
high_before points k l = let z : (k == length points) ≡ false = grind arith in rw z refl

-- from piece k on, with so many left
covers_from : (points : List Dyadic) (x : Fraction) (left k : ℕ)
    → k + left ≡ length points → IsFrom (bound_of (low_end points k)) x
    → (j : ℕ) × (k ≤ j) × (j ≤ length points) × LiesIn points j x
covers_from points x zero k e l = (
  k,
  omega arith,
  omega arith,
  between (low_end points k) (high_end points k) x l (rw (high_last points k (omega arith)) tt),
)
covers_from points x (suc left) k e l = ⊎_elim
    (λ b. (
      k,
      omega arith,
      omega arith,
      between (low_end points k)
          (high_end points k) x l (rw (high_before points k (omega arith)) b),
    ))
    (λ b. let r = covers_from points x left (k + 1) (omega arith) (rw (low_behind points k)
    (lt_le (value_of (point_of points k)) x b)) in (r.0, omega (arith, r.1), r.2, r.3))
    (le_or_lt x (value_of (point_of points k)))

pub covers : (points : List Dyadic) (x : Fraction)
    → (j : ℕ) × (j ≤ length points) × LiesIn points j x
covers points x = let r = covers_from points x (length points) 0 (omega arith) tt in (r.0, r.2, r.3)
