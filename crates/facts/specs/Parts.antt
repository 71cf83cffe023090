-- Intervals as those of absolute values and of relative errors.
use Rattle.std.specs.Prelude.{◌≡◌, Option, Some, None, if◌then◌else◌}
use Rattle.std.specs.Int.RustNames.{int_lt}
use Rattle.std.proofs.Common.{sym, ap}
use Rattle.fx_model.specs.Fraction.{zero_ℚ, one_ℚ, neg_ℚ}
use Rattle.fx_model.specs.Grid.{At, le_bound}
use Rattle.dyadic.specs.Compared.{BoundLe_in, BoundLe_out}
use Rattle.interval.specs.declared.interval.Interval.{Interval}
use Rattle.interval.specs.Intervals.{range_of}
use Rattle.interval.specs.Results.{half_line}
use Rattle.interval.specs.Decided.{made, made-some, made-none, made_out}
use Rattle.interval.specs.Meets.{common_of}
use Rattle.facts.specs.declared.size.Size.{Size}
use Rattle.facts.specs.declared.relative.RelativeError.{RelativeError}
use Rattle.facts.specs.declared.place.FixPlace.{FixPlace}
use Rattle.facts.specs.Ranges.{IsFromZero, IsFromZero-prop, IsAboveMinusOne, IsAboveMinusOne-prop}
use Rattle.facts.specs.Ranges.{is_below, is_below_in, is_below_out}

-- ---- absolute values
abbrev sized : (i : Interval) → IsFromZero (range_of i) → Size
sized i z = record { interval = i; from_zero = z }

-- the interval as one of absolute values; none where its lower end is below 0
pub size_from : Interval → Option Size
size_from i = made (λ i. IsFromZero (range_of i)) (λ i. IsFromZero-prop (range_of i))
    (λ i. le_bound (At zero_ℚ) (range_of i).low)
    (λ i e. BoundLe_in (At zero_ℚ) (range_of i).low e)
    (λ i z. BoundLe_out (At zero_ℚ) (range_of i).low z) sized i

pub size_from-some : (i : Interval) (z : IsFromZero (range_of i))
    → size_from i ≡ Some (record { interval = i; from_zero = z })
unfolding size_from
size_from-some i z = made-some (λ i. IsFromZero (range_of i)) (λ i. IsFromZero-prop (range_of i))
    (λ i. le_bound (At zero_ℚ) (range_of i).low)
    (λ i e. BoundLe_in (At zero_ℚ) (range_of i).low e)
    (λ i z. BoundLe_out (At zero_ℚ) (range_of i).low z) sized i z

pub size_from-none : (i : Interval) → ¬ IsFromZero (range_of i) → size_from i ≡ None
unfolding size_from
size_from-none i n = made-none (λ i. IsFromZero (range_of i)) (λ i. IsFromZero-prop (range_of i))
    (λ i. le_bound (At zero_ℚ) (range_of i).low)
    (λ i e. BoundLe_in (At zero_ℚ) (range_of i).low e)
    (λ i z. BoundLe_out (At zero_ℚ) (range_of i).low z) sized i n

pub size_from_out : (i : Interval) (s : Size) → size_from i ≡ Some s → s.interval ≡ i
unfolding size_from
size_from_out i s q = sym (ap (λ (t : Size). t.interval) (made_out (λ i. IsFromZero (range_of i))
    (λ i. IsFromZero-prop (range_of i)) (λ i. le_bound (At zero_ℚ) (range_of i).low)
    (λ i e. BoundLe_in (At zero_ℚ) (range_of i).low e)
    (λ i z. BoundLe_out (At zero_ℚ) (range_of i).low z) sized i s q).1)

-- ---- relative errors
abbrev erring : (i : Interval) → IsAboveMinusOne (range_of i) → RelativeError
erring i z = record { interval = i; above_minus_one = z }

-- the interval as one of relative errors; none where its lower end isn't above -1
pub error_from : Interval → Option RelativeError
error_from i = made (λ i. IsAboveMinusOne (range_of i)) (λ i. IsAboveMinusOne-prop (range_of i))
    (λ i. is_below (neg_ℚ one_ℚ) (range_of i).low)
    (λ i e. is_below_in (neg_ℚ one_ℚ) (range_of i).low e)
    (λ i z. is_below_out (neg_ℚ one_ℚ) (range_of i).low z) erring i

pub error_from-some : (i : Interval) (z : IsAboveMinusOne (range_of i))
    → error_from i ≡ Some (record { interval = i; above_minus_one = z })
unfolding error_from
error_from-some i z = made-some (λ i. IsAboveMinusOne (range_of i))
    (λ i. IsAboveMinusOne-prop (range_of i)) (λ i. is_below (neg_ℚ one_ℚ) (range_of i).low)
    (λ i e. is_below_in (neg_ℚ one_ℚ) (range_of i).low e)
    (λ i z. is_below_out (neg_ℚ one_ℚ) (range_of i).low z) erring i z

pub error_from-none : (i : Interval) → ¬ IsAboveMinusOne (range_of i) → error_from i ≡ None
unfolding error_from
error_from-none i n = made-none (λ i. IsAboveMinusOne (range_of i))
    (λ i. IsAboveMinusOne-prop (range_of i)) (λ i. is_below (neg_ℚ one_ℚ) (range_of i).low)
    (λ i e. is_below_in (neg_ℚ one_ℚ) (range_of i).low e)
    (λ i z. is_below_out (neg_ℚ one_ℚ) (range_of i).low z) erring i n

pub error_from_out : (i : Interval) (s : RelativeError) → error_from i ≡ Some s → s.interval ≡ i
unfolding error_from
error_from_out i s q =
    sym (ap (λ (t : RelativeError). t.interval) (made_out (λ i. IsAboveMinusOne (range_of i))
    (λ i. IsAboveMinusOne-prop (range_of i)) (λ i. is_below (neg_ℚ one_ℚ) (range_of i).low)
    (λ i e. is_below_in (neg_ℚ one_ℚ) (range_of i).low e)
    (λ i z. is_below_out (neg_ℚ one_ℚ) (range_of i).low z) erring i s q).1)

-- ---- common parts
abbrev pub size_of_part : Option Interval → Option Size
size_of_part None = None
size_of_part (Some i) = size_from i

-- The common interval as a relative error; none where there is none, or it isn't wholly above -1.
abbrev pub error_of_part : Option Interval → Option RelativeError
error_of_part None = None
error_of_part (Some i) = error_from i

-- the common sizes of two, or none
abbrev pub common_size : Size → Size → Option Size
common_size s t = size_of_part (common_of s.interval t.interval)

-- the common relative errors of two; where one is that both sides are 0, or there are none, that is
-- left
abbrev pub common_error : Option RelativeError → Option RelativeError → Option RelativeError
common_error (Some d) (Some e) = error_of_part (common_of d.interval e.interval)
common_error _ _ = None

-- the greater of two exponents
abbrev pub greater_place : FixPlace → FixPlace → FixPlace
greater_place k n = if int_lt k.exponent n.exponent then n else k

-- what of an interval is at least 0, as an interval of absolute values; none where it lies below 0
abbrev pub size_within : Interval → Option Size
size_within i = size_of_part (common_of i half_line)
