-- Laws of what specs/Intervals defines.
use mathlib.Core.HLevel.{is_prop→PathP}
use Rattle.std.specs.Prelude.{◌≡◌}
use Rattle.std.proofs.Common.{ap}
use Rattle.fx_model.specs.Enclosure.{Range}
use Rattle.dyadic.proofs.Ends.{same_bound}
use Rattle.interval.specs.declared.interval.Interval.{Interval}
use Rattle.interval.specs.Ends.{AreEnds, AreEnds-prop}
use Rattle.interval.specs.Intervals.{range_of}

-- equal ends make one interval
pub same_ends : (i j : Interval) → i.lo ≡ j.lo → i.hi ≡ j.hi → i ≡ j
same_ends i j p q = λ k. record {
  lo = p k;
  hi = q k;
  ordered = is_prop→PathP (λ k. AreEnds (p k) (q k))
      (λ k. AreEnds-prop (p k) (q k)) i.ordered j.ordered k;
}

-- intervals that stand for one range are the same
pub same_range : (i j : Interval) → range_of i ≡ range_of j → i ≡ j
same_range i j p = same_ends i j (same_bound i.lo j.lo (ap (λ (r : Range). r.low) p))
    (same_bound i.hi j.hi (ap (λ (r : Range). r.high) p))
