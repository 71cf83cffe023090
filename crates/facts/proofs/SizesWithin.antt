-- What of an interval is at least 0, where the interval gets smaller.
use Rattle.std.specs.Prelude.{◌≡◌, Some, None, refl}
use Rattle.std.proofs.Common.{sym, ap, subst, ◌∙◌}
use Rattle.fx_model.specs.Fraction.{Fraction, ◌≤ℚ◌, zero_ℚ}
use Rattle.fx_model.specs.Grid.{At}
use Rattle.fx_model.specs.Enclosure.{Lies, BoundLe, member_of, within_in}
use Rattle.dyadic.proofs.SmallNumbers.{zero_value}
use Rattle.dyadic.specs.Extremes.{BoundLe-refl}
use Rattle.interval.specs.declared.interval.Interval.{Interval}
use Rattle.interval.specs.Intervals.{range_of}
use Rattle.interval.specs.Results.{half_line}
use Rattle.interval.specs.Meets.{common_of}
use Rattle.interval.proofs.Meets.{common-within, within-common, lies-common}
use Rattle.facts.specs.declared.size.Size.{Size}
use Rattle.facts.specs.Parts.{size_from-some, size_from_out, size_of_part, size_within}
use Rattle.facts.specs.Order.{IsWithin}
use Rattle.facts.proofs.CommonParts.{at_option, some-inj}
use Rattle.facts.proofs.Laws.{IsWithin-trans}
use Rattle.facts.proofs.Within.{on_half_line}

-- what lies on the half line is at least 0
pub from_half_line : (x : Fraction) → Lies (range_of half_line) x → zero_ℚ ≤ℚ x
from_half_line x l = subst (λ z. z ≤ℚ x) zero_value l.0

-- some absolute value lies in an interval of them
pub size_member : (s : Size) → (x : Fraction) × Lies (range_of s.interval) x × (zero_ℚ ≤ℚ x)
size_member s =
    let m = member_of (range_of s.interval).low (range_of s.interval).high s.interval.ordered in
    let l : Lies (range_of s.interval) m.0 = (m.1, m.2) in (
      m.0,
      l,
      (within_in (range_of s.interval)
          (record { low = At zero_ℚ; high = (range_of s.interval).high }) m.0
          (s.from_zero, BoundLe-refl (range_of s.interval).high) l).0,
    )

-- what is left of an interval is its common part with the half line
pub size_within_out : (i : Interval) (s : Size) → size_within i ≡ Some s
    → common_of i half_line ≡ Some s.interval
size_within_out i s e =
    at_option (common_of i half_line) (λ o. size_of_part o ≡ Some s → o ≡ Some s.interval)
    (λ _ n. cc) (λ c _ n. ap Some (sym (size_from_out c s n))) e

-- something is left where some number at least 0 lies in the interval
pub size_within-some : (i : Interval) (x : Fraction) → Lies (range_of i) x → zero_ℚ ≤ℚ x
    → (s : Size) × (size_within i ≡ Some s)
size_within-some i x l p =
    let c = lies-common i half_line x l (on_half_line x p) in
    let z : BoundLe (At zero_ℚ) (range_of c.0).low = subst
    (λ y. BoundLe (At y) (range_of c.0).low) zero_value (common-within i half_line c.0 c.1).1.0 in
    (record { interval = c.0; from_zero = z }, ap size_of_part c.1 ∙ size_from-some c.0 z)

-- of two that leave something, the smaller leaves less
pub size_within-within : (i j : Interval) (s t : Size) → IsWithin i j → size_within i ≡ Some s
    → size_within j ≡ Some t → IsWithin s.interval t.interval
size_within-within i j s t w p q =
    let v = common-within i half_line s.interval (size_within_out i s p) in
    let h = within-common s.interval j half_line (IsWithin-trans s.interval i j v.0 w) v.1 in
    subst (IsWithin s.interval) (some-inj h.0 t.interval (sym h.1 ∙ size_within_out j t q)) h.2

-- where the smaller leaves something, the greater does
pub size_within-grows : (i j : Interval) (s : Size) → IsWithin i j → size_within i ≡ Some s
    → (t : Size) × (size_within j ≡ Some t)
size_within-grows i j s w p =
    let m = size_member s in
    let v = common-within i half_line s.interval (size_within_out i s p) in
    size_within-some j m.0 (within_in (range_of s.interval)
    (range_of j) m.0 (IsWithin-trans s.interval i j v.0 w) m.1) m.2

-- where the greater leaves nothing, the smaller doesn't
pub size_within-none : (i j : Interval) → IsWithin i j → size_within j ≡ None → size_within i ≡ None
size_within-none i j w n = at_option (size_within i) (λ o. size_within i ≡ o → o ≡ None)
    (λ _ _. refl) (λ s p _. let t = size_within-grows i j s w p in
    let g : Some t.0 ≡ None = sym t.1 ∙ n in cc) refl

-- a smaller interval that some number at least 0 lies in leaves something, and no more
pub size_within-smaller : (i j : Interval) (t : Size) (x : Fraction)
    → IsWithin i j → Lies (range_of i) x → zero_ℚ ≤ℚ x → size_within j ≡ Some t
    → (s : Size) × (size_within i ≡ Some s) × IsWithin s.interval t.interval
size_within-smaller i j t x w l p q = let s = size_within-some i x l p in
    (s.0, s.1, size_within-within i j s.0 t w s.1 q)
