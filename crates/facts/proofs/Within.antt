-- Laws of what specs/Within defines.
use Rattle.std.specs.Prelude.{◌≡◌, ◌↔◌, Some, None, refl}
use Rattle.std.proofs.Common.{sym, ◌∙◌, ap, subst}
use Rattle.fx_model.specs.Fraction.{Fraction, ◌≤ℚ◌, zero_ℚ}
use Rattle.fx_model.specs.Grid.{At}
use Rattle.fx_model.specs.Enclosure.{Lies, BoundLe, member_of, within_in}
use Rattle.dyadic.proofs.SmallNumbers.{zero_value}
use Rattle.interval.specs.declared.interval.Interval.{Interval}
use Rattle.interval.specs.Intervals.{range_of}
use Rattle.interval.specs.Results.{half_line}
use Rattle.interval.specs.Meets.{common_of}
use Rattle.interval.proofs.Meets.{common-within, lies-common}
use Rattle.facts.specs.declared.size.Size.{Size}
use Rattle.facts.specs.Parts.{size_from-some, size_from_out, size_of_part, size_within}
use Rattle.facts.proofs.CommonParts.{at_option, some-inj}
use Rattle.facts.specs.Within.{LiesFromZero}

-- what lies in the part from 0 on lies in the interval, and is at least 0
part_lies : (i c : Interval) → common_of i half_line ≡ Some c → (x : Fraction)
    → Lies (range_of c) x → LiesFromZero i x
part_lies i c e x l =
    let w = common-within i half_line c e in
    let z = within_in (range_of c) (range_of half_line) x w.1 l in
    (within_in (range_of c) (range_of i) x w.0 l, subst (λ q. q ≤ℚ x) zero_value z.0)

lies_part : (i : Interval) (x : Fraction) → LiesFromZero i x
    → (c : Interval) × (common_of i half_line ≡ Some c) × Lies (range_of c) x
lies_part i x p = lies-common i half_line x p.0 (subst (λ q. q ≤ℚ x) (sym zero_value) p.1, tt)

part_size : (i c : Interval) → common_of i half_line ≡ Some c
    → (s : Size) × (size_within i ≡ Some s) × (s.interval ≡ c)
part_size i c e =
    let z : BoundLe (At zero_ℚ) (range_of c).low =
    subst (λ q. BoundLe (At q) (range_of c).low) zero_value (common-within i half_line c e).1.0 in
    (record { interval = c; from_zero = z }, ap size_of_part e ∙ size_from-some c z, refl)

-- There is none just where nothing in the interval is at least 0.
pub size_within-none : (i : Interval)
    → (size_within i ≡ None) ↔ ((x : Fraction) → ¬ LiesFromZero i x)
size_within-none i = (nothing, none)
  where
    nothing : size_within i ≡ None → (x : Fraction) → ¬ LiesFromZero i x
    nothing n x p =
        let c = lies_part i x p in
        let s = part_size i c.0 c.1 in
        let g : None ≡ Some s.0 = sym n ∙ s.1 in cc

    none : ((x : Fraction) → ¬ LiesFromZero i x) → size_within i ≡ None
    none n = at_option (common_of i half_line) (λ o. common_of i half_line ≡ o
        → size_of_part o ≡ None) (λ e q. refl)
        (λ c e q. let m = member_of (range_of c).low (range_of c).high c.ordered in
        absurd (n m.0 (part_lies i c e m.0 (m.1, m.2)))) refl

-- In it lies what of the interval is at least 0.
pub size_within-some : (i : Interval) (s : Size) → size_within i ≡ Some s → (x : Fraction)
    → Lies (range_of s.interval) x ↔ LiesFromZero i x
size_within-some i s e x = (inner, outer)
  where
    inner : Lies (range_of s.interval) x → LiesFromZero i x
    inner l = at_option (common_of i half_line) (λ o. common_of i half_line ≡ o
        → size_of_part o ≡ Some s → LiesFromZero i x)
        (λ _ q n. cc)
        (λ c h q n. part_lies i c h x
        (subst (λ k. Lies (range_of k) x) (size_from_out c s n) l)) refl e

    outer : LiesFromZero i x → Lies (range_of s.interval) x
    outer p =
        let c = lies_part i x p in
        let t = part_size i c.0 c.1 in
        let same : t.0 ≡ s = some-inj t.0 s (sym t.1 ∙ e) in
        subst (λ (k : Size). Lies (range_of k.interval) x) same
        (subst (λ k. Lies (range_of k) x) (sym t.2) c.2)

-- what is at least 0 lies on the half line
pub on_half_line : (x : Fraction) → zero_ℚ ≤ℚ x → Lies (range_of half_line) x
on_half_line x p = (subst (λ q. q ≤ℚ x) (sym zero_value) p, tt)

-- what lies in the interval and is at least 0 shows that there is a size, and lies in it
pub size_within_holds : (i : Interval) (x : Fraction) → Lies (range_of i) x → zero_ℚ ≤ℚ x
    → (s : Size) × (size_within i ≡ Some s) × Lies (range_of s.interval) x
size_within_holds i x l p =
    let h = lies_part i x (l, p) in
    let s = part_size i h.0 h.1 in
    (s.0, s.1, subst (λ k. Lies (range_of k) x) (sym s.2) h.2)
