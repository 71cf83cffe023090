-- The least interval of the multiples in an interval, from its ends moved to multiples.
use lib.IntN.{neg_ℤ}
use Rattle.std.specs.Prelude.{◌≡◌, ℤ, pos, ◌+ℤ◌}
use Rattle.std.proofs.Common.{arith, refl, sym, subst, ap, ◌∙◌}
use Rattle.std.proofs.lemmas.Int.{ints}
use Rattle.fx_model.specs.Fraction.{Fraction, ◌*ℚ◌, ◌≤ℚ◌, ◌+ℚ◌, ◌-ℚ◌, zero_ℚ, one_ℚ, neg_ℚ}
use Rattle.fx_model.specs.Fraction.{le_trans, le_refl, lt_le, lt_not, mul_assoc, mul_comm, one-mul}
use Rattle.fx_model.specs.Fraction.{floor_ℚ, minus_one, plus_one}
use Rattle.fx_model.specs.Powers.{whole, two_to, scaled, IsMultiple, scaled-zero, two_to-add}
use Rattle.fx_model.specs.Powers.{two_to-pos, two_to-positive, one-whole, floor_low}
use Rattle.fx_model.specs.Grid.{Bound, Below, At, Above, scaled-neg, neg_over}
use Rattle.fx_model.specs.Enclosure.{Range, IsFrom, IsUpTo, Lies, MultiplesIn, IsInfimum}
use Rattle.fx_model.specs.Enclosure.{IsSupremum, IsEnclosure, IsOrdered, infimum_at, supremum_at}
use Rattle.fx_model.specs.Enclosure.{member_of, ordered_by, deep, far, low_lies, high_lies}
use Rattle.fx_model.specs.Enclosure.{lower_up_to, higher_from}
use Rattle.grid_words.specs.Signs.{times_up}
use Rattle.dyadic.specs.Made.{IsGridBound}
use Rattle.interval.specs.Multiples.{IsEndDown, IsEndUp}

-- ---- the ends moved to multiples keep the multiples
from_up : (k : ℤ) (b c : Bound) (x : Fraction) → IsEndUp k b c → IsMultiple k x
    → IsFrom b x → IsFrom c x
from_up k Below c x u m f = subst (λ e. IsFrom e x) (sym u) f
from_up k (At g) Below x u m f = absurd u
from_up k (At g) (At h) x u m f = u.least x m f
from_up k (At g) Above x u m f = absurd u
from_up k Above c x u m f = absurd f

from_out : (k : ℤ) (b c : Bound) (x : Fraction) → IsEndUp k b c → IsFrom c x → IsFrom b x
from_out k Below c x u f = tt
from_out k (At g) Below x u f = absurd u
from_out k (At g) (At h) x u f = le_trans g h x u.above f
from_out k (At g) Above x u f = absurd u
from_out k Above c x u f = subst (λ e. IsFrom e x) u f

to_down : (k : ℤ) (b c : Bound) (x : Fraction) → IsEndDown k b c → IsMultiple k x
    → IsUpTo b x → IsUpTo c x
to_down k Below c x u m f = absurd f
to_down k (At g) Below x u m f = absurd u
to_down k (At g) (At h) x u m f = u.greatest x m f
to_down k (At g) Above x u m f = absurd u
to_down k Above c x u m f = subst (λ e. IsUpTo e x) (sym u) f

to_out : (k : ℤ) (b c : Bound) (x : Fraction) → IsEndDown k b c → IsUpTo c x → IsUpTo b x
to_out k Below c x u f = subst (λ e. IsUpTo e x) u f
to_out k (At g) Below x u f = absurd u
to_out k (At g) (At h) x u f = le_trans x h g f u.below
to_out k (At g) Above x u f = absurd u
to_out k Above c x u f = tt

low_multiple : (k : ℤ) (b : Bound) (m : Fraction) → IsEndUp k b (At m) → IsMultiple k m
low_multiple k Below m u = absurd (let e : At m ≡ Below = u in cc)
low_multiple k (At g) m u = u.multiple
low_multiple k Above m u = absurd (let e : At m ≡ Above = u in cc)

high_multiple : (k : ℤ) (b : Bound) (m : Fraction) → IsEndDown k b (At m) → IsMultiple k m
high_multiple k Below m u = absurd (let e : At m ≡ Below = u in cc)
high_multiple k (At g) m u = u.multiple
high_multiple k Above m u = absurd (let e : At m ≡ Above = u in cc)

-- ---- some multiple below any number
one_back : (k : ℤ) → two_to (neg_ℤ k) *ℚ two_to k ≡ one_ℚ
one_back k = sym (two_to-add (neg_ℤ k) k)
    ∙ ap two_to (let e : neg_ℤ k +ℤ k ≡ pos 0 = omega (arith, ints) in e)
    ∙ two_to-pos 0 ∙ sym one-whole

multiple_below : (k : ℤ) (x : Fraction) → (m : ℤ) × (scaled m k ≤ℚ x)
multiple_below k x = let m = floor_ℚ (x *ℚ two_to (neg_ℤ k)) in (
  m,
  subst (λ y. scaled m k ≤ℚ y) (mul_assoc x (two_to (neg_ℤ k)) (two_to k)
      ∙ ap (λ y. x *ℚ y) (one_back k) ∙ mul_comm x one_ℚ ∙ one-mul x)
      (times_up (whole m) (x *ℚ two_to (neg_ℤ k)) (two_to k) (floor_low (x *ℚ two_to (neg_ℤ k)))
      (lt_le zero_ℚ (two_to k) (two_to-positive k))),
)

multiple_over : (k : ℤ) (x : Fraction) → (m : ℤ) × (x ≤ℚ scaled m k)
multiple_over k x = let d = multiple_below k (neg_ℚ x) in
    (neg_ℤ d.0, subst (λ y. x ≤ℚ y) (sym (scaled-neg d.0 k)) (neg_over (scaled d.0 k) x d.1))

low_open : (k : ℤ) (b : Bound) → IsEndUp k b Below → b ≡ Below
low_open k Below u = refl
low_open k (At g) u = absurd u
low_open k Above u = sym u

high_open : (k : ℤ) (b : Bound) → IsEndDown k b Above → b ≡ Above
high_open k Below u = sym u
high_open k (At g) u = absurd u
high_open k Above u = refl

-- ---- the multiples in an interval, from its ends moved to multiples
module _ (k : ℤ) (r t : Range) (o : IsOrdered r.low r.high) (u : IsEndUp k r.low t.low)
    (v : IsEndDown k r.high t.high) where
  multiple_in : (x : Fraction) → MultiplesIn k r x → Lies t x
  multiple_in x m = (from_up k r.low t.low x u m.1 m.0.0, to_down k r.high t.high x v m.1 m.0.1)

  lies_out : (x : Fraction) → Lies t x → Lies r x
  lies_out x l = (from_out k r.low t.low x u l.0, to_out k r.high t.high x v l.1)

  pub shrunk_ordered : (x : Fraction) → MultiplesIn k r x → IsOrdered t.low t.high
  shrunk_ordered x m = let l = multiple_in x m in ordered_by t.low t.high x l.0 l.1

  pub some_multiple : IsOrdered t.low t.high → (x : Fraction) × MultiplesIn k r x
  some_multiple i = by t.low t.high refl refl i
    where
      by : (b c : Bound) → t.low ≡ b → t.high ≡ c → IsOrdered b c
          → (x : Fraction) × MultiplesIn k r x
      by Below Below p q j = absurd j
      by Below (At m) p q j = (
        m,
        (
          lies_out m (high_lies t m i q),
          high_multiple k r.high m (subst (λ e. IsEndDown k r.high e) q v),
        ),
      )
      by Below Above p q j = (
        zero_ℚ,
        (
          lies_out zero_ℚ
              (subst (λ e. IsFrom e zero_ℚ) (sym p) tt, subst (λ e. IsUpTo e zero_ℚ) (sym q) tt),
          (pos 0, sym (scaled-zero k)),
        ),
      )
      by (At m) c p q j = (
        m,
        (
          lies_out m (low_lies t m i p),
          low_multiple k r.low m (subst (λ e. IsEndUp k r.low e) p u),
        ),
      )
      by Above c p q j = absurd j

  shrink_low : (b : Bound) → t.low ≡ b → IsGridBound b → IsOrdered t.low t.high
      → IsInfimum (MultiplesIn k r) b
  shrink_low Below p g i = λ h q c. let m = member_of r.low r.high o in
      let e = low_open k r.low (subst (λ e. IsEndUp k r.low e) p u) in
      let d = deep r m.0 (h -ℚ one_ℚ) e (m.1, m.2) in let n = multiple_below k d.0 in
      lt_not (h -ℚ one_ℚ) h (minus_one h) (le_trans h (scaled n.0 k) (h -ℚ one_ℚ)
      (c (scaled n.0 k) (
        (
          subst (λ e. IsFrom e (scaled n.0 k)) (sym e) tt,
          lower_up_to r.high (scaled n.0 k) d.0 n.1 d.1.1,
        ),
        (n.0, refl),
      )) (le_trans (scaled n.0 k) d.0 (h -ℚ one_ℚ) n.1 d.2))
  shrink_low (At m) p g i = infimum_at (MultiplesIn k r) m (At m)
      (lies_out m (low_lies t m i p), low_multiple k r.low m (subst (λ e. IsEndUp k r.low e) p u))
      (λ x n. subst (λ e. IsFrom e x) p (multiple_in x n).0) (g, le_refl m, λ h q l. l)
  shrink_low Above p g i = subst (λ e. IsOrdered e t.high) p i

  shrink_high : (b : Bound) → t.high ≡ b → IsGridBound b → IsOrdered t.low t.high
      → IsSupremum (MultiplesIn k r) b
  shrink_high Above p g i = λ h q c. let m = member_of r.low r.high o in
      let e = high_open k r.high (subst (λ e. IsEndDown k r.high e) p v) in
      let d = far r m.0 (h +ℚ one_ℚ) e (m.1, m.2) in let n = multiple_over k d.0 in
      lt_not h (h +ℚ one_ℚ) (plus_one h)
      (le_trans (h +ℚ one_ℚ) (scaled n.0 k) h (le_trans (h +ℚ one_ℚ) d.0 (scaled n.0 k) d.2 n.1)
      (c (scaled n.0 k) (
        (
          higher_from r.low (scaled n.0 k) d.0 n.1 d.1.0,
          subst (λ e. IsUpTo e (scaled n.0 k)) (sym e) tt,
        ),
        (n.0, refl),
      )))
  shrink_high (At m) p g i = supremum_at (MultiplesIn k r) m (At m) (
    lies_out m (high_lies t m i p),
    high_multiple k r.high m (subst (λ e. IsEndDown k r.high e) p v),
  )
      (λ x n. subst (λ e. IsUpTo e x) p (multiple_in x n).1) (g, le_refl m, λ h q l. l)
  shrink_high Below p g i = let n = member_of t.low t.high i in subst (λ e. IsUpTo e n.0) p n.2

  pub shrunk_is : IsOrdered t.low t.high → IsGridBound t.low → IsGridBound t.high
      → IsEnclosure (MultiplesIn k r) t
  shrunk_is i g h = record { low = shrink_low t.low refl g i; high = shrink_high t.high refl h i }
