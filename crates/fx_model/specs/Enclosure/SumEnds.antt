-- The enclosure of the sums, by the ends of the parts.
use Rattle.std.specs.Prelude.{◌≡◌}
use Rattle.std.proofs.Common.{sym, subst, refl, ◌∙◌}
use Rattle.fx_model.specs.Fraction.{Fraction, ◌+ℚ◌, ◌-ℚ◌, ◌≤ℚ◌, one_ℚ, le_trans, le_refl, lt_not}
use Rattle.fx_model.specs.Fraction.{add-le-add, under, over, add_comm}
use Rattle.fx_model.specs.Grid.{Bound, Below, At, Above, IsDown, IsUp}
use Rattle.fx_model.specs.Enclosure.Sets.{Range, IsFrom, IsUpTo, Lies, IsInfimum, IsSupremum, Sums}
use Rattle.fx_model.specs.Enclosure.Sets.{IsSum}
use Rattle.fx_model.specs.Enclosure.Attained.{infimum_at, supremum_at}
use Rattle.fx_model.specs.Enclosure.Members.{deep, far}

-- ---- sums
pub sum_low : (r s : Range) (g h : Fraction) (b : Bound) → r.low ≡ At g → s.low ≡ At h
    → IsUpTo r.high g → IsUpTo s.high h → IsDown (g +ℚ h) b → IsInfimum (Sums r s) b
sum_low r s g h b p q i j d = infimum_at (Sums r s)
    (g +ℚ h) b (g, h, (from_end r.low g p, i), (from_end s.low h q, j), refl) least d
  where
    from_end : (e : Bound) (g : Fraction) → e ≡ At g → IsFrom e g
    from_end e g p = subst (λ e. IsFrom e g) (sym p) (le_refl g)

    least : (z : Fraction) → Sums r s z → (g +ℚ h) ≤ℚ z
    least z t = subst (λ z. (g +ℚ h) ≤ℚ z) (sym t.4) (add-le-add g h t.0 t.1
        (subst (λ e. IsFrom e t.0) p t.2.0) (subst (λ e. IsFrom e t.1) q t.3.0))

-- ---- where one lower end is infinite, no number is below every sum
pub sum_low_infinite : (r s : Range) (x y : Fraction) → r.low ≡ Below → Lies r x → Lies s y
    → IsInfimum (Sums r s) Below
sum_low_infinite r s x y p i j = λ h o k. let d = deep r x ((h -ℚ y) -ℚ one_ℚ) p i in
    lt_not (((h -ℚ y) -ℚ one_ℚ) +ℚ y) h (under h y)
    (le_trans h (d.0 +ℚ y) (((h -ℚ y) -ℚ one_ℚ) +ℚ y) (k (d.0 +ℚ y) (d.0, y, d.1, j, refl))
    (add-le-add d.0 y ((h -ℚ y) -ℚ one_ℚ) y d.2 (le_refl y)))

-- ---- the other end, by the negatives
pub sum_high : (r s : Range) (g h : Fraction) (b : Bound) → r.high ≡ At g → s.high ≡ At h
    → IsFrom r.low g → IsFrom s.low h → IsUp (g +ℚ h) b → IsSupremum (Sums r s) b
sum_high r s g h b p q i j d = supremum_at (Sums r s)
    (g +ℚ h) b (g, h, (i, to_end r.high g p), (j, to_end s.high h q), refl) most d
  where
    to_end : (e : Bound) (g : Fraction) → e ≡ At g → IsUpTo e g
    to_end e g p = subst (λ e. IsUpTo e g) (sym p) (le_refl g)

    most : (z : Fraction) → Sums r s z → z ≤ℚ (g +ℚ h)
    most z t = subst (λ z. z ≤ℚ (g +ℚ h)) (sym t.4) (add-le-add t.0 t.1 g h
        (subst (λ e. IsUpTo e t.0) p t.2.1) (subst (λ e. IsUpTo e t.1) q t.3.1))

-- ---- the ends of a sum, from the ends of its parts
abbrev pub LowSum : Bound → Bound → Bound → Type 0
LowSum (At g) (At h) b = IsDown (g +ℚ h) b
LowSum (At g) Below b = b ≡ Below
LowSum (At g) Above b = b ≡ Below
LowSum Below c b = b ≡ Below
LowSum Above c b = b ≡ Below

-- The third is the upper end for sums of ranges with the first two as upper ends: infinite where
-- either is, else rounded up.
abbrev pub HighSum : Bound → Bound → Bound → Type 0
HighSum (At g) (At h) b = IsUp (g +ℚ h) b
HighSum (At g) Below b = b ≡ Above
HighSum (At g) Above b = b ≡ Above
HighSum Below c b = b ≡ Above
HighSum Above c b = b ≡ Above

pub sum_high_infinite : (r s : Range) (x y : Fraction) → r.high ≡ Above → Lies r x → Lies s y
    → IsSupremum (Sums r s) Above
sum_high_infinite r s x y p i j = λ h o k. let d = far r x ((h -ℚ y) +ℚ one_ℚ) p i in
    lt_not h (((h -ℚ y) +ℚ one_ℚ) +ℚ y) (over h y) (le_trans (((h -ℚ y) +ℚ one_ℚ) +ℚ y) (d.0 +ℚ y) h
    (add-le-add ((h -ℚ y) +ℚ one_ℚ) y d.0 y d.2 (le_refl y)) (k (d.0 +ℚ y) (d.0, y, d.1, j, refl)))

swap_sums : (r s : Range) (z : Fraction) → Sums r s z → Sums s r z
swap_sums r s z t = (t.1, t.0, t.3, t.2, t.4 ∙ add_comm t.0 t.1)

low_swap : (r s : Range) → IsInfimum (Sums r s) Below → IsInfimum (Sums s r) Below
low_swap r s i = λ h o k. i h o (λ z t. k z (swap_sums r s z t))

high_swap : (r s : Range) → IsSupremum (Sums r s) Above → IsSupremum (Sums s r) Above
high_swap r s i = λ h o k. i h o (λ z t. k z (swap_sums r s z t))

-- the lower end of a sum
low_is : (r s : Range) (x y : Fraction) (a c b : Bound) → Lies r x → Lies s y → r.low ≡ a
    → s.low ≡ c → LowSum a c b → IsInfimum (Sums r s) b
low_is r s x y (At g) (At h) b i j p q d =
    sum_low r s g h b p q (lower_in r x g i p) (lower_in s y h j q) d
  where
    lower_in : (r : Range) (x g : Fraction) → Lies r x → r.low ≡ At g → IsUpTo r.high g
    lower_in r x g i p = fits r.high (subst (λ e. IsFrom e x) p i.0) i.1
      where
        fits : (e : Bound) → g ≤ℚ x → IsUpTo e x → IsUpTo e g
        fits Below l u = u
        fits (At k) l u = le_trans g x k l u
        fits Above l u = u
low_is r s x y (At g) Below b i j p q d =
    subst (λ b. IsInfimum (Sums r s) b) (sym d) (low_swap s r (sum_low_infinite s r y x q j i))
low_is r s x y (At g) Above b i j p q d = absurd (subst (λ e. IsFrom e y) q j.0)
low_is r s x y Below c b i j p q d =
    subst (λ b. IsInfimum (Sums r s) b) (sym d) (sum_low_infinite r s x y p i j)
low_is r s x y Above c b i j p q d = absurd (subst (λ e. IsFrom e x) p i.0)

high_is : (r s : Range) (x y : Fraction) (a c b : Bound) → Lies r x → Lies s y → r.high ≡ a
    → s.high ≡ c → HighSum a c b → IsSupremum (Sums r s) b
high_is r s x y (At g) (At h) b i j p q d =
    sum_high r s g h b p q (upper_in r x g i p) (upper_in s y h j q) d
  where
    upper_in : (r : Range) (x g : Fraction) → Lies r x → r.high ≡ At g → IsFrom r.low g
    upper_in r x g i p = fits r.low (subst (λ e. IsUpTo e x) p i.1) i.0
      where
        fits : (e : Bound) → x ≤ℚ g → IsFrom e x → IsFrom e g
        fits Below l u = u
        fits (At k) l u = le_trans k x g u l
        fits Above l u = u
high_is r s x y (At g) Above b i j p q d =
    subst (λ b. IsSupremum (Sums r s) b) (sym d) (high_swap s r (sum_high_infinite s r y x q j i))
high_is r s x y (At g) Below b i j p q d = absurd (subst (λ e. IsUpTo e y) q j.1)
high_is r s x y Above c b i j p q d =
    subst (λ b. IsSupremum (Sums r s) b) (sym d) (sum_high_infinite r s x y p i j)
high_is r s x y Below c b i j p q d = absurd (subst (λ e. IsUpTo e x) p i.1)

pub sum_is : (r s t : Range) (x y : Fraction) → Lies r x → Lies s y → LowSum r.low s.low t.low
    → HighSum r.high s.high t.high → IsSum r s t
sum_is r s t x y i j l h = record {
  low = low_is r s x y r.low s.low t.low i j refl refl l;
  high = high_is r s x y r.high s.high t.high i j refl refl h;
}
