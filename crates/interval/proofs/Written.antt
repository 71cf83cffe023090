-- The value of a literal as a whole number over a power of ten, and the set that a number makes
-- alone.
use lib.IntN.{neg_ℤ}
use Rattle.std.specs.Prelude.{◌≡◌, ℕ, ℤ, pos, negsuc, ◌*◌, ◌*ℤ◌, ◌+◌, ◌^◌, ◌<◌, ◌<ℤ◌, ◌≤ℤ◌, Bool}
use Rattle.std.specs.Prelude.{true, false}
use Rattle.std.proofs.Common.{arith, refl, sym, subst, ap, ◌∙◌, ◌≤◌, to_z, of_z, w32}
use Rattle.std.specs.Int.RustNames.{unsigned_abs}
use Rattle.std.proofs.lemmas.Int.{ints}
use Rattle.std.proofs.Math.Nat.{pow-le-pow_right}
use Rattle.fx_model.specs.Fraction.{Fraction, ◌*ℚ◌, ◌≤ℚ◌, zero_ℚ, one_ℚ, neg_ℚ, inverse_ℚ, le_refl}
use Rattle.fx_model.specs.Fraction.{mul_comm, mul_assoc, one-mul, mul-inverse, mul-neg}
use Rattle.fx_model.specs.Powers.{whole, two_to, scaled, whole-mul, one-whole}
use Rattle.fx_model.specs.Grid.{Bound, IsDown, IsUp, signed, scaled-neg}
use Rattle.fx_model.specs.Enclosure.{IsEnclosure, IsOrdered, infimum_at, supremum_at}
use Rattle.fx_model.specs.Enclosure.{enclosure_ordered}
use Rattle.fx_model.specs.Expression.{literal_value, ten_to}
use Rattle.fx_model.specs.declared.Literal.{Literal}
use Rattle.grid_words.specs.Signs.{not_zero}
use Rattle.literal.specs.Normal.{IsNormal}
use Rattle.literal.proofs.Limits.{bounded}
use Rattle.literal.proofs.Tens.{whole_positive, pow_positive}
use Rattle.interval.specs.Literals.{Alone}

-- ---- the value as a quotient
parts_up : (l : Literal) (k n : ℕ) → l.ten ≡ pos k → n ≡ l.num * 10 ^ k
    → whole (pos 1) *ℚ literal_value l ≡ scaled (pos n) l.two
parts_up l k n e p = ap (λ y. y *ℚ literal_value l) (sym one-whole) ∙ one-mul (literal_value l)
    ∙ ap (λ t. (whole (pos l.num) *ℚ two_to l.two) *ℚ ten_to t) e
    ∙ mul_assoc (whole (pos l.num)) (two_to l.two) (whole (pos (10 ^ k)))
    ∙ ap (λ y. whole (pos l.num) *ℚ y) (mul_comm (two_to l.two) (whole (pos (10 ^ k))))
    ∙ sym (mul_assoc (whole (pos l.num)) (whole (pos (10 ^ k))) (two_to l.two))
    ∙ ap (λ y. y *ℚ two_to l.two) (sym (whole-mul (pos l.num) (pos (10 ^ k))))
    ∙ ap (λ m. scaled m l.two) product
  where
    product : pos l.num *ℤ pos (10 ^ k) ≡ pos n
    product = ap pos (sym p)

quotient_back : (w s : Fraction) → ¬ (w ≡ zero_ℚ) → w *ℚ (s *ℚ inverse_ℚ w) ≡ s
quotient_back w s n = mul_comm w (s *ℚ inverse_ℚ w) ∙ mul_assoc s (inverse_ℚ w) w
    ∙ ap (λ y. s *ℚ y) (mul_comm (inverse_ℚ w) w ∙ mul-inverse w n) ∙ mul_comm s one_ℚ ∙ one-mul s

over_whole : (n : ℕ) (s : Fraction) → 0 < n → whole (pos n) *ℚ (s *ℚ inverse_ℚ (whole (pos n))) ≡ s
over_whole n s h = quotient_back (whole (pos n)) s (not_zero (whole (pos n)) (whole_positive n h))

parts_down : (l : Literal) (k n : ℕ) → l.ten ≡ negsuc k → n ≡ 10 ^ (k + 1)
    → whole (pos n) *ℚ literal_value l ≡ scaled (pos l.num) l.two
parts_down l k n e p = ap (λ m. whole (pos m) *ℚ literal_value l) p
    ∙ ap (λ t. whole (pos (10 ^ (k + 1))) *ℚ (scaled (pos l.num) l.two *ℚ ten_to t)) e
    ∙ over_whole (10 ^ (k + 1)) (scaled (pos l.num) l.two) (pow_positive 10 (k + 1) (omega arith))

-- ---- by the sign of the tens
pub value_down : (l : Literal) (n : ℕ) → l.ten <ℤ pos 0 → n ≡ 10 ^ unsigned_abs l.ten
    → whole (pos n) *ℚ literal_value l ≡ scaled (pos l.num) l.two
value_down l n h p = by l.ten refl h p
  where
    by : (t : ℤ) → l.ten ≡ t → t <ℤ pos 0 → n ≡ 10 ^ unsigned_abs t
        → whole (pos n) *ℚ literal_value l ≡ scaled (pos l.num) l.two
    by (pos k) e h p = absurd (omega (arith, ints))
    by (negsuc k) e h p = parts_down l k n e (p ∙ ap (λ j. 10 ^ j) (omega arith))

pub value_up : (l : Literal) (p : ℕ) → pos 0 ≤ℤ l.ten → p ≡ 10 ^ unsigned_abs l.ten
    → whole (pos 1) *ℚ literal_value l ≡ scaled (pos (l.num * p)) l.two
value_up l p h e = by l.ten refl h e
  where
    by : (t : ℤ) → l.ten ≡ t → pos 0 ≤ℤ t → p ≡ 10 ^ unsigned_abs t
        → whole (pos 1) *ℚ literal_value l ≡ scaled (pos (l.num * p)) l.two
    by (pos k) d h e = parts_up l k (l.num * p) d (ap (λ m. l.num * m) e)
    by (negsuc k) d h e = absurd (omega (arith, ints))

pub with_tens_small : (l : Literal) (p : ℕ) → IsNormal l → pos 0 ≤ℤ l.ten
    → p ≡ 10 ^ unsigned_abs l.ten → l.num * p ≤ 100000000000000000000000000000000000000
with_tens_small l p s h e = by l.ten refl h e
  where
    by : (t : ℤ) → l.ten ≡ t → pos 0 ≤ℤ t → p ≡ 10 ^ unsigned_abs t
        → l.num * p ≤ 100000000000000000000000000000000000000
    by (pos k) d h e = let b = (bounded l s).with_tens k d in rw e (omega arith)
    by (negsuc k) d h e = absurd (omega (arith, ints))

pub power_fits : (k : ℕ) → k ≤ 38 → 10 ^ k ≤ 100000000000000000000000000000000000000
power_fits k h = pow-le-pow_right {n = 10} (omega arith) h

pub divisor_fits : (k : ℕ) → k ≤ 30 → 10 ^ k ≤ 1000000000000000000000000000000
divisor_fits k h = pow-le-pow_right {n = 10} (omega arith) h

pub divisor_some : (n k : ℕ) → n ≡ 10 ^ k → 0 < n
divisor_some n k e = rw e (pow_positive 10 k (omega arith))

pub signed_ratio : (b : Bool) (d v : Fraction) (n : ℤ) (size : ℕ) (two : ℤ)
    → (b ≡ false → n ≡ pos size) → (b ≡ true → n ≡ neg_ℤ (pos size))
    → d *ℚ v ≡ scaled (pos size) two → d *ℚ signed b v ≡ scaled n two
signed_ratio false d v n size two p q e = e ∙ ap (λ m. scaled m two) (sym (p refl))
signed_ratio true d v n size two p q e = mul-neg d v ∙ ap neg_ℚ e ∙ sym (scaled-neg (pos size) two)
    ∙ ap (λ m. scaled m two) (sym (q refl))

-- ---- one number alone
pub alone_enclosed : (x : Fraction) (b c : Bound) → IsDown x b → IsUp x c
    → IsEnclosure (Alone x) (record { low = b; high = c })
alone_enclosed x b c d u = record {
  low = infimum_at (Alone x) x b refl (λ z e. subst (λ y. x ≤ℚ y) (sym e) (le_refl x)) d;
  high = supremum_at (Alone x) x c refl (λ z e. subst (λ y. y ≤ℚ x) (sym e) (le_refl x)) u;
}

-- the roundings of a quotient make an interval
pub rounded_ordered : (d : ℕ) (s : Fraction) (b c : Bound)
    → 0 < d → ((x : Fraction) → whole (pos d) *ℚ x ≡ s → IsDown x b)
    → ((x : Fraction) → whole (pos d) *ℚ x ≡ s → IsUp x c) → IsOrdered b c
rounded_ordered d s b c h f g = let x = s *ℚ inverse_ℚ (whole (pos d)) in
    let e = over_whole d s h in
    enclosure_ordered (Alone x)
    (record { low = b; high = c }) x refl (alone_enclosed x b c (f x e) (g x e))

-- the same number, in other words for its parts
pub restated : (y : Fraction) (n m t u : ℤ) → m ≡ n → u ≡ t → y ≡ scaled n t → y ≡ scaled m u
restated y n m t u p q e = e ∙ ap (λ k. scaled k t) (sym p) ∙ ap (λ k. scaled m k) (sym q)

-- the exponents as the code keeps them
pub ten_is : (l : Literal) → IsNormal l → to_z w32 (of_z w32 l.ten) ≡ l.ten
ten_is l n = let low = (bounded l n).ten_low in
    let high = (bounded l n).ten_high in omega (arith, ints)

pub two_is : (l : Literal) → IsNormal l → to_z w32 (of_z w32 l.two) ≡ l.two
two_is l n = let low = (bounded l n).two_low in
    let high = (bounded l n).two_high in omega (arith, ints)
