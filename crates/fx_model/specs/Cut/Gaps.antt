-- A number that is cut off below a power of two, and that no grid number lies strictly between a
-- full cut and the next.
use borrow.Author.Differences.{up, down, product_is}
use Rattle.std.specs.Prelude.{◌≡◌, ◌⊎◌, ℕ, ℤ, pos, negsuc, ◌+ℤ◌, ◌*ℤ◌, ◌≤ℤ◌, ◌<ℤ◌, ◌*◌, ◌+◌, ◌-◌}
use Rattle.std.specs.Prelude.{◌≤◌, ◌<◌, ◌^◌, Bool, true, false, refl}
use Rattle.std.proofs.Common.{arith, sym, ap, ◌∙◌, subst, ⊎_elim}
use Rattle.std.proofs.Math.Nat.{mul-le-mul_left}
use Rattle.std.proofs.lemmas.Nat.{pow_pos, pow-add}
use Rattle.std.proofs.lemmas.Int.{ints, by_lt_z}
use Rattle.fx_model.specs.Fraction.{Fraction, ◌≤ℚ◌, ◌<ℚ◌, le_refl, lt_le, lt_not, le_lt_trans}
use Rattle.fx_model.specs.Fraction.{lt_le_trans, le_or_lt}
use Rattle.fx_model.specs.Powers.{scaled, scaled-le, scaled-lt, scaled-lt_out, scaled-shift}
use Rattle.fx_model.specs.Grid.{IsOnGrid, At, IsDown, IsUp}

-- x is digits * 2^e, or, where it is inexact, strictly between that and the next.
abbrev pub Cuts : Fraction → ℕ → ℤ → Bool → Type 0
Cuts x digits e false = x ≡ scaled (pos digits) e
Cuts x digits e true = (scaled (pos digits) e <ℚ x) × (x <ℚ scaled (pos (digits + 1)) e)

-- the digits are as many as the grid has, or reach down to its last place
abbrev pub Full : ℕ → ℤ → Type 0
Full digits e = (1152921504606846976 ≤ digits + digits) ⊎ (e ≡ negsuc 511)

pub cut_low : (x : Fraction) (q : ℕ) (e : ℤ) (i : Bool) → Cuts x q e i → scaled (pos q) e ≤ℚ x
cut_low x q e false c = subst (λ y. scaled (pos q) e ≤ℚ y) (sym c) (le_refl (scaled (pos q) e))
cut_low x q e true c = lt_le (scaled (pos q) e) x c.0

pub cut_high : (x : Fraction) (q : ℕ) (e : ℤ) (i : Bool) → Cuts x q e i
    → x <ℚ scaled (pos (q + 1)) e
cut_high x q e false c = subst (λ y. y <ℚ scaled (pos (q + 1)) e) (sym c)
    (scaled-lt (pos q) (pos (q + 1)) e (omega (arith, ints)))
cut_high x q e true c = c.1

-- ---- what a grid number with a lower exponent is below
pub gap : (e f : ℤ) → f <ℤ e → (k : ℕ) × (e ≡ f +ℤ pos (k + 1))
gap e f h = (up e + down f - (up f + down e) - 1, omega (arith, ints))

pub gap_le : (e f : ℤ) → e ≤ℤ f → (k : ℕ) × (f ≡ e +ℤ pos k)
gap_le e f h = (up f + down e - (up e + down f), omega (arith, ints))

pow_twice : (k : ℕ) → 2 ^ (k + 1) ≡ 2 ^ k + 2 ^ k
pow_twice k = pow-add 2 k 1 ∙ omega arith

limit_le : (m : ℤ) (q p : ℕ) → m <ℤ pos 1152921504606846976 → 1152921504606846976 ≤ q + q → 0 < p
    → m ≤ℤ (pos q *ℤ pos (p + p))
limit_le m q p h k l = let e : q + q ≤ q * (p + p) =
    subst (λ n. n ≤ q * (p + p)) (omega arith) (mul-le-mul_left q (two_le p l)) in
    omega (arith, ints, product_is (pos q) (pos (p + p)))
  where
    two_le : (p : ℕ) → 0 < p → 2 ≤ p + p
    two_le p l = omega arith

-- m * 2^f with |m| < 2^60 and f < e is at most q * 2^e with q of 60 bits
finer : (m f e : ℤ) (q : ℕ) → m <ℤ pos 1152921504606846976 → f <ℤ e → 1152921504606846976 ≤ q + q
    → scaled m f ≤ℚ scaled (pos q) e
finer m f e q h l k = let g = gap e f l in
    rw (g.1, scaled-shift (pos q) f (g.0 + 1), pow_twice g.0)
    (scaled-le m (pos q *ℤ pos (2 ^ g.0 + 2 ^ g.0)) f (limit_le m q (2 ^ g.0) h k (pow_pos g.0)))

-- no number of the grid is strictly between q * 2^e and the next
down_step : (q : ℕ) (e m f : ℤ) → Full q e → m <ℤ pos 1152921504606846976 → negsuc 511 ≤ℤ f
    → scaled m f <ℚ scaled (pos (q + 1)) e → scaled m f ≤ℚ scaled (pos q) e
down_step q e m f full h l k =
    by_lt_z f e (λ s. ⊎_elim (λ n. finer m f e q h s n) (λ n. absurd (omega (arith, ints))) full)
    (λ s. same (gap_le e f s))
  where
    same : ((k : ℕ) × (f ≡ e +ℤ pos k)) → scaled m f ≤ℚ scaled (pos q) e
    same g = let shifted : scaled m f ≡ scaled (m *ℤ pos (2 ^ g.0)) e =
        ap (scaled m) g.1 ∙ scaled-shift m e g.0 in
        let less : (m *ℤ pos (2 ^ g.0)) <ℤ pos (q + 1) = scaled-lt_out (m *ℤ pos (2 ^ g.0))
        (pos (q + 1)) e (subst (λ y. y <ℚ scaled (pos (q + 1)) e) shifted k) in
        subst (λ y. y ≤ℚ scaled (pos q) e) (sym shifted)
        (scaled-le (m *ℤ pos (2 ^ g.0)) (pos q) e (omega (arith, ints)))

up_step : (q : ℕ) (e m f : ℤ) → Full q e → m <ℤ pos 1152921504606846976 → negsuc 511 ≤ℤ f
    → scaled (pos q) e <ℚ scaled m f → scaled (pos (q + 1)) e ≤ℚ scaled m f
up_step q e m f full h l k = ⊎_elim (λ t. t) (λ t. absurd (lt_not (scaled (pos q) e)
    (scaled m f) k (down_step q e m f full h l t))) (le_or_lt (scaled (pos (q + 1)) e) (scaled m f))

pub on_grid : (q : ℕ) (e : ℤ) → q < 1152921504606846976 → negsuc 511 ≤ℤ e → e ≤ℤ pos 512
    → IsOnGrid (scaled (pos q) e)
on_grid q e h l k = record {
  mantissa = pos q;
  exponent = e;
  above = omega (arith, ints);
  below = omega (arith, ints);
  lowest = l;
  highest = k;
  is = refl;
}

-- the cut itself is the rounding down
pub down_is : (x : Fraction) (q : ℕ) (e : ℤ) (i : Bool) → Cuts x q e i → Full q e
    → q < 1152921504606846976 → negsuc 511 ≤ℤ e → e ≤ℤ pos 512 → IsDown x (At (scaled (pos q) e))
down_is x q e i c full h l k = (
  on_grid q e h l k,
  cut_low x q e i c,
  λ y g t. subst (λ z. z ≤ℚ scaled (pos q) e) (sym g.is)
      (down_step q e g.mantissa g.exponent full g.below g.lowest (subst (λ z. z <ℚ scaled
      (pos (q + 1)) e) g.is (le_lt_trans y x (scaled (pos (q + 1)) e) t (cut_high x q e i c)))),
)

-- the rounding up is the next, unless the cut is exact
pub up_is_exact : (x : Fraction) (q : ℕ) (e : ℤ) → Cuts x q e false → q < 1152921504606846976
    → negsuc 511 ≤ℤ e → e ≤ℤ pos 512 → IsUp x (At (scaled (pos q) e))
up_is_exact x q e c h l k = (
  on_grid q e h l k,
  subst (λ y. y ≤ℚ scaled (pos q) e) (sym c) (le_refl (scaled (pos q) e)),
  λ y g t. subst (λ z. z ≤ℚ y) c t,
)

pub up_least : (x : Fraction) (q : ℕ) (e : ℤ) → Cuts x q e true → Full q e → (y : Fraction)
    → IsOnGrid y → x ≤ℚ y → scaled (pos (q + 1)) e ≤ℚ y
up_least x q e c full y g t = subst (λ z. scaled (pos (q + 1)) e ≤ℚ z) (sym g.is)
    (up_step q e g.mantissa g.exponent full g.below g.lowest
    (subst (λ z. scaled (pos q) e <ℚ z) g.is (lt_le_trans (scaled (pos q) e) x y c.0 t)))
