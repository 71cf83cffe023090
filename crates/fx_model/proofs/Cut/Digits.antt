-- Laws of what specs/Cut/Digits defines.
use lib.Dec.{T, ltb, ltb→lt, nltb→le}
use Rattle.std.specs.Prelude.{◌≡◌, ℕ, ℤ, pos, ◌*◌, ◌+◌, ◌<◌, Bool, true, false, not, refl}
use Rattle.std.proofs.Common.{arith, sym, ap, ◌∙◌, subst}
use Rattle.std.proofs.lemmas.Int.{ints}
use Rattle.fx_model.specs.Fraction.{Fraction, ◌*ℚ◌, ◌<ℚ◌, zero_ℚ, lt_le, le_lt_trans, lt_le_trans}
use Rattle.fx_model.specs.Fraction.{mul_assoc}
use Rattle.fx_model.proofs.Fraction.{mul-lt_cancel, mul_cancel}
use Rattle.fx_model.specs.Powers.{whole, two_to, scaled, scaled-le, scaled-lt, whole-mul, whole-lt}
use Rattle.fx_model.specs.Powers.{zero-whole}
use Rattle.fx_model.specs.Cut.Gaps.{Cuts}
use Rattle.fx_model.specs.Cut.Digits.{more}

-- ---- a quotient: x * d is q * d + r at 2^e
pub scaled_times : (q d : ℕ) (e : ℤ) → whole (pos d) *ℚ scaled (pos q) e ≡ scaled (pos (q * d)) e
scaled_times q d e = sym (mul_assoc (whole (pos d)) (whole (pos q)) (two_to e))
    ∙ ap (λ y. y *ℚ two_to e) (sym (whole-mul (pos d) (pos q)) ∙ ap whole (omega (arith, ints)))

module _ (q r d : ℕ) (e : ℤ) (x : Fraction) (small : r < d) where
  d_positive : zero_ℚ <ℚ whole (pos d)
  d_positive = subst (λ y. y <ℚ whole (pos d)) (sym zero-whole)
      (whole-lt (pos 0) (pos d) (omega (arith, ints)))

  quotient_exact : whole (pos d) *ℚ x ≡ scaled (pos (q * d + r)) e → (b : Bool)
      → ltb 0 r ≡ b → Cuts x q e b
  quotient_exact c true t = let p : 0 < r = ltb→lt 0 r (subst T (sym t) tt) in (
    mul-lt_cancel (whole (pos d))
        (scaled (pos q) e) x (lt_le _ _ d_positive) (rw (scaled_times q d e, c)
        (scaled-lt (pos (q * d)) (pos (q * d + r)) e (omega (arith, ints)))),
    mul-lt_cancel (whole (pos d)) x (scaled (pos (q + 1)) e)
        (lt_le _ _ d_positive) (rw (scaled_times (q + 1) d e, c)
        (scaled-lt (pos (q * d + r)) (pos ((q + 1) * d)) e (omega (arith, ints)))),
  )
  quotient_exact c false t =
      let p : r ≡ 0 = omega (arith, nltb→le 0 r (subst (λ b. T (not b)) (sym t) tt)) in
      mul_cancel (whole (pos d)) x (scaled (pos q) e) d_positive (c
      ∙ ap (λ n. scaled (pos n) e) (omega arith) ∙ sym (scaled_times q d e))

  pub quotient_is : (y : Fraction) → whole (pos d) *ℚ x ≡ y → (i : Bool)
      → Cuts y (q * d + r) e i → Cuts x q e (more i r)
  quotient_is y f false c = quotient_exact (f ∙ c) (ltb 0 r) refl
  quotient_is y f true c = (
    mul-lt_cancel (whole (pos d))
        (scaled (pos q) e) x (lt_le _ _ d_positive) (rw (scaled_times q d e, f) (le_lt_trans _ _ y
        (scaled-le (pos (q * d)) (pos (q * d + r)) e (omega (arith, ints))) c.0)),
    mul-lt_cancel (whole (pos d)) x (scaled (pos (q + 1)) e)
        (lt_le _ _ d_positive) (rw (scaled_times (q + 1) d e, f) (lt_le_trans y _ _ c.1
        (scaled-le (pos (q * d + r + 1)) (pos ((q + 1) * d)) e (omega (arith, ints))))),
  )
