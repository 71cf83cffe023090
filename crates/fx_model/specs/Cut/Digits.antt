-- Cuts with fewer digits, and cuts of quotients.
use lib.Dec.{T, ltb, ltb→lt, nltb→le}
use Rattle.std.specs.Prelude.{◌≡◌, ℕ, ℤ, pos, ◌+ℤ◌, ◌*◌, ◌+◌, ◌≤◌, ◌<◌, ◌^◌, Bool, true, false}
use Rattle.std.specs.Prelude.{◌||◌, not, refl}
use Rattle.std.proofs.Common.{arith, sym, ap, ◌∙◌, subst}
use Rattle.std.proofs.lemmas.Int.{ints}
use Rattle.fx_model.specs.Fraction.{Fraction, ◌≤ℚ◌, ◌<ℚ◌, le_lt_trans, lt_le_trans}
use Rattle.fx_model.specs.Powers.{scaled, scaled-le, scaled-lt, scaled-shift}
use Rattle.fx_model.specs.Cut.Gaps.{Cuts}

-- ---- fewer digits: h * p + l at 2^e, with p = 2^s, is h at 2^(e + s), and l is cut off
abbrev pub more : Bool → ℕ → Bool
more i l = i || ltb 0 l

module _ (h l s : ℕ) (e : ℤ) (small : l < 2 ^ s) where
  shifted_is : (n : ℕ) → scaled (pos n) (e +ℤ pos s) ≡ scaled (pos (n * 2 ^ s)) e
  shifted_is n = scaled-shift (pos n) e s

  low_le : (n : ℕ) → h * 2 ^ s ≤ n → scaled (pos h) (e +ℤ pos s) ≤ℚ scaled (pos n) e
  low_le n k = rw shifted_is (scaled-le (pos (h * 2 ^ s)) (pos n) e (omega (arith, ints)))

  low_lt : (n : ℕ) → h * 2 ^ s < n → scaled (pos h) (e +ℤ pos s) <ℚ scaled (pos n) e
  low_lt n k = rw shifted_is (scaled-lt (pos (h * 2 ^ s)) (pos n) e (omega (arith, ints)))

  high_lt : (n : ℕ) → n < (h + 1) * 2 ^ s → scaled (pos n) e <ℚ scaled (pos (h + 1)) (e +ℤ pos s)
  high_lt n k =
      rw (shifted_is (h + 1)) (scaled-lt (pos n) (pos ((h + 1) * 2 ^ s)) e (omega (arith, ints)))

  high_le : (n : ℕ) → n ≤ (h + 1) * 2 ^ s → scaled (pos n) e ≤ℚ scaled (pos (h + 1)) (e +ℤ pos s)
  high_le n k =
      rw (shifted_is (h + 1)) (scaled-le (pos n) (pos ((h + 1) * 2 ^ s)) e (omega (arith, ints)))

  narrow_exact : (x : Fraction) → Cuts x (h * 2 ^ s + l) e false → (b : Bool) → ltb 0 l ≡ b
      → Cuts x h (e +ℤ pos s) b
  narrow_exact x c true t = let p : 0 < l = ltb→lt 0 l (subst T (sym t) tt) in (
    subst (λ y. scaled (pos h) (e +ℤ pos s) <ℚ y) (sym c) (low_lt (h * 2 ^ s + l) (omega arith)),
    subst (λ y. y <ℚ scaled (pos (h + 1)) (e +ℤ pos s)) (sym c)
        (high_lt (h * 2 ^ s + l) (omega arith)),
  )
  narrow_exact x c false t =
      let p : l ≡ 0 = omega (arith, nltb→le 0 l (subst (λ b. T (not b)) (sym t) tt)) in
      c ∙ ap (λ n. scaled (pos n) e) (omega arith) ∙ sym (shifted_is h)

  pub narrow_is : (x : Fraction) (i : Bool) → Cuts x (h * 2 ^ s + l) e i
      → Cuts x h (e +ℤ pos s) (more i l)
  narrow_is x false c = narrow_exact x c (ltb 0 l) refl
  narrow_is x true c = (
    le_lt_trans (scaled (pos h) (e +ℤ pos s))
        (scaled (pos (h * 2 ^ s + l)) e) x (low_le (h * 2 ^ s + l) (omega arith)) c.0,
    lt_le_trans x (scaled (pos (h * 2 ^ s + l + 1)) e)
        (scaled (pos (h + 1)) (e +ℤ pos s)) c.1 (high_le (h * 2 ^ s + l + 1) (omega arith)),
  )
