-- Cuts at and past the largest grid number.
use Rattle.std.specs.Prelude.{◌≡◌, ◌⊎◌, ℕ, ℤ, pos, negsuc, ◌+ℤ◌, ◌*ℤ◌, ◌≤ℤ◌, ◌<ℤ◌, ◌*◌, ◌+◌, ◌≤◌}
use Rattle.std.specs.Prelude.{◌<◌, ◌^◌, Bool, true}
use Rattle.std.proofs.Common.{arith, sym, ap, ◌∙◌, subst, ⊎_elim}
use Rattle.std.proofs.Math.Nat.{mul-le-mul_left, mul-one}
use Rattle.std.proofs.lemmas.Bool.{cases_lt}
use Rattle.std.proofs.lemmas.Nat.{pow_pos}
use Rattle.std.proofs.lemmas.Int.{ints, by_lt_z}
use Rattle.fx_model.specs.Fraction.{Fraction, ◌≤ℚ◌, ◌<ℚ◌, zero_ℚ, le_trans, lt_le, lt_not}
use Rattle.fx_model.specs.Fraction.{lt_le_trans, le_or_lt}
use Rattle.fx_model.specs.Powers.{scaled, scaled-le, scaled-lt, scaled-shift, scaled-zero}
use Rattle.fx_model.specs.Grid.{IsOnGrid, At, Above, IsDown, IsUp}
use Rattle.fx_model.specs.Cut.Gaps.{Cuts, Full, cut_low, gap_le, on_grid, up_least}

-- ---- the largest grid number, and the carry of a rounding up
abbrev pub top : ℕ
top = 1152921504606846975

top_is : (m f : ℤ) → m <ℤ pos 1152921504606846976 → f ≤ℤ pos 512
    → scaled m f ≤ℚ scaled (pos top) (pos 512)
top_is m f h k = ⊎_elim (λ t. t) (λ t. by_lt_z m (pos 1) (λ n. negative n) (λ n. positive n t))
    (le_or_lt (scaled m f) (scaled (pos top) (pos 512)))
  where
    negative : m <ℤ pos 1 → scaled m f ≤ℚ scaled (pos top) (pos 512)
    negative n = le_trans (scaled m f) zero_ℚ (scaled (pos top) (pos 512))
        (subst (λ y. scaled m f ≤ℚ y) (scaled-zero f) (scaled-le m (pos 0) f (omega (arith, ints))))
        (subst (λ y. y ≤ℚ scaled (pos top) (pos 512)) (scaled-zero (pos 512))
        (scaled-le (pos 0) (pos top) (pos 512) (omega (arith, ints))))

    positive : pos 1 ≤ℤ m → scaled (pos top) (pos 512) <ℚ scaled m f
        → scaled m f ≤ℚ scaled (pos top) (pos 512)
    positive n t = let g = gap_le f (pos 512) k in
        let shifted : scaled (pos top) (pos 512) ≡ scaled (pos top *ℤ pos (2 ^ g.0)) f =
        ap (scaled (pos top)) g.1 ∙ scaled-shift (pos top) f g.0 in
        subst (λ y. scaled m f ≤ℚ y) (sym shifted)
        (scaled-le m (pos top *ℤ pos (2 ^ g.0)) f (enough m (2 ^ g.0) h (pow_pos g.0)))
      where
        enough : (m : ℤ) (p : ℕ) → m <ℤ pos 1152921504606846976 → 0 < p → m ≤ℤ (pos top *ℤ pos p)
        enough m p h k = omega (arith, ints)

-- ---- past the largest grid number
twice_top : (m : ℤ) → scaled m (pos 513) ≡ scaled (m *ℤ pos 2) (pos 512)
twice_top m = scaled-shift m (pos 512) 1

past_top : (q : ℕ) (e : ℤ) → 1152921504606846976 ≤ q + q → pos 513 ≤ℤ e
    → scaled (pos top) (pos 512) <ℚ scaled (pos q) e
past_top q e h k = let g = gap_le (pos 513) e k in
    let shifted : scaled (pos q) e ≡ scaled ((pos q *ℤ pos (2 ^ g.0)) *ℤ pos 2) (pos 512) =
    ap (scaled (pos q)) g.1 ∙ scaled-shift (pos q) (pos 513) g.0
    ∙ twice_top (pos q *ℤ pos (2 ^ g.0)) in
    subst (λ y. scaled (pos top) (pos 512) <ℚ y) (sym shifted) (scaled-lt (pos top)
    ((pos q *ℤ pos (2 ^ g.0)) *ℤ pos 2) (pos 512) (enough q (2 ^ g.0) h (pow_pos g.0)))
  where
    enough : (q p : ℕ) → 1152921504606846976 ≤ q + q → 0 < p
        → pos top <ℤ ((pos q *ℤ pos p) *ℤ pos 2)
    enough q p h k = let e : q ≤ q * p = subst (λ n. n ≤ q * p) (mul-one q) (mul-le-mul_left q k) in
        omega (arith, ints)

module _ (x : Fraction) (q : ℕ) (e : ℤ) (i : Bool) (c : Cuts x q e i) (full : Full q e)
    (far : pos 513 ≤ℤ e) where
  beyond : scaled (pos top) (pos 512) <ℚ x
  beyond = lt_le_trans (scaled (pos top) (pos 512)) (scaled (pos q) e) x (past_top q e
      (⊎_elim (λ n. n) (λ n. absurd (omega (arith, ints))) full) far) (cut_low x q e i c)

  grid_low : (h : Fraction) → IsOnGrid h → h ≤ℚ scaled (pos top) (pos 512)
  grid_low h g = subst (λ y. y ≤ℚ scaled (pos top) (pos 512)) (sym g.is)
      (top_is g.mantissa g.exponent g.below g.highest)

  pub down_beyond : IsDown x (At (scaled (pos top) (pos 512)))
  down_beyond = (
    on_grid top (pos 512) (omega arith) (omega (arith, ints)) (omega (arith, ints)),
    lt_le (scaled (pos top) (pos 512)) x beyond,
    λ h g t. grid_low h g,
  )

  pub up_beyond : IsUp x Above
  up_beyond = λ h g t. lt_not (scaled (pos top) (pos 512)) x beyond
      (le_trans x h (scaled (pos top) (pos 512)) t (grid_low h g))

-- ---- the rounding up of an inexact cut
carry_grid : (q : ℕ) (e : ℤ) → q ≡ 1152921504606846976 → negsuc 511 ≤ℤ e → e <ℤ pos 512
    → IsOnGrid (scaled (pos q) e)
carry_grid q e k l h = subst IsOnGrid (scaled-shift (pos 576460752303423488) e 1
    ∙ ap (λ n. scaled (pos n) e) (sym k)) (on_grid 576460752303423488 (e +ℤ pos 1) (omega arith)
    (omega (arith, ints)) (omega (arith, ints)))

pub next_grid : (q : ℕ) (e : ℤ) → q < 1152921504606846976 → negsuc 511 ≤ℤ e → e ≤ℤ pos 512
    → (q + 1 < 1152921504606846976) ⊎ (e <ℤ pos 512) → IsOnGrid (scaled (pos (q + 1)) e)
next_grid q e h l k room =
    ⊎_elim (λ n. on_grid (q + 1) e n l k) (λ n. ⊎_elim (λ a. on_grid (q + 1) e a l k)
    (λ a. carry_grid (q + 1) e (omega arith) l n) (cases_lt (q + 1) 1152921504606846976)) room

pub up_is : (x : Fraction) (q : ℕ) (e : ℤ) → Cuts x q e true → Full q e
    → IsOnGrid (scaled (pos (q + 1)) e) → IsUp x (At (scaled (pos (q + 1)) e))
up_is x q e c full g = (g, lt_le x (scaled (pos (q + 1)) e) c.1, up_least x q e c full)

pub up_top : (x : Fraction) (e : ℤ) (q : ℕ) → q ≡ 1152921504606846976 → e ≡ pos 512 → (q' : ℕ)
    → q ≡ q' + 1 → Cuts x q' e true → IsUp x Above
up_top x e q k f q' j c = let same : scaled (pos q') e ≡ scaled (pos top) (pos 512) =
    ap (λ n. scaled (pos n) e) (omega arith) ∙ ap (scaled (pos top)) f in
    λ h g t. lt_not (scaled (pos q') e) x c.0 (le_trans x h (scaled (pos q') e) t
    (subst (λ y. h ≤ℚ y) (sym same) (subst (λ y. y ≤ℚ scaled (pos top) (pos 512)) (sym g.is)
    (top_is g.mantissa g.exponent g.below g.highest))))
