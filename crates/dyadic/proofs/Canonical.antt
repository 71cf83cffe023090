-- Laws of what specs/Canonical defines.
use Rattle.std.specs.Prelude.{◌≡◌, ℤ, pos, ◌*ℤ◌, ◌<◌, ◌%◌, ◌^◌, refl}
use Rattle.std.specs.Int.RustNames.{unsigned_abs}
use Rattle.std.proofs.Common.{arith, ap, sym, ◌∙◌, ⊎_elim}
use Rattle.std.proofs.lemmas.Int.{ints, by_lt_z, unsigned_abs-mul}
use Rattle.fx_model.specs.Grid.{IsOnGrid}
use Rattle.fx_model.specs.Powers.{scaled, scaled-shift, scaled-zero, scaled-same}
use Rattle.dyadic.specs.Odd.{above, odd_lowest}
use Rattle.dyadic.specs.Canonical.{IsCanonical}

-- ---- numbers in this form are on the grid
pub canonical_on_grid : (m e : ℤ) → IsCanonical m e → IsOnGrid (scaled m e)
canonical_on_grid m e c = by_lt_z e (pos 513)
    (λ l. let s = c.size in record {
      mantissa = m;
      exponent = e;
      above = omega (arith, ints);
      below = omega (arith, ints);
      lowest = c.lowest;
      highest = omega (arith, ints);
      is = refl;
    })
    (λ l. let g = above e (pos 512) (omega (arith, ints)) in
    let s = c.room g.0 (let q = g.1 in omega (arith, ints)) in
    let t = unsigned_abs-mul m (pos (2 ^ g.0)) in
    let size : unsigned_abs (m *ℤ pos (2 ^ g.0)) < 1152921504606846976 =
    omega (arith, ints) in record {
      mantissa = m *ℤ pos (2 ^ g.0);
      exponent = pos 512;
      above = omega (arith, ints);
      below = omega (arith, ints);
      lowest = omega (arith, ints);
      highest = omega (arith, ints);
      is = ap (scaled m) g.1 ∙ scaled-shift m (pos 512) g.0;
    })

-- ---- a number in this form is determined by its value
pub canonical_same : (m e n f : ℤ) → IsCanonical m e → IsCanonical n f
    → scaled m e ≡ scaled n f → (m ≡ n) × (e ≡ f)
canonical_same m e n f c d p = ⊎_elim
    (λ z. ⊎_elim (λ y. (z.0 ∙ sym y.0, z.1 ∙ sym y.1))
    (λ o. absurd (zero_not_odd n f m e o z.0 (sym p))) d.form)
    (λ o. ⊎_elim (λ y. absurd (zero_not_odd m e n f o y.0 p)) (λ q. both o q) d.form)
    c.form
  where
    zero_not_odd : (m e n f : ℤ) → unsigned_abs m % 2 ≡ 1 → n ≡ pos 0 → scaled m e ≡ scaled n f → ⊥
    zero_not_odd m e n f o z p =
        let s : m ≡ pos 0 = scaled-same m (pos 0) e (p ∙ ap (λ n. scaled n f) z ∙ scaled-zero f
        ∙ sym (scaled-zero e)) in
        let a : unsigned_abs m ≡ 0 = ap unsigned_abs s in omega arith

    both : unsigned_abs m % 2 ≡ 1 → unsigned_abs n % 2 ≡ 1 → (m ≡ n) × (e ≡ f)
    both o q = let g = odd_lowest m e n f o p in let h = odd_lowest n f m e q (sym p) in
        let z : e ≡ f = (let a = g.1 in let b = h.1 in omega (arith, ints)) in
        (scaled-same m n f (ap (scaled m) (sym z) ∙ p), z)
