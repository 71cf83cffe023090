-- Numbers m * 2^e with an odd m: there is one form of each.
use borrow.Author.Differences.{up, down}
use Rattle.std.specs.Prelude.{◌≡◌, ℕ, ℤ, pos, ◌+ℤ◌, ◌*ℤ◌, ◌≤ℤ◌, ◌*◌, ◌+◌, ◌-◌, ◌%◌, ◌^◌}
use Rattle.std.specs.Int.RustNames.{unsigned_abs}
use Rattle.std.proofs.Common.{arith, ap, sym, ◌∙◌}
use Rattle.std.proofs.lemmas.Int.{ints, by_lt_z, unsigned_abs-mul}
use Rattle.std.proofs.lemmas.Nat.{pow-add}
use Rattle.fx_model.specs.Powers.{scaled, scaled-shift, scaled-same}
use Rattle.fx_model.specs.Cut.Gaps.{gap}

-- how far a place is above another
pub above : (e f : ℤ) → f ≤ℤ e → (k : ℕ) × (e ≡ f +ℤ pos k)
above e f h = (up e + down f - (up f + down e), omega (arith, ints))

even_times : (n : ℤ) (k : ℕ) → unsigned_abs (n *ℤ pos (2 ^ (k + 1))) % 2 ≡ 0
even_times n k = let e : unsigned_abs (n *ℤ pos (2 ^ (k + 1))) ≡ (unsigned_abs n * 2 ^ k) * 2 =
    unsigned_abs-mul n (pos (2 ^ (k + 1)))
    ∙ ap (λ p. unsigned_abs n * p) (pow-add 2 k 1) ∙ omega arith in
    omega arith

-- m * 2^e with odd m has no form with a higher exponent
pub odd_lowest : (m e n f : ℤ) → unsigned_abs m % 2 ≡ 1 → scaled m e ≡ scaled n f
    → (k : ℕ) × (e ≡ f +ℤ pos k) × (n ≡ (m *ℤ pos (2 ^ k)))
odd_lowest m e n f odd p = by_lt_z e f
    (λ l. let g = gap f e l in
    let same : m ≡ (n *ℤ pos (2 ^ (g.0 + 1))) = scaled-same m (n *ℤ pos (2 ^ (g.0 + 1))) e (p
    ∙ ap (scaled n) g.1 ∙ scaled-shift n e (g.0 + 1)) in
    let even = even_times n g.0 in
    let a : unsigned_abs m % 2 ≡ 0 = ap (λ m. unsigned_abs m % 2) same ∙ even in
    absurd (omega arith))
    (λ l. let g = above e f l in (
      g.0,
      g.1,
      scaled-same n (m *ℤ pos (2 ^ g.0)) f (sym p ∙ ap (scaled m) g.1 ∙ scaled-shift m f g.0),
    ))
