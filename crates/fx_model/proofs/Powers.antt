-- Laws of what specs/Powers defines.
use Rattle.std.specs.Prelude.{◌≡◌, ℤ, pos, ◌+ℤ◌, ◌≤ℤ◌}
use Rattle.std.proofs.Common.{sym, ap, ◌∙◌, subst}
use Rattle.fx_model.specs.Fraction.{◌+ℚ◌, ◌*ℚ◌, ◌≤ℚ◌, zero_ℚ}
use Rattle.fx_model.proofs.Fraction.{add-mul}
use Rattle.fx_model.specs.Powers.{whole, two_to, scaled, whole-add, scaled-le, scaled-le_out}
use Rattle.fx_model.specs.Powers.{scaled-zero}

-- ---- signs
pub scaled_up : (m e : ℤ) → pos 0 ≤ℤ m → zero_ℚ ≤ℚ scaled m e
scaled_up m e h = subst (λ z. z ≤ℚ scaled m e) (scaled-zero e) (scaled-le (pos 0) m e h)

pub scaled_down : (m e : ℤ) → m ≤ℤ pos 0 → scaled m e ≤ℚ zero_ℚ
scaled_down m e h = subst (λ z. scaled m e ≤ℚ z) (scaled-zero e) (scaled-le m (pos 0) e h)

pub scaled_up_out : (m e : ℤ) → zero_ℚ ≤ℚ scaled m e → pos 0 ≤ℤ m
scaled_up_out m e h =
    scaled-le_out (pos 0) m e (subst (λ z. z ≤ℚ scaled m e) (sym (scaled-zero e)) h)

pub scaled_down_out : (m e : ℤ) → scaled m e ≤ℚ zero_ℚ → m ≤ℤ pos 0
scaled_down_out m e h =
    scaled-le_out m (pos 0) e (subst (λ z. scaled m e ≤ℚ z) (sym (scaled-zero e)) h)

-- ---- sums and equal numbers
pub scaled-add : (m n k : ℤ) → scaled m k +ℚ scaled n k ≡ scaled (m +ℤ n) k
scaled-add m n k =
    sym (add-mul (whole m) (whole n) (two_to k)) ∙ ap (λ y. y *ℚ two_to k) (sym (whole-add m n))
