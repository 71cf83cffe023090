-- Quotients of sizes and signs.
use mathlib.Core.Bool.{beq, xor}
use Rattle.std.proofs.Common.{◌≡◌, ℕ, ℤ, pos, ◌+ℤ◌, ◌<◌, Bool, true, false, not, arith, ap, sym}
use Rattle.std.proofs.Common.{subst, ◌∙◌, refl, ⊎_elim}
use Rattle.std.specs.Int.RustNames.{int_lt, unsigned_abs}
use Rattle.std.proofs.lemmas.Int.{ints}
use Rattle.std.proofs.lemmas.Bool.{cases_lt}
use Rattle.fx_model.specs.Fraction.{Fraction, ◌*ℚ◌, ◌/ℚ◌, inverse_ℚ, zero_ℚ, one_ℚ, one-mul}
use Rattle.fx_model.specs.Fraction.{mul_comm, mul_assoc, mul-inverse}
use Rattle.fx_model.proofs.Fraction.{mul_cancel}
use Rattle.fx_model.specs.Powers.{whole, two_to, scaled, scaled-zero, two_to-add, two_to-positive}
use Rattle.fx_model.specs.Grid.{signed}
use Rattle.fx_model.proofs.Grid.{signed-mul, signed-size}
use Rattle.fx_model.specs.Cut.{Cuts}
use Rattle.dyadic.specs.declared.number.Dyadic.{Dyadic}
use Rattle.dyadic.specs.Values.{value_of}

-- p * (w * (x * y)) = x, where w * p is the inverse of y
regrouped : (p w x y : Fraction) → (w *ℚ p) *ℚ y ≡ one_ℚ → p *ℚ (w *ℚ (x *ℚ y)) ≡ x
regrouped p w x y h =
    sym (mul_assoc p w (x *ℚ y)) ∙ ap (λ z. z *ℚ (x *ℚ y)) (mul_comm p w)
    ∙ sym (mul_assoc (w *ℚ p) x y)
    ∙ ap (λ z. z *ℚ y) (mul_comm (w *ℚ p) x) ∙ mul_assoc x (w *ℚ p) y ∙ ap (λ z. x *ℚ z) h
    ∙ mul_comm x one_ℚ ∙ one-mul x

same_sign : (t : Bool) → xor t t ≡ false
unfolding xor
same_sign true = refl
same_sign false = refl

signed-inverse : (t : Bool) (x : Fraction) → ¬ (x ≡ zero_ℚ)
    → signed t x *ℚ signed t (inverse_ℚ x) ≡ one_ℚ
signed-inverse t x n = sym (signed-mul t t x (inverse_ℚ x))
    ∙ ap (λ s. signed s (x *ℚ inverse_ℚ x)) (same_sign t) ∙ mul-inverse x n

pub raised : (m e f : ℤ) → two_to f *ℚ scaled m e ≡ scaled m (e +ℤ f)
raised m e f = mul_comm (two_to f) (scaled m e) ∙ mul_assoc (whole m) (two_to e) (two_to f)
    ∙ ap (λ y. whole m *ℚ y) (sym (two_to-add e f))

pub quotient_size : (a b : Dyadic) (s t : Bool) (two : ℤ) → s ≡ int_lt a.mantissa (pos 0)
    → t ≡ int_lt b.mantissa (pos 0) → two +ℤ b.exponent ≡ a.exponent → ¬ (value_of b ≡ zero_ℚ)
    → whole (pos (unsigned_abs b.mantissa)) *ℚ signed (not (beq s t)) (value_of a /ℚ value_of b)
    ≡ scaled (pos (unsigned_abs a.mantissa)) two
unfolding xor
quotient_size a b s t two p q e n =
    let w = whole (pos (unsigned_abs b.mantissa)) in
    let y = signed t (inverse_ℚ (value_of b)) in
    let one : (w *ℚ two_to b.exponent) *ℚ y ≡ one_ℚ = ap (λ z. z *ℚ y)
    (sym (signed-size b.mantissa b.exponent t q)) ∙ signed-inverse t (value_of b) n in
    ap (λ z. w *ℚ z) (signed-mul s t (value_of a) (inverse_ℚ (value_of b)))
    ∙ mul_cancel (two_to b.exponent) (w *ℚ (signed s (value_of a) *ℚ y))
    (scaled (pos (unsigned_abs a.mantissa)) two) (two_to-positive b.exponent)
    (regrouped (two_to b.exponent) w (signed s (value_of a)) y one
    ∙ signed-size a.mantissa a.exponent s p
    ∙ ap (scaled (pos (unsigned_abs a.mantissa))) (sym e)
    ∙ sym (raised (pos (unsigned_abs a.mantissa)) two b.exponent))

pub divisor_positive : (b : Dyadic) (d : ℕ) → d ≡ unsigned_abs b.mantissa
    → ¬ (value_of b ≡ zero_ℚ) → 0 < d
divisor_positive b d e n =
    ⊎_elim (λ l. l) (λ l. absurd (n (let z : b.mantissa ≡ pos 0 = omega (arith, ints) in
    ap (λ m. scaled m b.exponent) z ∙ scaled-zero b.exponent))) (cases_lt 0 d)

pub quotient_cut : (a b : Dyadic) (s t : Bool) (d digits : ℕ) (two : ℤ) (i : Bool)
    → s ≡ int_lt a.mantissa (pos 0) → t ≡ int_lt b.mantissa (pos 0) → d ≡ unsigned_abs b.mantissa
    → digits ≡ unsigned_abs a.mantissa
    → two +ℤ b.exponent ≡ a.exponent → i ≡ false → ¬ (value_of b ≡ zero_ℚ)
    → Cuts (whole (pos d) *ℚ signed (not (beq s t)) (value_of a /ℚ value_of b)) digits two i
quotient_cut a b s t d digits two i p q f g e j n = subst (λ i.
    Cuts (whole (pos d) *ℚ signed (not (beq s t)) (value_of a /ℚ value_of b)) digits two i) (sym j)
    (ap (λ d. whole (pos d) *ℚ signed (not (beq s t)) (value_of a /ℚ value_of b)) f
    ∙ quotient_size a b s t two p q e n ∙ ap (λ n. scaled (pos n) two) (sym g))
