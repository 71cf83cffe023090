-- Sizes and signs of products and quotients.
use mathlib.Core.Bool.{beq, xor}
use Rattle.std.proofs.Common.{◌≡◌, ℕ, ℤ, pos, ◌+ℤ◌, ◌*◌, Bool, true, false, not, ap, sym, subst}
use Rattle.std.proofs.Common.{◌∙◌, refl}
use Rattle.std.specs.Int.RustNames.{int_lt, unsigned_abs}
use Rattle.fx_model.specs.Fraction.{Fraction, ◌*ℚ◌}
use Rattle.fx_model.specs.Powers.{whole, scaled}
use Rattle.fx_model.specs.Grid.{signed}
use Rattle.fx_model.proofs.Grid.{signed-mul, signed-size, scaled-mul}
use Rattle.fx_model.specs.Cut.{Cuts}
use Rattle.dyadic.specs.declared.number.Dyadic.{Dyadic}
use Rattle.dyadic.specs.Values.{value_of}

pub product_size : (a b : Dyadic) (s t : Bool) (digits : ℕ) (two : ℤ)
    → s ≡ int_lt a.mantissa (pos 0) → t ≡ int_lt b.mantissa (pos 0)
    → digits ≡ unsigned_abs a.mantissa * unsigned_abs b.mantissa → two ≡ a.exponent +ℤ b.exponent
    → signed (not (beq s t)) (value_of a *ℚ value_of b) ≡ scaled (pos digits) two
unfolding xor
product_size a b s t digits two p q f g = signed-mul s t (value_of a) (value_of b)
    ∙ ap (λ x. x *ℚ signed t (value_of b)) (signed-size a.mantissa a.exponent s p) ∙ ap (λ y.
    scaled (pos (unsigned_abs a.mantissa)) a.exponent *ℚ y) (signed-size b.mantissa b.exponent t q)
    ∙ scaled-mul (pos (unsigned_abs a.mantissa)) a.exponent
    (pos (unsigned_abs b.mantissa)) b.exponent
    ∙ ap (λ n. scaled (pos n) (a.exponent +ℤ b.exponent)) (sym f) ∙ ap (scaled (pos digits)) (sym g)

pub exact_cut : (y : Fraction) (digits : ℕ) (two : ℤ) (i : Bool) → i ≡ false
    → y ≡ scaled (pos digits) two → Cuts y digits two i
exact_cut y digits two i e p = subst (λ i. Cuts y digits two i) (sym e) p

pub mul-signed : (n : Bool) (x y : Fraction) → x *ℚ signed n y ≡ signed n (x *ℚ y)
unfolding xor
mul-signed true x y = sym (signed-mul false true x y)
mul-signed false x y = refl

-- n * 2^two as a numerator
pub ratio_cut : (n : ℤ) (s : Bool) (d : ℕ) (two : ℤ) (x : Fraction) (q : ℕ) (e : ℤ) (i : Bool)
    → s ≡ int_lt n (pos 0) → whole (pos d) *ℚ x ≡ scaled n two → q ≡ unsigned_abs n → e ≡ two
    → i ≡ false → Cuts (whole (pos d) *ℚ signed s x) q e i
ratio_cut n s d two x q e i h p f g j =
    subst (λ i. Cuts (whole (pos d) *ℚ signed s x) q e i) (sym j)
    (mul-signed s (whole (pos d)) x ∙ ap (signed s) p ∙ signed-size n two s h
    ∙ ap (λ n. scaled (pos n) two) (sym f) ∙ ap (scaled (pos q)) (sym g))
