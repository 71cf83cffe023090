-- Literals as fractions over a power of ten.
use lib.IntN.{neg_ℤ}
use Rattle.std.specs.Prelude.{◌≡◌, ℕ, ℤ, pos, ◌<◌, Bool, true, false, Option, refl}
use Rattle.std.proofs.Common.{sym, ap, ◌∙◌, subst}
use Rattle.fx_model.specs.Fraction.{Fraction, ◌*ℚ◌, inverse_ℚ, mul_comm, mul_assoc, mul-inverse}
use Rattle.fx_model.proofs.Fraction.{mul-one}
use Rattle.fx_model.specs.Powers.{whole, two_to, scaled}
use Rattle.fx_model.specs.Grid.{signed}
use Rattle.fx_model.specs.Expression.{literal_value}
use Rattle.fx_model.specs.declared.Literal.{Literal}
use Rattle.literal.proofs.Tens.{not_zero, whole_positive}
use Rattle.interval.proofs.Written.{signed_ratio}
use Rattle.exact_fractions.specs.declared.exact.Exact.{Exact}
use Rattle.exact_fractions.specs.Exact.{Gives}
use Rattle.exact_fractions.specs.Wide.{numbers_of}
use Rattle.exact_fractions.specs.Reduced.{over, signed_number}

-- what gives n * 2^k with d is n / d * 2^k
quotient_is : (v : Fraction) (n k : ℤ) (d : ℕ) → whole (pos d) *ℚ v ≡ scaled n k → 0 < d
    → over n d *ℚ two_to k ≡ v
quotient_is v n k d e p =
    let i : Fraction = inverse_ℚ (whole (pos d)) in
    mul_assoc (whole n) i (two_to k) ∙ ap (λ y. whole n *ℚ y) (mul_comm i (two_to k))
    ∙ sym (mul_assoc (whole n) (two_to k) i)
    ∙ ap (λ y. y *ℚ i) (sym e ∙ mul_comm (whole (pos d)) v)
    ∙ mul_assoc v (whole (pos d)) i
    ∙ ap (λ y. v *ℚ y)
    (mul-inverse (whole (pos d)) (not_zero (whole (pos d)) (whole_positive d p))) ∙ mul-one v

signed_is : (b : Bool) (v : Fraction) (n d : ℕ) (k : ℤ) → whole (pos d) *ℚ v ≡ scaled (pos n) k
    → 0 < d → over (signed_number b n) d *ℚ two_to k ≡ signed b v
signed_is b v n d k e p =
    quotient_is (signed b v) (signed_number b n) k d
    (signed_ratio b (whole (pos d)) v (signed_number b n) n k (above b) (below b) e) p
  where
    above : (b : Bool) → b ≡ false → signed_number b n ≡ pos n
    above true h = absurd (cc)
    above false h = refl

    below : (b : Bool) → b ≡ true → signed_number b n ≡ neg_ℤ (pos n)
    below true h = refl
    below false h = absurd (cc)

-- the answer for the fraction that was made
pub written_given : (b : Bool) (l : Literal) (n d : ℕ) (x : Fraction) (k : ℤ) (r : Option Exact)
    → whole (pos d) *ℚ literal_value l ≡ scaled (pos n) l.two → 0 < d
    → x ≡ over (signed_number b n) d → k ≡ l.two
    → Gives (numbers_of (x *ℚ two_to k)) (x *ℚ two_to k) r
    → Gives (numbers_of (signed b (literal_value l))) (signed b (literal_value l)) r
written_given b l n d x k r e p h q g =
    subst (λ y. Gives (numbers_of y) y r) (ap (λ x. x *ℚ two_to k) h
    ∙ ap (λ k. over (signed_number b n) d *ℚ two_to k) q
    ∙ signed_is b (literal_value l) n d l.two e p) g
