-- Laws of what specs/Grid defines.
use mathlib.Core.Bool.{xor}
use lib.IntN.{neg_ℤ}
use Rattle.std.specs.Prelude.{◌≡◌, ℕ, ℤ, pos, negsuc, ◌+ℤ◌, ◌*ℤ◌, Bool, true, false}
use Rattle.std.specs.Int.RustNames.{int_lt, unsigned_abs}
use Rattle.std.proofs.Common.{arith, sym, ap, ◌∙◌, refl}
use Rattle.std.proofs.lemmas.Int.{ints}
use Rattle.fx_model.specs.Fraction.{Fraction, ◌*ℚ◌, le_antisymm, neg_ℚ, neg-neg, neg-mul, mul_comm}
use Rattle.fx_model.specs.Fraction.{mul_assoc}
use Rattle.fx_model.specs.Powers.{scaled, two_to, whole, whole-mul, two_to-add, IsMultiple}
use Rattle.fx_model.specs.Grid.{Bound, IsDown, signed, scaled-neg, Below, At, Above}

pub IsDown-unique : (x : Fraction) (a b : Bound) → IsDown x a → IsDown x b → a ≡ b
IsDown-unique x (At g) (At h) p q =
    let e : g ≡ h = le_antisymm g h (q.2 g p.0 p.1) (p.2 h q.0 q.1) in cc
IsDown-unique x (At g) Below p q = absurd (q g p.0 p.1)
IsDown-unique x (At g) Above p q = absurd q
IsDown-unique x Below (At g) p q = absurd (p g q.0 q.1)
IsDown-unique x Below Below p q = cc
IsDown-unique x Below Above p q = absurd q
IsDown-unique x Above b p q = absurd p

-- ---- the other sign
pub multiple-neg : (k : ℤ) (x : Fraction) → IsMultiple k x → IsMultiple k (neg_ℚ x)
multiple-neg k x m = (neg_ℤ m.0, ap neg_ℚ m.1 ∙ sym (scaled-neg m.0 k))

-- ---- products of signed sizes
pub signed-signed : (n : Bool) (x : Fraction) → signed n (signed n x) ≡ x
signed-signed true x = neg-neg x
signed-signed false x = refl

pub signed-mul : (s t : Bool) (x y : Fraction)
    → signed (xor s t) (x *ℚ y) ≡ signed s x *ℚ signed t y
unfolding xor
signed-mul true true x y =
    sym (neg-neg (x *ℚ y)) ∙ ap neg_ℚ (sym (neg-mul x y) ∙ mul_comm (neg_ℚ x) y)
    ∙ sym (neg-mul y (neg_ℚ x)) ∙ mul_comm (neg_ℚ y) (neg_ℚ x)
signed-mul true false x y = sym (neg-mul x y)
signed-mul false true x y = ap neg_ℚ (mul_comm x y) ∙ sym (neg-mul y x) ∙ mul_comm (neg_ℚ y) x
signed-mul false false x y = refl

pub scaled-mul : (m e n f : ℤ) → scaled m e *ℚ scaled n f ≡ scaled (m *ℤ n) (e +ℤ f)
scaled-mul m e n f = mul_assoc (whole m) (two_to e) (scaled n f)
    ∙ ap (λ y. whole m *ℚ y) (sym (mul_assoc (two_to e) (whole n) (two_to f))
    ∙ ap (λ y. y *ℚ two_to f) (mul_comm (two_to e) (whole n))
    ∙ mul_assoc (whole n) (two_to e) (two_to f) ∙ ap (λ y. whole n *ℚ y) (sym (two_to-add e f)))
    ∙ sym (mul_assoc (whole m) (whole n) (two_to (e +ℤ f)))
    ∙ ap (λ y. y *ℚ two_to (e +ℤ f)) (sym (whole-mul m n))

-- the size of m * 2^e
pub signed-size : (m e : ℤ) (n : Bool) → (n ≡ int_lt m (pos 0))
    → signed n (scaled m e) ≡ scaled (pos (unsigned_abs m)) e
signed-size (pos m) e n h = ap (λ n. signed n (scaled (pos m) e)) (h ∙ not_below m)
  where
    not_below : (m : ℕ) → int_lt (pos m) (pos 0) ≡ false
    not_below m = grind (arith, ints)
signed-size (negsuc m) e n h =
    ap (λ n. signed n (scaled (negsuc m) e)) h ∙ sym (scaled-neg (negsuc m) e)
