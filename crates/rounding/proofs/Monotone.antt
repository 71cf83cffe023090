-- Each direction is monotone.
use Rattle.std.specs.Prelude.{◌≡◌, ℤ, pos, ◌+ℤ◌, ◌≤ℤ◌, Bool, true, false, if◌then◌else◌, refl}
use Rattle.std.proofs.Common.{arith, sym, ap, ◌∙◌}
use Rattle.std.proofs.lemmas.Int.{ints, by_lt_z}
use Rattle.fx_model.specs.Fraction.{Fraction, ◌≤ℚ◌, zero_ℚ, le_total, le_trans}
use Rattle.fx_model.specs.Rounded.{floor, ceiling, near_low, near_high, is_even}
use Rattle.fx_model.specs.Rounded.{is_positive_or_zero, whole_for}
use Rattle.fx_model.specs.declared.Direction.{Direction}
use Rattle.fx_model.specs.declared.Direction.TheVariants.{Zr, Aw, Dn, Up, Od, Ne, No, Nz, Na, Nd}
use Rattle.fx_model.specs.declared.Direction.TheVariants.{Nu}
use Rattle.rounding.proofs.Floor.{floor-le, ceiling-le, floor_ceiling, ceiling_floor}
use Rattle.rounding.proofs.Floor.{floor_from_zero, ceiling_to_zero}
use Rattle.rounding.proofs.Nearest.{near_low_high, near_high_low, near_low-le, near_high-le}
use Rattle.rounding.proofs.Nearest.{near_low_from_zero, near_high_to_zero}

-- ---- two whole numbers next to each other, of which a test takes one
-- one below another is at most a whole number below it
apart : (a b c : ℤ) → ¬ (a ≡ c) → a ≤ℤ c → b ≤ℤ (a +ℤ pos 1) → b ≤ℤ c
apart a b c n h m = by_lt_z a c (λ l. omega (arith, ints)) (λ l. absurd (n (omega (arith, ints))))

-- the lower where it is even, of a pair at or below another pair
even_low : (a b c d : ℤ) (s t : Bool) → is_even a ≡ s → is_even c ≡ t → a ≤ℤ c → b ≤ℤ d
    → b ≤ℤ (a +ℤ pos 1) → c ≤ℤ d → (if s then a else b) ≤ℤ (if t then c else d)
even_low a b c d true true p q h k m n = h
even_low a b c d true false p q h k m n = omega (arith, ints)
even_low a b c d false false p q h k m n = k
even_low a b c d false true p q h k m n =
    apart a b c (λ e. let f : false ≡ true = sym p ∙ ap is_even e ∙ q in cc) h m

-- the upper where the lower is even
even_high : (a b c d : ℤ) (s t : Bool) → is_even a ≡ s → is_even c ≡ t → a ≤ℤ c → b ≤ℤ d
    → b ≤ℤ (a +ℤ pos 1) → c ≤ℤ d → (if s then b else a) ≤ℤ (if t then d else c)
even_high a b c d true true p q h k m n = k
even_high a b c d true false p q h k m n =
    apart a b c (λ e. let f : true ≡ false = sym p ∙ ap is_even e ∙ q in cc) h m
even_high a b c d false false p q h k m n = h
even_high a b c d false true p q h k m n = omega (arith, ints)

-- of a sign that only goes up
module _ (x y : Fraction) (h : x ≤ℚ y) where
  sign : (P : Bool → Bool → Type 0)
      → P true true → P false false → (x ≤ℚ zero_ℚ → zero_ℚ ≤ℚ y → P false true)
      → P (is_positive_or_zero x) (is_positive_or_zero y)
  sign P both none rise = by (is_positive_or_zero x) (is_positive_or_zero y) refl refl
    where
      by : (s t : Bool) → is_positive_or_zero x ≡ s → is_positive_or_zero y ≡ t → P s t
      by true true e f = both
      by false false e f = none
      by false true e f = rise (le_total zero_ℚ x e) (record { le = f })
      by true false e f = absurd (let k : zero_ℚ ≤ℚ y = le_trans zero_ℚ x y (record { le = e }) h in
          let g : true ≡ false = sym k.le ∙ f in cc)

-- Each direction is monotone.
pub whole_for-le : (d : Direction) (x y : Fraction) → x ≤ℚ y → whole_for d x ≤ℤ whole_for d y
unfolding whole_for
whole_for-le Dn x y h = floor-le x y h
whole_for-le Up x y h = ceiling-le x y h
whole_for-le Zr x y h = sign x y h (λ s t. (if s then floor x else ceiling x)
    ≤ℤ (if t then floor y else ceiling y)) (floor-le x y h) (ceiling-le x y h)
    (λ k l. let a = ceiling_to_zero x k in let b = floor_from_zero y l in omega (arith, ints))
whole_for-le Aw x y h = sign x y h (λ s t. (if s then ceiling x else floor x)
    ≤ℤ (if t then ceiling y else floor y)) (ceiling-le x y h) (floor-le x y h)
    (λ k l. let a = floor-le x y h in let b = floor_ceiling y in omega (arith, ints))
whole_for-le Od x y h = even_high (floor x) (ceiling x) (floor y) (ceiling y)
    (is_even (floor x)) (is_even (floor y)) refl refl (floor-le x y h) (ceiling-le x y h)
    (ceiling_floor x) (floor_ceiling y)
whole_for-le Nd x y h = near_low-le x y h
whole_for-le Nu x y h = near_high-le x y h
whole_for-le Ne x y h = even_low (near_low x) (near_high x) (near_low y) (near_high y)
    (is_even (near_low x)) (is_even (near_low y)) refl refl (near_low-le x y h) (near_high-le x y h)
    (near_high_low x) (near_low_high y)
whole_for-le No x y h = even_high (near_low x) (near_high x) (near_low y) (near_high y)
    (is_even (near_low x)) (is_even (near_low y)) refl refl (near_low-le x y h) (near_high-le x y h)
    (near_high_low x) (near_low_high y)
whole_for-le Nz x y h = sign x y h (λ s t. (if s then near_low x else near_high x)
    ≤ℤ (if t then near_low y else near_high y)) (near_low-le x y h) (near_high-le x y h)
    (λ k l. let a = near_high_to_zero x k in let b = near_low_from_zero y l in omega (arith, ints))
whole_for-le Na x y h = sign x y h (λ s t. (if s then near_high x else near_low x)
    ≤ℤ (if t then near_high y else near_low y)) (near_high-le x y h) (near_low-le x y h)
    (λ k l. let a = near_low-le x y h in let b = near_low_high y in omega (arith, ints))
