-- Sums whose parts lie far apart.
use mathlib.Core.Bool.{beq}
use lib.IntN.{neg_ℤ}
use lib.Dec.{lt→ltb, T}
use Rattle.std.proofs.Common.{◌≡◌, ℕ, ℤ, pos, ◌+ℤ◌, ◌*ℤ◌, ◌*◌, ◌+◌, ◌-◌, ◌^◌, ◌<◌, ◌≤◌, Bool, true}
use Rattle.std.proofs.Common.{false, nat_lt, arith, ap, sym, subst, ◌∙◌, refl, not, suc, ◌%◌}
use Rattle.std.proofs.Common.{⊎_elim, lit≤}
use Rattle.std.specs.Int.RustNames.{int_lt, unsigned_abs}
use Rattle.std.proofs.lemmas.Int.{ints}
use Rattle.std.proofs.Math.Nat.{pow-le-pow_right, mul-le-mul_left, mul-le-mul_right, mod-eq_of_lt}
use Rattle.std.proofs.lemmas.Nat.{pow_pos, pow-add}
use Rattle.std.proofs.lemmas.Bool.{cases_lt}
use Rattle.fx_model.specs.Fraction.{Fraction, ◌+ℚ◌, neg_ℚ, neg-neg, neg-add, zero-add}
use Rattle.fx_model.specs.Powers.{whole, scaled, scaled-shift, scaled-zero}
use Rattle.fx_model.proofs.Powers.{scaled-add}
use Rattle.fx_model.specs.Grid.{signed, scaled-neg}
use Rattle.fx_model.proofs.Grid.{signed-size}
use Rattle.fx_model.specs.Cut.{Cuts}
use Rattle.dyadic.proofs.NumberLemmas.{same_cut}
use Rattle.dyadic.specs.declared.number.Dyadic.{Dyadic}
use Rattle.dyadic.specs.Values.{value_of}
use Rattle.dyadic.proofs.CutLemmas.{narrow_cuts}

is_true : (b : Bool) → T b → b ≡ true
is_true true t = refl
is_true false t = absurd t

module _ (low kept rest lost : ℕ) (base two : ℤ) (x : Fraction) (at : two ≡ base +ℤ pos lost)
    (split : kept * 2 ^ lost + rest ≡ low) (small : rest < 2 ^ lost) where
  pub far_plus : (top : ℕ) → x ≡ scaled (pos (top * 2 ^ lost + low)) base
      → Cuts x (top + kept) two (nat_lt 0 rest)
  far_plus top e = narrow_cuts (top * 2 ^ lost + low) base false lost
      (top + kept) rest two at (omega arith) small x e

  far_exact_by : (d : ℕ) → rest ≡ 0
      → x ≡ scaled (pos ((d + kept) * 2 ^ lost - low)) base → Cuts x d two false
  far_exact_by d z e = narrow_cuts ((d + kept) * 2 ^ lost - low) base false lost d 0 two at
      (omega arith) (omega arith) x e

  pub far_exact : (top : ℕ) → kept ≤ top → rest ≡ 0 → x ≡ scaled (pos (top * 2 ^ lost - low)) base
      → Cuts x (top - kept) two false
  far_exact top k z e = let t : top ≡ (top - kept) + kept = omega arith in
      far_exact_by (top - kept) z (e ∙ ap (λ n. scaled (pos (n * 2 ^ lost - low)) base) t)

  far_minus_by : (d : ℕ) → 0 < rest
      → x ≡ scaled (pos ((d + 1 + kept) * 2 ^ lost - low)) base → Cuts x d two true
  far_minus_by d p e = subst (λ i. Cuts x d two i) (is_true (nat_lt 0 (2 ^ lost - rest))
      (lt→ltb 0 (2 ^ lost - rest) (omega arith))) (narrow_cuts ((d + 1 + kept) * 2 ^ lost - low)
      base false lost d (2 ^ lost - rest) two at (omega arith) (omega arith) x e)

  pub far_minus : (top : ℕ) → kept + 1 ≤ top → 0 < rest
      → x ≡ scaled (pos (top * 2 ^ lost - low)) base → Cuts x (top - kept - 1) two true
  far_minus top k p e = let t : top ≡ (top - kept - 1) + 1 + kept = omega arith in
      far_minus_by (top - kept - 1) p (e ∙ ap (λ n. scaled (pos (n * 2 ^ lost - low)) base) t)

-- ---- the sum of two terms, by their sizes and signs
pub signed-add : (n : Bool) (x y : Fraction) → signed n (x +ℚ y) ≡ signed n x +ℚ signed n y
signed-add true x y = neg-add x y
signed-add false x y = refl

equal_signs : (s t : Bool) → not (beq s t) ≡ false → t ≡ s
equal_signs true true h = refl
equal_signs true false h = cc
equal_signs false true h = cc
equal_signs false false h = refl

other_signs : (s t : Bool) → not (beq s t) ≡ true → t ≡ not s
other_signs true true h = cc
other_signs true false h = refl
other_signs false true h = refl
other_signs false false h = cc

signed-not : (s : Bool) (x : Fraction) → signed s x ≡ neg_ℚ (signed (not s) x)
signed-not true x = refl
signed-not false x = sym (neg-neg x)

module _ (am ae bm be : ℤ) (s t : Bool) (gap : ℕ) (p : s ≡ int_lt am (pos 0))
    (q : t ≡ int_lt bm (pos 0)) (r : ae ≡ be +ℤ pos gap) where
  high_part : signed s (scaled am ae) ≡ scaled (pos (unsigned_abs am * 2 ^ gap)) be
  high_part = signed-size am ae s p ∙ ap (scaled (pos (unsigned_abs am))) r
      ∙ scaled-shift (pos (unsigned_abs am)) be gap

  pub sum_plus : not (beq s t) ≡ false → signed s (scaled am ae +ℚ scaled bm be)
      ≡ scaled (pos (unsigned_abs am * 2 ^ gap + unsigned_abs bm)) be
  sum_plus h =
      signed-add s (scaled am ae) (scaled bm be) ∙ ap (λ y. y +ℚ signed s (scaled bm be)) high_part
      ∙ ap (λ y. scaled (pos (unsigned_abs am * 2 ^ gap)) be +ℚ y)
      (signed-size bm be s (sym (equal_signs s t h) ∙ q))
      ∙ scaled-add (pos (unsigned_abs am * 2 ^ gap)) (pos (unsigned_abs bm)) be

  difference : not (beq s t) ≡ true → signed s (scaled am ae +ℚ scaled bm be)
      ≡ scaled (pos (unsigned_abs am * 2 ^ gap) +ℤ neg_ℤ (pos (unsigned_abs bm))) be
  difference h =
      signed-add s (scaled am ae) (scaled bm be) ∙ ap (λ y. y +ℚ signed s (scaled bm be)) high_part
      ∙ ap (λ y. scaled (pos (unsigned_abs am * 2 ^ gap)) be +ℚ y) (signed-not s (scaled bm be)
      ∙ ap neg_ℚ (signed-size bm be (not s) (sym (other_signs s t h) ∙ q))
      ∙ sym (scaled-neg (pos (unsigned_abs bm)) be))
      ∙ scaled-add (pos (unsigned_abs am * 2 ^ gap)) (neg_ℤ (pos (unsigned_abs bm))) be

  pub sum_minus : not (beq s t) ≡ true
      → unsigned_abs bm ≤ unsigned_abs am * 2 ^ gap → signed s (scaled am ae +ℚ scaled bm be)
      ≡ scaled (pos (unsigned_abs am * 2 ^ gap - unsigned_abs bm)) be
  sum_minus h k = difference h ∙ ap (λ m. scaled m be) (omega (arith, ints))

  pub sum_swapped : not (beq s t) ≡ true
      → unsigned_abs am * 2 ^ gap < unsigned_abs bm → signed (not s) (scaled am ae +ℚ scaled bm be)
      ≡ scaled (pos (unsigned_abs bm - unsigned_abs am * 2 ^ gap)) be
  sum_swapped h k = sym (neg-neg (signed (not s) (scaled am ae +ℚ scaled bm be)))
      ∙ ap neg_ℚ (sym (signed-not s (scaled am ae +ℚ scaled bm be)) ∙ difference h)
      ∙ sym (scaled-neg (pos (unsigned_abs am * 2 ^ gap) +ℤ neg_ℤ (pos (unsigned_abs bm))) be)
      ∙ ap (λ m. scaled m be) (omega (arith, ints))

-- ---- room above a number
below_66 : (j size : ℕ) → 2 ^ j ≤ size → size < 2 ^ 66 → j < 66
below_66 j size h k = ⊎_elim (λ l. l) (λ l. let p : 2 ^ 66 ≤ 2 ^ j =
    pow-le-pow_right {n = 2} (lit≤ tt) {i = 66} {j = j} l in absurd (omega arith)) (cases_lt j 66)

-- a number whose first digit is at place j, shifted so far that it is at the place top
pub shifted_to : (top size room j : ℕ) → j + room ≡ top → 2 ^ j ≤ size → size < 2 ^ suc j
    → (2 ^ top ≤ size * 2 ^ room) × (size * 2 ^ room < 2 ^ suc top)
shifted_to top size room j e h k =
    let low : 2 ^ j * 2 ^ room ≡ 2 ^ top = sym (pow-add 2 j room) ∙ ap (λ n. 2 ^ n) e in
    let high : 2 ^ suc j * 2 ^ room ≡ 2 ^ suc top = sym (pow-add 2 (suc j) room)
    ∙ ap (λ n. 2 ^ n) (let f : suc j + room ≡ suc top = omega arith in f) in
    let p = mul-le-mul_right (2 ^ room) h in
    let q = mul-le-mul_right (2 ^ room) k in let r = pow_pos room in
    (omega arith, omega arith)

pub room_facts : (size lz j : ℕ) → lz + suc j ≡ 128 → 2 ^ j ≤ size → size < 2 ^ suc j
    → size < 2 ^ 66 → (2 ≤ lz) × (2 ^ 125 ≤ size * 2 ^ (lz - 2)) × (size * 2 ^ (lz - 2) < 2 ^ 126)
room_facts size lz j e h k l = let b = below_66 j size h l in
    let s = shifted_to 125 size (lz - 2) j (omega arith) h k in (omega arith, s.0, s.1)

pub shift_small : (size gap room : ℕ) → gap ≤ room → size * 2 ^ room < 2 ^ 126
    → (size * 2 ^ gap < 2 ^ 126) × ((size * 2 ^ gap) % 2 ^ 128 ≡ size * 2 ^ gap)
shift_small size gap room h k =
    let p : 2 ^ gap ≤ 2 ^ room = pow-le-pow_right {n = 2} (lit≤ tt) {i = gap} {j = room} h in
    let q = mul-le-mul_left size p in
    (omega arith, mod-eq_of_lt (omega arith))

pub zero_left : (m e : ℤ) (y : Fraction) → m ≡ pos 0 → scaled m e +ℚ y ≡ y
zero_left m e y h = ap (λ m. scaled m e +ℚ y) h ∙ ap (λ x. x +ℚ y) (scaled-zero e) ∙ zero-add y

module _ (am ae bm be : ℤ) (s t : Bool) (gap : ℕ) (p : s ≡ int_lt am (pos 0))
    (q : t ≡ int_lt bm (pos 0)) (r : ae ≡ be +ℤ pos gap) where
  total : Fraction
  total = scaled am ae +ℚ scaled bm be

  by_sign : (n k : Bool) (d e : ℕ) (f g : ℤ) (i : Bool)
      → signed k (scaled am ae +ℚ scaled bm be) ≡ scaled (pos e) g → n ≡ k → d ≡ e → f ≡ g
      → i ≡ false → Cuts (signed n (scaled am ae +ℚ scaled bm be)) d f i
  by_sign n k d e f g i c a b h j =
      subst (λ n. Cuts (signed n (scaled am ae +ℚ scaled bm be)) d f i) (sym a)
      (same_cut (signed k (scaled am ae +ℚ scaled bm be)) e g false d f i c b h j)

  pub near_cuts : (m n : Bool) (high low digits : ℕ) (e : ℤ) (i : Bool) → not (beq s t) ≡ m
      → high ≡ unsigned_abs am * 2 ^ gap → low ≡ unsigned_abs bm
      → (m ≡ false → (n ≡ s) × (digits ≡ high + low))
      → (m ≡ true → low ≤ high → (n ≡ s) × (digits ≡ high - low))
      → (m ≡ true → high < low → (n ≡ not s) × (digits ≡ low - high))
      → e ≡ be → i ≡ false → Cuts (signed n (scaled am ae +ℚ scaled bm be)) digits e i
  near_cuts false n high low digits e i h f g plus minus swapped k j = let a = plus refl in
      by_sign n s digits _ e be i (sum_plus am ae bm be s t gap p q r h) a.0 (omega arith) k j
  near_cuts true n high low digits e i h f g plus minus swapped k j = ⊎_elim
      (λ l. let a = swapped refl l in by_sign n (not s) digits _ e be i
      (sum_swapped am ae bm be s t gap p q r h (omega arith)) a.0 (omega arith) k j)
      (λ l. let a = minus refl l in by_sign n s digits _ e be i
      (sum_minus am ae bm be s t gap p q r h (omega arith)) a.0 (omega arith) k j)
      (cases_lt high low)

  pub far_cuts : (base : ℤ)
      → base ≡ be → (m : Bool) (top low lost room digits : ℕ) (e : ℤ) (i : Bool) → not (beq s t) ≡ m
      → top ≡ unsigned_abs am * 2 ^ room → low ≡ unsigned_abs bm → room + lost ≡ gap → low ≤ top
      → (m ≡ false → (x : Fraction) → x ≡ scaled (pos (top * 2 ^ lost + low)) base
      → Cuts x digits e i) → (m ≡ true → (x : Fraction)
      → x ≡ scaled (pos (top * 2 ^ lost - low)) base → Cuts x digits e i)
      → Cuts (signed s (scaled am ae +ℚ scaled bm be)) digits e i
  far_cuts base c m top low lost room digits e i h f g k l plus minus = by m refl
    where
      whole : top * 2 ^ lost ≡ unsigned_abs am * 2 ^ gap
      whole = ap (λ n. n * 2 ^ lost) f
          ∙ omega (arith, ap (λ n. unsigned_abs am * n) (sym (pow-add 2 room lost)))
          ∙ ap (λ n. unsigned_abs am * 2 ^ n) k

      fits : low ≤ top * 2 ^ lost
      fits = let u : top * 1 ≤ top * 2 ^ lost = mul-le-mul_left top (pow_pos lost) in omega arith

      by : (b : Bool) → m ≡ b → Cuts (signed s (scaled am ae +ℚ scaled bm be)) digits e i
      by false z = plus z (signed s (scaled am ae +ℚ scaled bm be))
          (sum_plus am ae bm be s t gap p q r (h ∙ z) ∙ ap (λ n. scaled (pos n) be)
          (let w = whole in omega arith) ∙ ap (scaled (pos (top * 2 ^ lost + low))) (sym c))
      by true z = minus z (signed s (scaled am ae +ℚ scaled bm be))
          (sum_minus am ae bm be s t gap p q r (h ∙ z) (let w = whole in
          let v = fits in omega arith) ∙ ap (λ n. scaled (pos n) be) (let w = whole in omega arith)
          ∙ ap (scaled (pos (top * 2 ^ lost - low))) (sym c))

pub terms_are : (a b : Dyadic) (am ae bm be : ℤ) → am ≡ a.mantissa → ae ≡ a.exponent
    → bm ≡ b.mantissa → be ≡ b.exponent → scaled am ae +ℚ scaled bm be ≡ value_of a +ℚ value_of b
terms_are a b am ae bm be p q r s = cc

-- at one place the mantissas add up
pub near_sum_is : (am am' ae bm be s m e : ℤ) (k : ℕ) → ae ≡ be +ℤ pos k → s ≡ (am' *ℤ pos (2 ^ k))
    → am' ≡ am → m ≡ s +ℤ bm → e ≡ be → scaled m e ≡ scaled am ae +ℚ scaled bm be
near_sum_is am am' ae bm be s m e k p v w q r = (λ i. scaled (q i) (r i)) ∙ sym (scaled-add s bm be)
    ∙ ap (λ y. y +ℚ scaled bm be) (ap (λ s. scaled s be) (v ∙ ap (λ m. m *ℤ pos (2 ^ k)) w)
    ∙ sym (ap (scaled am) p ∙ scaled-shift am be k))
