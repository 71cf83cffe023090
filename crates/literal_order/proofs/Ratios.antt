-- Values that are a whole number times a power of two over a whole number.
use Rattle.std.proofs.Common.{◌≡◌, ℕ, ℤ, pos, ◌+ℤ◌, ◌*◌, ◌^◌, ◌<◌, nat_lt, Bool, IsTrue, ◌↔◌, sym}
use Rattle.std.proofs.Common.{ap, ◌∙◌, subst, arith}
use Rattle.std.proofs.lemmas.Int.{ints}
use Rattle.std.proofs.lemmas.Bool.{ltb-true, lt-ltb}
use Rattle.fx_model.specs.Fraction.{Fraction, ◌*ℚ◌, ◌≤ℚ◌, ◌<ℚ◌, zero_ℚ, lt_le, mul-le_cancel}
use Rattle.fx_model.specs.Fraction.{mul-lt, mul_comm, mul_assoc, zero-mul}
use Rattle.fx_model.proofs.Fraction.{mul-lt_cancel}
use Rattle.fx_model.specs.Powers.{whole, scaled, scaled-lt, scaled-lt_out, scaled-le, scaled-shift}
use Rattle.fx_model.specs.Powers.{scaled-zero}
use Rattle.fx_model.proofs.Cut.Digits.{scaled_times}
use Rattle.literal.proofs.Tens.{whole_positive}

-- the value is n * 2^t / d
pub record IsRatio (v : Fraction) (n d : ℕ) (t : ℤ) : Type 0 where
  pub value : whole (pos d) *ℚ v ≡ scaled (pos n) t
  pub some : 0 < d

-- two of them compare as their numbers across, at their places
pub across : (x y : Fraction) (n d m e : ℕ) (t u : ℤ) → IsRatio x n d t → IsRatio y m e u
    → scaled (pos (n * e)) t <ℚ scaled (pos (m * d)) u ↔ x <ℚ y
across x y n d m e t u a b =
    let p = whole_positive d a.some in
    let q = whole_positive e b.some in
    let f : whole (pos e) *ℚ (whole (pos d) *ℚ x) ≡ scaled (pos (n * e)) t =
    ap (λ z. whole (pos e) *ℚ z) a.value ∙ scaled_times n e t in
    let g : whole (pos e) *ℚ (whole (pos d) *ℚ y) ≡ scaled (pos (m * d)) u =
    sym (mul_assoc (whole (pos e)) (whole (pos d)) y) ∙ ap (λ z. z *ℚ y)
    (mul_comm (whole (pos e)) (whole (pos d))) ∙ mul_assoc (whole (pos d)) (whole (pos e)) y
    ∙ ap (λ z. whole (pos d) *ℚ z) b.value ∙ scaled_times m d u in (
      λ h. mul-lt_cancel (whole (pos d)) x y (lt_le zero_ℚ (whole (pos d)) p)
          (mul-lt_cancel (whole (pos e)) (whole (pos d) *ℚ x) (whole (pos d) *ℚ y)
          (lt_le zero_ℚ (whole (pos e)) q) (subst (λ z. z <ℚ whole (pos e) *ℚ (whole (pos d) *ℚ y))
          (sym f) (subst (λ z. scaled (pos (n * e)) t <ℚ z) (sym g) h))),
      λ h. subst (λ z. z <ℚ scaled (pos (m * d)) u) f
          (subst (λ z. whole (pos e) *ℚ (whole (pos d) *ℚ x) <ℚ z) g (mul-lt (whole (pos e))
          (whole (pos d) *ℚ x) (whole (pos d) *ℚ y) q (mul-lt (whole (pos d)) x y p h))),
    )

-- ---- at one place
raised : (m g : ℕ) (t u : ℤ) → t ≡ u +ℤ pos g → scaled (pos m) t ≡ scaled (pos (m * 2 ^ g)) u
raised m g t u e = ap (scaled (pos m)) e ∙ scaled-shift (pos m) u g

at_place : (m n : ℕ) (t : ℤ) → m < n ↔ scaled (pos m) t <ℚ scaled (pos n) t
at_place m n t = (
  λ h. scaled-lt (pos m) (pos n) t (omega (arith, ints)),
  λ h. let k = scaled-lt_out (pos m) (pos n) t h in omega (arith, ints),
)

pub above_place : (m n g : ℕ) (t u : ℤ) → t ≡ u +ℤ pos g
    → m * 2 ^ g < n ↔ scaled (pos m) t <ℚ scaled (pos n) u
above_place m n g t u e =
    let a = at_place (m * 2 ^ g) n u in (
      λ h. subst (λ z. z <ℚ scaled (pos n) u) (sym (raised m g t u e)) (a.0 h),
      λ h. a.1 (subst (λ z. z <ℚ scaled (pos n) u) (raised m g t u e) h),
    )

pub below_place : (m n g : ℕ) (t u : ℤ) → u ≡ t +ℤ pos g
    → m < n * 2 ^ g ↔ scaled (pos m) t <ℚ scaled (pos n) u
below_place m n g t u e =
    let a = at_place m (n * 2 ^ g) t in (
      λ h. subst (λ z. scaled (pos m) t <ℚ z) (sym (raised n g u t e)) (a.0 h),
      λ h. a.1 (subst (λ z. scaled (pos m) t <ℚ z) (raised n g u t e) h),
    )

-- ---- their signs
times_zero : (d : ℕ) → whole (pos d) *ℚ zero_ℚ ≡ zero_ℚ
times_zero d = mul_comm (whole (pos d)) zero_ℚ ∙ zero-mul (whole (pos d))

pub from_zero : (x : Fraction) (n d : ℕ) (t : ℤ) → IsRatio x n d t → zero_ℚ ≤ℚ x
from_zero x n d t a =
    let h : zero_ℚ ≤ℚ scaled (pos n) t = subst (λ z. z ≤ℚ scaled (pos n) t) (scaled-zero t)
    (scaled-le (pos 0) (pos n) t (omega (arith, ints))) in
    mul-le_cancel (whole (pos d)) zero_ℚ x (whole_positive d a.some) (subst
    (λ z. z ≤ℚ whole (pos d) *ℚ x) (sym (times_zero d)) (subst (λ z. zero_ℚ ≤ℚ z) (sym a.value) h))

pub some_size : (x : Fraction) (n d : ℕ) (t : ℤ) → IsRatio x n d t → 0 < n ↔ zero_ℚ <ℚ x
some_size x n d t a =
    let p = whole_positive d a.some in
    let s = at_place 0 n t in (
      λ h. mul-lt_cancel (whole (pos d)) zero_ℚ x (lt_le zero_ℚ (whole (pos d)) p)
          (subst (λ z. z <ℚ whole (pos d) *ℚ x) (sym (times_zero d)) (subst (λ z. zero_ℚ <ℚ z)
          (sym a.value) (subst (λ z. z <ℚ scaled (pos n) t) (scaled-zero t) (s.0 h)))),
      λ h. s.1 (subst (λ z. z <ℚ scaled (pos n) t) (sym (scaled-zero t))
          (subst (λ z. zero_ℚ <ℚ z) a.value (subst (λ z. z <ℚ whole (pos d) *ℚ x) (times_zero d)
          (mul-lt (whole (pos d)) zero_ℚ x p h)))),
    )

pub tested : (n : ℕ) (P : Type 0) → 0 < n ↔ P → IsTrue (nat_lt 0 n) ↔ P
tested n P h = (λ e. h.0 (ltb-true 0 n e), λ p. lt-ltb 0 n (h.1 p))

-- ---- the test of the code: the numbers across, of which one is raised
pub chained : {P Q R : Type 0} → P ↔ Q → Q ↔ R → P ↔ R
chained h k = (λ p. k.0 (h.0 p), λ r. h.1 (k.1 r))

module _ (x y : Fraction) (n d m e : ℕ) (t u : ℤ) (a : IsRatio x n d t)
    (b : IsRatio y m e u) (gap : ℕ) where
  pub across_below : u ≡ t +ℤ pos gap → (mine other : ℕ) → mine ≡ n * e → other ≡ m * d
      → (less : Bool) → IsTrue less ↔ mine < other * 2 ^ gap → IsTrue less ↔ x <ℚ y
  across_below g mine other p q less h = chained h
      (chained (subst (λ k. mine < other * 2 ^ gap ↔ scaled (pos k) t <ℚ scaled (pos (m * d)) u) p
      (subst (λ k. mine < other * 2 ^ gap ↔ scaled (pos mine) t <ℚ scaled (pos k) u) q
      (below_place mine other gap t u g))) (across x y n d m e t u a b))

  pub across_above : t ≡ u +ℤ pos gap → (mine other : ℕ) → mine ≡ n * e → other ≡ m * d
      → (less : Bool) → IsTrue less ↔ mine * 2 ^ gap < other → IsTrue less ↔ x <ℚ y
  across_above g mine other p q less h = chained h
      (chained (subst (λ k. mine * 2 ^ gap < other ↔ scaled (pos k) t <ℚ scaled (pos (m * d)) u) p
      (subst (λ k. mine * 2 ^ gap < other ↔ scaled (pos mine) t <ℚ scaled (pos k) u) q
      (above_place mine other gap t u g))) (across x y n d m e t u a b))
