-- The greatest common divisor.
use Rattle.std.specs.Prelude.{◌≡◌, ℕ, ◌+◌, ◌*◌, ◌/◌, ◌%◌, ◌≤◌, ◌<◌, ◌==◌, Bool, true, false}
use Rattle.std.specs.Prelude.{if◌then◌else◌, refl}
use Rattle.std.specs.Int.{IsGcd, ◌∣◌}
use Rattle.std.proofs.Common.{arith, sym, ap, subst, zero, suc}
use Rattle.std.proofs.lemmas.Bool.{eqb-true}
use Rattle.std.proofs.lemmas.Nat.{div-add-mod', mod_below, mod-mul-add}
use Rattle.std.proofs.lemmas.Nat.Gcd.{IsGcd-from_zero, IsGcd-from_mod, same_from_IsGcd}
use Rattle.std.proofs.lemmas.Nat.Gcd.{dvd_antisymm, dvd-zero}
use Rattle.std.proofs.Math.Nat.{mul-dvd-mul_right, dvd-mul_left, dvd_of_mul-dvd-mul_right}
use Rattle.std.proofs.Math.Nat.{div-mul_cancel, one-dvd, mul-le-mul_right}

-- Euclid's steps, at most k of them
unfoldable pub gcd_within : ℕ → ℕ → ℕ → ℕ
gcd_within zero a b = a
gcd_within (suc k) a b = if b == 0 then a else gcd_within k b (a % b)

-- The greatest common divisor; b steps are enough.
abbrev pub gcd : ℕ → ℕ → ℕ
gcd a b = gcd_within b a b

-- ---- it is what it is called
rest_below : (a b k : ℕ) → b ≤ suc k → ¬ (b ≡ 0) → a % b ≤ k
rest_below a b k l n = let m = mod_below a b (omega arith) in omega arith

within_is : (k a b : ℕ) → b ≤ k → IsGcd a b (gcd_within k a b)
unfolding gcd_within
within_is zero a b l = IsGcd-from_zero a b (omega arith)
within_is (suc k) a b l = by (b == 0) refl (λ n. within_is k b (a % b) (rest_below a b k l n))
  where
    not_zero : (b == 0) ≡ false → ¬ (b ≡ 0)
    not_zero e z = let t : (0 == 0) ≡ false = subst (λ n. (n == 0) ≡ false) z e in cc

    by : (t : Bool) → (b == 0) ≡ t → (¬ (b ≡ 0) → IsGcd b (a % b) (gcd_within k b (a % b)))
        → IsGcd a b (if t then a else gcd_within k b (a % b))
    by true e rest = IsGcd-from_zero a b (eqb-true b 0 e)
    by false e rest = IsGcd-from_mod a b (gcd_within k b (a % b)) (rest (not_zero e))

pub gcd_is : (a b : ℕ) → IsGcd a b (gcd a b)
gcd_is a b = within_is b a b (omega arith)

pub gcd_positive : (a b : ℕ) → 0 < b → 0 < gcd a b
gcd_positive a b p = by (gcd a b) (gcd_is a b).1
  where
    by : (g : ℕ) → g ∣ b → 0 < g
    by zero h = let e : zero ≡ b = dvd_antisymm h (dvd-zero b) in absurd (omega arith)
    by (suc g) h = omega arith

-- ---- a common factor goes through
mod-scaled : (a b k : ℕ) → 0 < b → 0 < k → (a * k) % (b * k) ≡ (a % b) * k
mod-scaled a b k p q =
    let e = div-add-mod' a b in
    let l : suc (a % b) ≤ b = mod_below a b p in
    let m : suc (a % b) * k ≤ b * k = mul-le-mul_right k l in
    let s : (a / b) * (b * k) + (a % b) * k ≡ a * k = omega (arith, ap (λ n. n * k) e) in
    subst (λ n. n % (b * k) ≡ (a % b) * k) s
    (mod-mul-add (a / b) (b * k) ((a % b) * k) (omega arith))

back_step : (a b g : ℕ) → IsGcd a b g → IsGcd b (a % b) g
back_step a b g h = let r = gcd_is b (a % b) in
    subst (λ k. IsGcd b (a % b) k)
    (same_from_IsGcd a b (gcd b (a % b)) g (IsGcd-from_mod a b (gcd b (a % b)) r) h) r

scaled_within : (n k a b g : ℕ) → 0 < k → b ≤ n → IsGcd a b g → IsGcd (a * k) (b * k) (g * k)
scaled_within n k a zero g p l h = let e : a ≡ g =
    same_from_IsGcd a zero a g (IsGcd-from_zero a zero refl) h in
    subst (λ c. IsGcd (a * k) (zero * k) (c * k)) e
    (IsGcd-from_zero (a * k) (zero * k) (omega arith))
scaled_within zero k a (suc b) g p l h = absurd (omega arith)
scaled_within (suc n) k a (suc b) g p l h =
    let m = mod_below a (suc b) (omega arith) in
    let r : IsGcd (suc b * k) ((a % suc b) * k) (g * k) =
    scaled_within n k (suc b) (a % suc b) g p (omega arith) (back_step a (suc b) g h) in
    IsGcd-from_mod (a * k) (suc b * k) (g * k)
    (subst (λ c. IsGcd (suc b * k) c (g * k)) (sym (mod-scaled a (suc b) k (omega arith) p)) r)

pub gcd_scaled : (k a b g : ℕ) → 0 < k → IsGcd a b g → IsGcd (a * k) (b * k) (g * k)
gcd_scaled k a b g p h = scaled_within b k a b g p (omega arith) h

-- ---- numbers with no common divisor but 1
abbrev pub AreCoprime : ℕ → ℕ → Type 0
AreCoprime a b = IsGcd a b 1

-- what divides a product, and has nothing in common with one factor, divides the other
pub divides_other : (a b d : ℕ) → AreCoprime a d → d ∣ a * b → d ∣ b
divides_other a zero d h k = dvd-zero d
divides_other a (suc b) d h k =
    let s = gcd_scaled (suc b) a d 1 (omega arith) h in
    let r : d ∣ 1 * suc b = s.2 d k (let e : suc b * d ≡ d * suc b = omega arith in
    subst (λ n. d ∣ n) e (dvd-mul_left d (suc b))) in
    subst (λ n. d ∣ n) (let e : 1 * suc b ≡ suc b = omega arith in e) r

-- a and b without their greatest common divisor
pub cofactors : (a b g : ℕ) → 0 < g → IsGcd a b g → AreCoprime (a / g) (b / g)
cofactors a b g p h = (
  one-dvd (a / g),
  one-dvd (b / g),
  (λ d i j.
      dvd_of_mul-dvd-mul_right d p
      (subst (λ n. d * g ∣ n) one (h.2 (d * g) (lifted a h.0 d i) (lifted b h.1 d j)))),
)
  where
    one : g ≡ 1 * g
    one = omega arith

    lifted : (n : ℕ) → g ∣ n → (d : ℕ) → d ∣ n / g → d * g ∣ n
    lifted n k d i = subst (λ m. d * g ∣ m) (div-mul_cancel g k) (mul-dvd-mul_right d i g)
