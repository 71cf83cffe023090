-- Shifts of signed numbers.
use mir.Syntax.{w64, w128}
use mir.Val.{to_z, of_z}
use Rattle.std.proofs.Common.{◌≡◌, ℕ, ℤ, pos, negsuc, ◌*ℤ◌, ◌<◌, ◌≤◌, ◌*◌, ◌+◌, ◌/◌, ◌%◌, ◌^◌}
use Rattle.std.proofs.Common.{arith, ap, sym, ◌∙◌, ⊎_elim, lit≤, lit<}
use Rattle.std.specs.Int.Signed.{shr_z}
use Rattle.std.proofs.lemmas.Bool.{cases_lt}
use Rattle.std.proofs.lemmas.Nat.{div-add-mod', mod_below, pow_pos, shl-shr}
use Rattle.std.specs.Int.RustNames.{unsigned_abs, FitsSigned}
use Rattle.std.proofs.lemmas.Int.{ints, to_z-of_z, fits_signed_mul, fits_signed_from_abs}
use Rattle.std.proofs.lemmas.Int.{unsigned_abs-mul}
use Rattle.std.proofs.Math.Nat.{pow-le-pow_right, mul-le-mul_left, mul-le-mul_right, div-le_self}
use Rattle.std.proofs.Math.Nat.{mod-eq_of_lt}

module _ (n n' p : ℤ) (k : ℕ) (e : n' ≡ n) (small : unsigned_abs n < 73786976294838206464)
    (f : p ≡ pos (2 ^ k)) (few : k ≤ 60) where
  power_small : 2 ^ k ≤ 2 ^ 60
  power_small = pow-le-pow_right {n = 2} (lit≤ tt) {i = k} {j = 60} few

  pub product_fits : FitsSigned w128 (n' *ℤ p)
  product_fits = let q = power_small in fits_signed_mul w128 n' p (2 ^ 66) (2 ^ 60)
      (omega (arith, ints)) (omega (arith, ints)) (lit< tt)

  pub product_is : to_z w128 (of_z w128 (n' *ℤ p)) ≡ (n *ℤ pos (2 ^ k))
  product_is = to_z-of_z w128 (n' *ℤ p) product_fits ∙ (λ i. e i *ℤ f i)

pub product_small : (n : ℤ) (k : ℕ) (r : ℤ)
    → r ≡ (n *ℤ pos (2 ^ k)) → unsigned_abs n < 73786976294838206464 → k ≤ 60
    → unsigned_abs r < 85070591730234615865843651857942052864
product_small n k r e small few =
    let p : 2 ^ k ≤ 2 ^ 60 = pow-le-pow_right {n = 2} (lit≤ tt) {i = k} {j = 60} few in
    let a : unsigned_abs n * 2 ^ k ≤ unsigned_abs n * 2 ^ 60 = mul-le-mul_left (unsigned_abs n) p in
    let s : unsigned_abs r ≡ unsigned_abs n * 2 ^ k =
    ap unsigned_abs e ∙ unsigned_abs-mul n (pos (2 ^ k)) in
    omega arith

-- ---- shifts within 64 bits
pub raised_fits : (m m' p : ℤ) (k : ℕ) → m' ≡ m → p ≡ pos (2 ^ k)
    → unsigned_abs m * 2 ^ k < 4611686018427387904 → FitsSigned w64 (m' *ℤ p)
raised_fits m m' p k e f h =
    fits_signed_from_abs w64 (m' *ℤ p) (let s : unsigned_abs (m' *ℤ p) ≡ unsigned_abs m * 2 ^ k =
    (λ i. unsigned_abs (e i *ℤ f i)) ∙ unsigned_abs-mul m (pos (2 ^ k)) in omega arith)

pub shr_size : (m : ℤ) (p : ℕ) → unsigned_abs (shr_z m p) ≤ unsigned_abs m
shr_size (pos a) p = div-le_self a p
shr_size (negsuc a) p = let d = div-le_self a p in omega (arith, ints)

pub shr_fits : (m : ℤ) (p : ℕ) → FitsSigned w64 m → FitsSigned w64 (shr_z m p)
shr_fits (pos a) p f = let d = div-le_self a p in let s = f.sfits in record { sfits = omega arith }
shr_fits (negsuc a) p f = let d = div-le_self a p in let s = f.sfits in
    record { sfits = omega arith }

pub long_power : (k : ℕ) → k ≤ 61 → to_z w64 (1 * 2 ^ k % 18446744073709551616) ≡ pos (2 ^ k)
long_power k h = let p : 2 ^ k ≤ 2 ^ 61 = pow-le-pow_right {n = 2} (lit≤ tt) {i = k} {j = 61} h in
    let e : 1 * 2 ^ k % 18446744073709551616 ≡ 2 ^ k = mod-eq_of_lt (omega arith) ∙ omega arith in
    ap (to_z w64) e ∙ omega (arith, ints)

-- a number without the zeros at its end
pub odd_shift : (d : ℤ) (odd s : ℕ) → odd * 2 ^ s ≡ unsigned_abs d
    → (unsigned_abs (shr_z d (2 ^ s)) ≡ odd) × ((shr_z d (2 ^ s) *ℤ pos (2 ^ s)) ≡ d)
odd_shift (pos a) odd s h = let q : a / 2 ^ s ≡ odd = ap (λ n. n / 2 ^ s) (sym h) ∙ shl-shr odd s in
    (q, ap (λ n. pos n *ℤ pos (2 ^ s)) q ∙ ap pos h)
odd_shift (negsuc a) odd s h =
    let d = div-add-mod' a (2 ^ s) in let m = mod_below a (2 ^ s) (pow_pos s) in
    let low : odd ≤ a / 2 ^ s + 1 = ⊎_elim (λ l. let p : (a / 2 ^ s + 2) * 2 ^ s ≤ odd * 2 ^ s =
    mul-le-mul_right (2 ^ s) (omega arith) in
    absurd (omega (arith, pow_pos s))) (λ l. l) (cases_lt (a / 2 ^ s + 1) odd) in
    let high : a / 2 ^ s < odd = ⊎_elim (λ l. l) (λ l. let p : odd * 2 ^ s ≤ a / 2 ^ s * 2 ^ s =
    mul-le-mul_right (2 ^ s) l in absurd (omega arith)) (cases_lt (a / 2 ^ s) odd) in
    let q : a / 2 ^ s + 1 ≡ odd = omega arith in
    let t : (a / 2 ^ s + 1) * 2 ^ s ≡ a + 1 = ap (λ n. n * 2 ^ s) q ∙ h ∙ omega arith in
    (omega arith, omega (arith, ints))
