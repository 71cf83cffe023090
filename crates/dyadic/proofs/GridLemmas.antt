-- Odd mantissas, and which of them are on the grid.
use Rattle.std.proofs.Common.{◌≡◌, ◌⊎◌, ℕ, zero, suc, ℤ, pos, negsuc, ◌+ℤ◌, ◌≤ℤ◌, ◌<◌, ◌≤◌, ◌*◌}
use Rattle.std.proofs.Common.{◌+◌, ◌/◌, ◌%◌, ◌^◌, arith, ap, sym, subst, ◌∙◌, refl, Bool, true}
use Rattle.std.proofs.Common.{false, inl, inr, ⊎_elim, lit≤}
use Rattle.std.specs.Int.RustNames.{unsigned_abs, int_lt}
use Rattle.std.specs.Int.{bit_at}
use Rattle.std.proofs.lemmas.Int.{ints, by_lt_z}
use Rattle.std.proofs.lemmas.Nat.{pow-add, pow_pos, mod-pow-add, shr_split, mod_below}
use Rattle.std.proofs.lemmas.Bool.{cases_lt}
use Rattle.std.proofs.Math.Nat.{mul-le-mul_right, pow-le-pow_right}
use Rattle.fx_model.specs.Fraction.{Fraction, zero_ℚ}
use Rattle.fx_model.specs.Powers.{scaled, scaled-shift, scaled-zero, scaled-same}
use Rattle.fx_model.specs.Grid.{IsOnGrid, IsOnGrid-neg, signed}
use Rattle.fx_model.proofs.Grid.{signed-size, signed-signed}
use Rattle.fx_model.specs.Cut.{on_grid}
use Rattle.dyadic.specs.Odd.{above}
use Rattle.dyadic.specs.Canonical.{IsCanonical, odd_canonical}

-- ---- a number as odd * 2^shift
low_zeros : (n t : ℕ) → ((i : ℕ) → i < t → bit_at n i ≡ 0) → n % 2 ^ t ≡ 0
low_zeros n zero f = omega arith
low_zeros n (suc t) f =
    let e : suc t ≡ 1 + t = omega arith in
    let b : n / 2 ^ t % 2 ^ 1 ≡ 0 = f t (omega arith) in
    let r : n % 2 ^ t ≡ 0 = low_zeros n t (λ i h. f i (omega arith)) in
    ap (λ k. n % 2 ^ k) e ∙ mod-pow-add n 1 t ∙ omega (arith, ap (λ k. k * 2 ^ t) b)

pub odd_times : (n t : ℕ) → ((i : ℕ) → i < t → bit_at n i ≡ 0) → n / 2 ^ t * 2 ^ t ≡ n
odd_times n t f = let z = low_zeros n t f in omega (arith, shr_split n t)

-- ---- which odd mantissas are on the grid
module _ (odd : ℕ) (e : ℤ) (is_odd : odd % 2 ≡ 1) (g : IsOnGrid (scaled (pos odd) e)) where
  kept : IsCanonical (pos odd) e
  kept = odd_canonical (pos odd) e is_odd g

  pub lowest_place : negsuc 511 ≤ℤ e
  lowest_place = let c = kept in c.lowest

  pub highest_place : e ≤ℤ pos 571
  highest_place = let c = kept in c.highest

  -- what is left of the 60 digits above the place 512
  pub odd_fits : (room : ℕ) → (room ≡ 60) ⊎ ((e +ℤ pos room) ≡ pos 572) → odd < 2 ^ room
  odd_fits room (inl h) = let c = kept in let s : odd < 2 ^ 60 = c.size in
      subst (λ n. odd < 2 ^ n) (sym h) s
  odd_fits room (inr h) = by_lt_z e (pos 512)
      (λ l. let c = kept in let s : odd < 2 ^ 60 = c.size in let p : 2 ^ 60 ≤ 2 ^ room =
      pow-le-pow_right {n = 2} (lit≤ tt) {i = 60} {j = room} (omega (arith, ints)) in omega arith)
      (λ l. let k = above e (pos 512) l in let c = kept in
      let s : odd * 2 ^ k.0 < 2 ^ 60 = c.room k.0 (let q = k.1 in omega (arith, ints)) in
      let r : room + k.0 ≡ 60 = (let q = k.1 in omega (arith, ints)) in
      ⊎_elim (λ t. t) (λ t.
      let a : 2 ^ room * 2 ^ k.0 ≤ odd * 2 ^ k.0 = mul-le-mul_right (2 ^ k.0) t in
      let b : 2 ^ room * 2 ^ k.0 ≡ 2 ^ 60 = sym (pow-add 2 room k.0) ∙ ap (λ n. 2 ^ n) r in
      absurd (omega arith)) (cases_lt odd (2 ^ room)))

pub odd_on_grid : (odd room : ℕ) (e : ℤ) → odd < 2 ^ room → room ≤ 60 → negsuc 511 ≤ℤ e
    → (e +ℤ pos room) ≤ℤ pos 572 → IsOnGrid (scaled (pos odd) e)
odd_on_grid odd room e small h low high = by_lt_z e (pos 513)
    (λ l. on_grid odd e (let p : 2 ^ room ≤ 2 ^ 60 = pow-le-pow_right {n = 2} (lit≤ tt) {i = room}
    {j = 60} h in omega arith) low (omega (arith, ints)))
    (λ l. let g = above e (pos 512) (omega (arith, ints)) in
    let k : room + g.0 ≤ 60 = (let q = g.1 in omega (arith, ints)) in
    let p : 2 ^ (room + g.0) ≤ 2 ^ 60 =
    pow-le-pow_right {n = 2} (lit≤ tt) {i = room + g.0} {j = 60} k in
    let q : (odd + 1) * 2 ^ g.0 ≤ 2 ^ room * 2 ^ g.0 = mul-le-mul_right (2 ^ g.0) (omega arith) in
    let s : odd * 2 ^ g.0 < 2 ^ 60 = omega (arith, pow-add 2 room g.0, pow_pos g.0) in
    subst IsOnGrid (sym (ap (scaled (pos odd)) g.1 ∙ scaled-shift (pos odd) (pos 512) g.0))
    (on_grid (odd * 2 ^ g.0) (pos 512) s (omega (arith, ints)) (omega (arith, ints))))

-- the test of a size, by its odd part
pub of_odd : (odd shift size : ℕ) (e : ℤ) → odd * 2 ^ shift ≡ size
    → scaled (pos odd) (e +ℤ pos shift) ≡ scaled (pos size) e
of_odd odd shift size e h = scaled-shift (pos odd) e shift ∙ ap (λ n. scaled (pos n) e) h

pub zero_grid : (size : ℕ) (e : ℤ) → size ≡ 0 → IsOnGrid (scaled (pos size) e)
zero_grid size e z =
    subst IsOnGrid (scaled-zero (pos 0) ∙ sym (scaled-zero e) ∙ ap (λ n. scaled (pos n) e) (sym z))
    (on_grid 0 (pos 0) (omega arith) (omega (arith, ints)) (omega (arith, ints)))

-- ---- the same mantissa and exponent, however they were computed
pub same_scaled : (m e m' e' : ℤ) → m' ≡ m → e' ≡ e → scaled m' e' ≡ scaled m e
same_scaled m e m' e' p q = ap (λ m. scaled m e') p ∙ ap (scaled m) q

pub same_canonical : (m e m' e' : ℤ) → m' ≡ m → e' ≡ e → IsCanonical m e → IsCanonical m' e'
same_canonical m e m' e' p q c =
    subst (λ m. IsCanonical m e') (sym p) (subst (λ e. IsCanonical m e) (sym q) c)

-- ---- the test `odd >> room == 0`
pub room_test : (odd room : ℕ) → odd / 2 ^ room ≡ 0 → odd < 2 ^ room
room_test odd room z = omega
    (arith, shr_split odd room, ap (λ k. k * 2 ^ room) z, mod_below odd (2 ^ room) (pow_pos room))

pub room_out : (odd room : ℕ) → odd < 2 ^ room → odd / 2 ^ room ≡ 0
room_out odd room h =
    ⊎_elim (λ l. absurd (omega (arith, shr_split odd room, mul-le-mul_right {m = 1} (2 ^ room) l)))
    (λ l. omega arith) (cases_lt 0 (odd / 2 ^ room))

-- ---- a size and its odd part are on the grid together
pub size_grid : (odd shift size : ℕ) (e e' : ℤ) → odd * 2 ^ shift ≡ size → e' ≡ e
    → IsOnGrid (scaled (pos odd) (e' +ℤ pos shift)) → IsOnGrid (scaled (pos size) e)
size_grid odd shift size e e' v p g =
    subst (λ e. IsOnGrid (scaled (pos size) e)) p (subst IsOnGrid (of_odd odd shift size e' v) g)

pub odd_grid : (odd shift size : ℕ) (e e' : ℤ) → odd * 2 ^ shift ≡ size → e' ≡ e
    → IsOnGrid (scaled (pos size) e) → IsOnGrid (scaled (pos odd) (e' +ℤ pos shift))
odd_grid odd shift size e e' v p g = subst IsOnGrid (sym (of_odd odd shift size e' v))
    (subst (λ e. IsOnGrid (scaled (pos size) e)) (sym p) g)

-- ---- a number by its sign and size
signed_grid : (s : Bool) (x : Fraction) → IsOnGrid x → IsOnGrid (signed s x)
signed_grid true x g = IsOnGrid-neg x g
signed_grid false x g = g

pub abs_grid : (m e : ℤ) (size : ℕ) (e' : ℤ) → size ≡ unsigned_abs m → e' ≡ e
    → IsOnGrid (scaled m e) → IsOnGrid (scaled (pos size) e')
abs_grid m e size e' p q g = subst IsOnGrid (signed-size m e (int_lt m (pos 0)) refl
    ∙ same_scaled (pos size) e' (pos (unsigned_abs m)) e (ap pos (sym p)) (sym q))
    (signed_grid (int_lt m (pos 0)) (scaled m e) g)

-- x is m * 2^e where y is |m| * 2^e, and x is y, or -y where m is negative
pub by_size : (m e : ℤ) (size : ℕ) (m' e' : ℤ) (s : Bool) (x : Fraction) → size ≡ unsigned_abs m
    → m' ≡ m → e' ≡ e → s ≡ int_lt m' (pos 0) → signed s x ≡ scaled (pos size) e' → x ≡ scaled m e
by_size m e size m' e' s x p n q r h = sym (signed-signed s x)
    ∙ ap (signed s) (h ∙ same_scaled (pos (unsigned_abs m)) e (pos size) e' (ap pos p) q
    ∙ sym (signed-size m e s (r ∙ ap (λ m. int_lt m (pos 0)) n))) ∙ signed-signed s (scaled m e)

-- ---- zero is the number with the mantissa 0
pub zero_in : (m e : ℤ) → m ≡ pos 0 → scaled m e ≡ zero_ℚ
zero_in m e h = ap (λ m. scaled m e) h ∙ scaled-zero e

pub zero_out : (m e : ℤ) → scaled m e ≡ zero_ℚ → m ≡ pos 0
zero_out m e h = scaled-same m (pos 0) e (h ∙ sym (scaled-zero e))
