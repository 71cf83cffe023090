-- Multiples of a power of two beside a number, and the least interval of those in an interval.
use lib.IntN.{neg_ℤ}
use Rattle.std.specs.Prelude.{◌≡◌, ℕ, ℤ, pos, negsuc, ◌+ℤ◌, ◌*ℤ◌, ◌≤ℤ◌, ◌+◌, ◌*◌, ◌/◌, ◌^◌, ◌≤◌}
use Rattle.std.specs.Prelude.{◌<◌}
use Rattle.std.specs.Int.RustNames.{unsigned_abs}
use Rattle.std.specs.Int.Signed.{shr_z}
use Rattle.std.proofs.Math.Nat.{pow-le-pow_right, div-le_self}
use Rattle.std.proofs.Common.{min, to_z, of_z, w64, zero, suc, arith, refl, sym, subst, ap, ◌∙◌}
use Rattle.std.proofs.Common.{⊎_elim}
use Rattle.std.proofs.lemmas.Int.{ints}
use Rattle.std.proofs.lemmas.Bool.{cases_lt}
use Rattle.std.proofs.lemmas.Nat.{div-add-mod', mod_below, pow_pos}
use Rattle.fx_model.specs.Fraction.{Fraction, ◌≤ℚ◌, ◌<ℚ◌, neg_ℚ, le_refl, le_lt_trans, neg-le}
use Rattle.fx_model.specs.Powers.{scaled, IsMultiple, scaled-le, scaled-lt, scaled-lt_out}
use Rattle.fx_model.specs.Powers.{scaled-shift}
use Rattle.fx_model.specs.Grid.{Bound, Below, At, Above, IsOnGrid, neg_bound, neg_over, neg_under}
use Rattle.fx_model.proofs.Grid.{multiple-neg}
use Rattle.interval.specs.Multiples.{IsMultipleDown, IsMultipleUp, IsEndDown, IsEndUp}

-- ---- a shift to the right
shifted_up : (a s : ℕ) (e : ℤ) → (scaled (pos (a / 2 ^ s)) (e +ℤ pos s) ≤ℚ scaled (pos a) e)
    × (scaled (pos a) e <ℚ scaled (pos (a / 2 ^ s + 1)) (e +ℤ pos s))
shifted_up a s e = let d = div-add-mod' a (2 ^ s) in let m = mod_below a (2 ^ s) (pow_pos s) in (
  subst (λ x. x ≤ℚ scaled (pos a) e)
      (sym (scaled-shift (pos (a / 2 ^ s)) e s)) (scaled-le (pos (a / 2 ^ s * 2 ^ s))
      (pos a) e (let l : a / 2 ^ s * 2 ^ s ≤ a = omega arith in omega (arith, ints))),
  subst (λ x. scaled (pos a) e <ℚ x) (sym (scaled-shift (pos (a / 2 ^ s + 1)) e s))
      (scaled-lt (pos a) (pos ((a / 2 ^ s + 1) * 2 ^ s)) e
      (let l : a < (a / 2 ^ s + 1) * 2 ^ s = omega arith in omega (arith, ints))),
)

neg_times : (q n : ℕ) → neg_ℤ (pos q) *ℤ pos n ≡ neg_ℤ (pos (q * n))
neg_times zero n = omega (arith, ints)
neg_times (suc q) n = refl

shifted_down : (a s : ℕ) (e : ℤ) → (scaled (negsuc (a / 2 ^ s)) (e +ℤ pos s) ≤ℚ scaled (negsuc a) e)
    × (scaled (negsuc a) e <ℚ scaled (neg_ℤ (pos (a / 2 ^ s))) (e +ℤ pos s))
shifted_down a s e = let d = div-add-mod' a (2 ^ s) in let m = mod_below a (2 ^ s) (pow_pos s) in (
  subst (λ x. x ≤ℚ scaled (negsuc a) e) (sym (scaled-shift (negsuc (a / 2 ^ s)) e s))
      (scaled-le (neg_ℤ (pos (suc (a / 2 ^ s) * 2 ^ s)))
      (negsuc a) e (let l : a < suc (a / 2 ^ s) * 2 ^ s = omega arith in omega (arith, ints))),
  subst (λ x. scaled (negsuc a) e <ℚ x) (sym (scaled-shift (neg_ℤ (pos (a / 2 ^ s))) e s
      ∙ ap (λ z. scaled z e) (neg_times (a / 2 ^ s) (2 ^ s))))
      (scaled-lt (negsuc a) (neg_ℤ (pos (a / 2 ^ s * 2 ^ s))) e
      (let l : a / 2 ^ s * 2 ^ s ≤ a = omega arith in omega (arith, ints))),
)

next_up : (q : ℕ) → pos q +ℤ pos 1 ≡ pos (q + 1)
next_up q = omega (arith, ints)

next_down : (q : ℕ) → negsuc q +ℤ pos 1 ≡ neg_ℤ (pos q)
next_down q = omega (arith, ints)

-- ---- the greatest multiple that is at most a number
down_by : (q k : ℤ) (x : Fraction) → scaled q k ≤ℚ x → x <ℚ scaled (q +ℤ pos 1) k
    → IsMultipleDown k x (scaled q k)
down_by q k x l h = record {
  multiple = (q, refl);
  below = l;
  greatest = λ n m i. let j = scaled-lt_out m.0 (q +ℤ pos 1) k
      (le_lt_trans (scaled m.0 k) x (scaled (q +ℤ pos 1) k) (subst (λ y. y ≤ℚ x) m.1 i) h) in
      subst (λ y. y ≤ℚ scaled q k) (sym m.1) (scaled-le m.0 q k (omega (arith, ints)));
}

-- by a shift
pub down_shift : (m e k : ℤ) (s : ℕ) → k ≡ e +ℤ pos s
    → IsMultipleDown k (scaled m e) (scaled (shr_z m (2 ^ s)) k)
down_shift (pos a) e k s p = let d = shifted_up a s e in down_by (pos (a / 2 ^ s)) k
    (scaled (pos a) e) (subst (λ f. scaled (pos (a / 2 ^ s)) f ≤ℚ scaled (pos a) e) (sym p) d.0)
    (subst (λ q. scaled (pos a) e <ℚ scaled q k) (sym (next_up (a / 2 ^ s)))
    (subst (λ f. scaled (pos a) e <ℚ scaled (pos (a / 2 ^ s + 1)) f) (sym p) d.1))
down_shift (negsuc a) e k s p = let d = shifted_down a s e in
    down_by (negsuc (a / 2 ^ s)) k (scaled (negsuc a) e)
    (subst (λ f. scaled (negsuc (a / 2 ^ s)) f ≤ℚ scaled (negsuc a) e) (sym p) d.0)
    (subst (λ q. scaled (negsuc a) e <ℚ scaled q k) (sym (next_down (a / 2 ^ s)))
    (subst (λ f. scaled (negsuc a) e <ℚ scaled (neg_ℤ (pos (a / 2 ^ s))) f) (sym p) d.1))

-- places past 63 shift everything out
small_quotient : (a s : ℕ) → a < 1152921504606846976 → 60 ≤ s → a / 2 ^ s ≡ 0
small_quotient a s h l = let p : 2 ^ 60 ≤ 2 ^ s = pow-le-pow_right {n = 2} (omega arith) l in
    let d = div-add-mod' a (2 ^ s) in let m = mod_below a (2 ^ s) (pow_pos s) in
    below_one (a / 2 ^ s) (2 ^ s) a (omega arith) (omega (arith, p))
  where
    below_one : (q n a : ℕ) → q * n ≤ a → a < n → q ≡ 0
    below_one zero n a h l = refl
    below_one (suc q) n a h l = absurd (omega arith)

shift_far : (m : ℤ) (s t : ℕ) → unsigned_abs m < 1152921504606846976 → 60 ≤ s → 60 ≤ t
    → shr_z m (2 ^ s) ≡ shr_z m (2 ^ t)
shift_far (pos a) s t h k l =
    ap pos (small_quotient a s (omega arith) k ∙ sym (small_quotient a t (omega arith) l))
shift_far (negsuc a) s t h k l =
    ap negsuc (small_quotient a s (omega arith) k ∙ sym (small_quotient a t (omega arith) l))

-- the mantissa shifted by 63 places at most
pub shifted_is : (m n : ℤ) (s t : ℕ) → n ≡ m → unsigned_abs m < 1152921504606846976 → t ≡ min s 63
    → shr_z n (2 ^ t) ≡ shr_z m (2 ^ s)
shifted_is m n s t e h p = ap (λ z. shr_z z (2 ^ t)) e ∙ ⊎_elim (λ l. ap (λ i. shr_z m (2 ^ i))
    (near s t p l)) (λ l. shift_far m t s h (omega arith) (omega arith)) (cases_lt s 63)
  where
    near : (s t : ℕ) → t ≡ min s 63 → s < 63 → t ≡ s
    near s t p l = omega arith

shift_fits : (m : ℤ) (p : ℕ) → unsigned_abs m < 1152921504606846976
    → to_z w64 (of_z w64 (shr_z m p)) ≡ shr_z m p
shift_fits (pos a) p h = let s = div-le_self a p in omega (arith, ints)
shift_fits (negsuc a) p h = let s = div-le_self a p in omega (arith, ints)

pub shifted_back : (m z : ℤ) (p : ℕ) → z ≡ shr_z m p → unsigned_abs m < 1152921504606846976
    → to_z w64 (of_z w64 z) ≡ shr_z m p
shifted_back m z p e h = ap (λ y. to_z w64 (of_z w64 y)) e ∙ shift_fits m p h

-- what the code makes of a number below the place
pub moved_down : (m e k : ℤ) (s : ℕ) (q l : ℤ) (v : Fraction) → k ≡ e +ℤ pos s → q ≡ shr_z m (2 ^ s)
    → l ≡ k → v ≡ scaled q l → IsMultipleDown k (scaled m e) v
moved_down m e k s q l v p a b c = subst (λ y. IsMultipleDown k (scaled m e) y) (sym (c
    ∙ ap (λ z. scaled z l) a ∙ ap (λ z. scaled (shr_z m (2 ^ s)) z) b)) (down_shift m e k s p)

pub down_self : (k : ℤ) (x : Fraction) → IsMultiple k x → IsMultipleDown k x x
down_self k x m = record { multiple = m; below = le_refl x; greatest = λ n j l. l }

pub multiple_above : (m k e : ℤ) (t : ℕ) → e ≡ k +ℤ pos t → IsMultiple k (scaled m e)
multiple_above m k e t p = (m *ℤ pos (2 ^ t), ap (λ z. scaled m z) p ∙ scaled-shift m k t)

-- ---- by the negatives
up_by : (k : ℤ) (x m : Fraction) → IsMultipleDown k (neg_ℚ x) m → IsMultipleUp k x (neg_ℚ m)
up_by k x m d = record {
  multiple = multiple-neg k m d.multiple;
  above = neg_over m x d.below;
  least = λ n j l. neg_under m n (d.greatest (neg_ℚ n) (multiple-neg k n j) (neg-le x n l));
}

pub end_up_by : (k : ℤ) (b c d e : Bound) → c ≡ neg_bound b → IsEndDown k c d
    → e ≡ neg_bound d → IsEndUp k b e
end_up_by k Below c d e p q r =
    let h : IsEndDown k Above d = subst (λ y. IsEndDown k y d) p q in r ∙ ap neg_bound h
end_up_by k Above c d e p q r =
    let h : IsEndDown k Below d = subst (λ y. IsEndDown k y d) p q in r ∙ ap neg_bound h
end_up_by k (At x) c d e p q r = by d (subst (λ y. IsEndDown k y d) p q) r
  where
    by : (d : Bound) → IsEndDown k (At (neg_ℚ x)) d → e ≡ neg_bound d → IsEndUp k (At x) e
    by Below q r = absurd q
    by (At m) q r = subst (λ y. IsEndUp k (At x) y) (sym r) (up_by k x m q)
    by Above q r = absurd q

pub shifted_grid : (q k : ℤ) → unsigned_abs q < 1152921504606846976 → negsuc 511 ≤ℤ k
    → k ≤ℤ pos 512 → IsOnGrid (scaled q k)
shifted_grid q k s l h = record {
  mantissa = q;
  exponent = k;
  above = omega (arith, ints);
  below = omega (arith, ints);
  lowest = l;
  highest = h;
  is = refl;
}
