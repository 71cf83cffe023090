-- The whole numbers next to a fraction, from its whole part and what is left of it.
use lib.IntN.{neg_ℤ}
use borrow.Author.Differences.{up, down, sum_is_lem, product_is, neg_is}
use Rattle.std.specs.Prelude.{◌≡◌, ℕ, ℤ, pos, negsuc, int_lt, ◌+ℤ◌, ◌*ℤ◌, ◌≤ℤ◌, ◌<ℤ◌, ◌+◌, ◌-◌, ◌*◌}
use Rattle.std.specs.Prelude.{◌/◌, ◌%◌, ◌^◌, ◌<◌, ◌≤◌, nat_lt, nat_le, Bool, true, false}
use Rattle.std.specs.Prelude.{if◌then◌else◌, refl}
use Rattle.std.specs.Int.RustNames.{unsigned_abs}
use Rattle.std.proofs.Common.{arith, sym, ap, ◌∙◌, subst, lit<}
use Rattle.std.proofs.lemmas.Int.{ints}
use Rattle.std.proofs.lemmas.Nat.{div-add-mod', mod_below}
use Rattle.std.proofs.lemmas.Bool.{ltb-true, ltb-false, leb-true, leb-false}
use Rattle.std.proofs.Math.Nat.{mul-le-mul_left}
use Rattle.fx_model.specs.Fraction.{◌+ℚ◌, ◌≤ℚ◌, neg_ℚ, lt_by}
use Rattle.fx_model.specs.Powers.{whole, floor_unique}
use Rattle.fx_model.specs.Rounded.{floor, ceiling, near_low, near_high, half, is_even}
use Rattle.fx_model.specs.declared.Direction.{Direction}
use Rattle.fx_model.specs.declared.Direction.TheVariants.{Zr, Aw, Dn, Up, Od, Ne, No, Nz, Na, Nd}
use Rattle.fx_model.specs.declared.Direction.TheVariants.{Nu}
use Rattle.rounding.proofs.Shifts.{near_low-neg}
use Rattle.rounding.specs.declared.neighbours.Neighbours.{Neighbours}
use Rattle.rounding.specs.Chosen.{AreNeighbours, chosen, is_from_zero}
use Rattle.exact_fractions.specs.declared.roundings.Sizes.{Sizes}
use Rattle.exact_fractions.specs.declared.roundings.Wholes.{Wholes}
use Rattle.exact_fractions.specs.Beside.{AreBeside, as_neighbours}
use Rattle.exact_fractions.specs.Reduced.{over}
use Rattle.exact_fractions.proofs.Numbers.{over-cancel, over-le_out, over-add}
use Rattle.exact_fractions.proofs.Factors.{negative_value, over-le}
use Rattle.exact_fractions.proofs.Powers.{over_one_is, two_to-below}

-- ---- from the whole part and the rest
abbrev pub next : ℕ → Bool → ℕ
next q t = if t then q + 1 else q

-- a rest leaves room for one more
room : (n d q r : ℕ) → n ≡ q * d + r → r < d → 0 < r → n < 2 ^ 127 → q + 1 < 2 ^ 127
room n d q r e l p h = let t : 2 ≤ d = omega arith in let m = mul-le-mul_left q t in omega arith

part_small : (n d q r : ℕ) → n ≡ q * d + r → 0 < d → n < 2 ^ 127 → q < 2 ^ 127
part_small n d q r e p h = let t : 1 ≤ d = omega arith in let m = mul-le-mul_left q t in omega arith

up_sides : (n d q r : ℕ) (t : Bool) → n ≡ q * d + r → r < d → n < 2 ^ 127 → nat_lt 0 r ≡ t
    → (next q t * d < n + d) × (n ≤ next q t * d) × (next q t < 2 ^ 127)
up_sides n d q r true e l h c = let k = ltb-true 0 r c in
    (omega arith, omega arith, room n d q r e l k h)
up_sides n d q r false e l h c = let k = ltb-false 0 r c in
    (omega arith, omega arith, part_small n d q r e (omega arith) h)

low_sides : (n d q r : ℕ) (t : Bool) → n ≡ q * d + r → r < d → n < 2 ^ 127 → nat_lt (d - r) r ≡ t
    → (next q t * d * 2 < n * 2 + d) × (n * 2 ≤ next q t * d * 2 + d) × (next q t < 2 ^ 127)
low_sides n d q r true e l h c = let k = ltb-true (d - r) r c in
    (omega arith, omega arith, room n d q r e l (omega arith) h)
low_sides n d q r false e l h c = let k = ltb-false (d - r) r c in
    (omega arith, omega arith, part_small n d q r e (omega arith) h)

high_sides : (n d q r : ℕ) (t : Bool) → n ≡ q * d + r → r < d → n < 2 ^ 127 → nat_le (d - r) r ≡ t
    → (next q t * d * 2 ≤ n * 2 + d) × (n * 2 < next q t * d * 2 + d) × (next q t < 2 ^ 127)
high_sides n d q r true e l h c = let k = leb-true (d - r) r c in
    (omega arith, omega arith, room n d q r e l (omega arith) h)
high_sides n d q r false e l h c = let k = leb-false (d - r) r c in
    (omega arith, omega arith, part_small n d q r e (omega arith) h)

pub beside : (n d a b e f : ℕ) → 0 < d → n < 2 ^ 127 → a ≡ n / d
    → b ≡ next (n / d) (nat_lt 0 (n % d)) → e ≡ next (n / d) (nat_lt (d - n % d) (n % d))
    → f ≡ next (n / d) (nat_le (d - n % d) (n % d))
    → AreBeside n d (record { floor = a; ceiling = b; near_low = e; near_high = f })
beside n d a b e f p h i j k m =
    let whole_and_rest : n ≡ (n / d) * d + n % d = sym (div-add-mod' n d) in
    let below = mod_below n d p in
    let u = up_sides n d (n / d) (n % d) (nat_lt 0 (n % d)) whole_and_rest below h refl in
    let v = low_sides n d (n / d) (n % d) (nat_lt (d - n % d) (n % d)) whole_and_rest below h refl
    in
    let w = high_sides n d (n / d) (n % d) (nat_le (d - n % d) (n % d)) whole_and_rest below h refl
    in
    rw (i, j, k, m) (record {
      floor_low = omega arith;
      floor_high = omega arith;
      ceiling_low = u.0;
      ceiling_high = u.1;
      low_low = v.0;
      low_high = v.1;
      high_low = w.0;
      high_high = w.1;
      floor_small = part_small n d (n / d) (n % d) whole_and_rest p h;
      ceiling_small = u.2;
      low_small = v.2;
      high_small = w.2;
    })

-- ---- the only whole numbers next to n / d
whole_over : (z : ℤ) (e : ℕ) → 0 < e → over (z *ℤ pos e) e ≡ whole z
whole_over z e p = ap (over (z *ℤ pos e)) (once e) ∙ over-cancel z 1 e (lit< tt) p ∙ over_one_is z
  where
    once : (e : ℕ) → e ≡ 1 * e
    once e = omega arith

floor_by : (m z : ℤ) (e : ℕ) → 0 < e → up z * e + down m ≤ up m + down z * e
    → up m + down z * e < up z * e + down m + e → floor (over m e) ≡ z
floor_by m z e p l h = floor_unique (over m e) z
    (subst (λ y. y ≤ℚ over m e) (whole_over z e p)
    (over-le (z *ℤ pos e) m e p (let q = product_is z (pos e) in omega (arith, ints))))
    (lt_by (over m e) (whole (z +ℤ pos 1))
    (λ k. absurd (let b =
    over-le_out ((z +ℤ pos 1) *ℤ pos e) m e p
    (subst (λ y. y ≤ℚ over m e) (sym (whole_over (z +ℤ pos 1) e p)) k) in past b)))
  where
    past : ((z +ℤ pos 1) *ℤ pos e) ≤ℤ m → ⊥
    past b = let q = product_is (z +ℤ pos 1) (pos e) in let s = sum_is_lem z (pos 1) in
        omega (arith, ints, ap (λ n. n * e) s)

negative_over : (n : ℤ) (d : ℕ) → over (neg_ℤ n) d ≡ neg_ℚ (over n d)
negative_over n d = negative_value n d

ceiling_by : (n z : ℤ) (d : ℕ) → 0 < d → up n + down z * d ≤ up z * d + down n
    → up z * d + down n < up n + down z * d + d → ceiling (over n d) ≡ z
ceiling_by n z d p l h =
    ap neg_ℤ (ap floor (sym (negative_over n d))
    ∙ floor_by (neg_ℤ n) (neg_ℤ z) d p (let a = neg_is n in let b = neg_is z in
    rw (a.0, a.1, b.0, b.1) (omega arith)) (let a = neg_is n in let b = neg_is z in
    rw (a.0, a.1, b.0, b.1) (omega arith))) ∙ twice z
  where
    twice : (z : ℤ) → neg_ℤ (neg_ℤ z) ≡ z
    twice z = omega (arith, ints)

half_over : (d : ℕ) → 0 < d → half ≡ over (pos d) (d * 2)
half_over d p = two_to-below 1 ∙ sym (over-cancel (pos 1) 2 d (lit< tt) p)
    ∙ ap (λ n. over n (2 * d)) (once d) ∙ ap (over (pos d)) (turned d)
  where
    once : (d : ℕ) → pos 1 *ℤ pos d ≡ pos d
    once d = omega (arith, ints)

    turned : (d : ℕ) → 2 * d ≡ d * 2
    turned d = omega arith

near_high_by : (n z : ℤ) (d : ℕ) → 0 < d → up z * d * 2 + down n * 2 ≤ up n * 2 + d + down z * d * 2
    → up n * 2 + down z * d * 2 < up z * d * 2 + down n * 2 + d → near_high (over n d) ≡ z
near_high_by n z d p l h =
    let m : ℤ = (n *ℤ pos 2) +ℤ pos d in
    ap floor (ap (λ x. x +ℚ half) (sym (over-cancel n d 2 p (lit< tt)))
    ∙ ap (λ y. over (n *ℤ pos 2) (d * 2) +ℚ y) (half_over d p)
    ∙ sym (over-add (n *ℤ pos 2) (pos d) (d * 2)))
    ∙ floor_by m z (d * 2) (omega arith) (let q = product_is n (pos 2) in let s =
    sum_is_lem (n *ℤ pos 2) (pos d) in omega (arith, q, s, l, h)) (let q =
    product_is n (pos 2) in let s = sum_is_lem (n *ℤ pos 2) (pos d) in
    omega (arith, q, s, l, h))

near_low_by : (n z : ℤ) (d : ℕ) → 0 < d → up n * 2 + down z * d * 2 ≤ up z * d * 2 + down n * 2 + d
    → up z * d * 2 + down n * 2 < up n * 2 + down z * d * 2 + d → near_low (over n d) ≡ z
near_low_by n z d p l h = near_low-neg (over n d) ∙ ap neg_ℤ (ap near_high (sym (negative_over n d))
    ∙ near_high_by (neg_ℤ n) (neg_ℤ z) d p (let a = neg_is n in let b = neg_is z in
    rw (a.0, a.1, b.0, b.1) (omega arith)) (let a = neg_is n in let b = neg_is z in
    rw (a.0, a.1, b.0, b.1) (omega arith))) ∙ twice z
  where
    twice : (z : ℤ) → neg_ℤ (neg_ℤ z) ≡ z
    twice z = omega (arith, ints)

-- ---- those of a fraction with a sign
pub beside_from : (n : ℤ) (d a b e f : ℕ) → 0 < d → int_lt n (pos 0) ≡ false
    → AreBeside (unsigned_abs n) d (record { floor = a; ceiling = b; near_low = e; near_high = f })
    → AreNeighbours (record { floor = pos a; ceiling = pos b; near_low = pos e; near_high = pos f })
    (over n d)
beside_from n d a b e f p s h =
    let u : up n ≡ unsigned_abs n = above n s in
    let v : down n ≡ 0 = none n s in
    record {
      floor_is =
          sym (floor_by n (pos a) d p (omega (arith, h.floor_low)) (omega (arith, h.floor_high)));
      ceiling_is =
          sym (ceiling_by n (pos b) d p (omega (arith, h.ceiling_high))
          (omega (arith, h.ceiling_low)));
      near_low_is =
          sym (near_low_by n (pos e) d p (omega (arith, h.low_high)) (omega (arith, h.low_low)));
      near_high_is =
          sym (near_high_by n (pos f) d p (omega (arith, h.high_low)) (omega (arith, h.high_high)));
    }
  where
    above : (n : ℤ) → int_lt n (pos 0) ≡ false → up n ≡ unsigned_abs n
    above (pos k) s = omega arith
    above (negsuc k) s = absurd (let l : negsuc k <ℤ pos 0 = omega (arith, ints) in
        grind (arith, ints))

    none : (n : ℤ) → int_lt n (pos 0) ≡ false → down n ≡ 0
    none (pos k) s = omega arith
    none (negsuc k) s = absurd (let l : negsuc k <ℤ pos 0 = omega (arith, ints) in
        grind (arith, ints))

pub beside_below : (n : ℤ) (d a b e f : ℕ) → 0 < d → int_lt n (pos 0) ≡ true
    → AreBeside (unsigned_abs n) d (record { floor = a; ceiling = b; near_low = e; near_high = f })
    → AreNeighbours (record {
      floor = neg_ℤ (pos b);
      ceiling = neg_ℤ (pos a);
      near_low =
          neg_ℤ (pos f);
      near_high = neg_ℤ (pos e);
    }) (over n d)
beside_below n d a b e f p s h =
    let u : down n ≡ unsigned_abs n = below n s in
    let v : up n ≡ 0 = none n s in
    let i = neg_is (pos a) in
    let j = neg_is (pos b) in
    let k = neg_is (pos e) in
    let m = neg_is (pos f) in
    record {
      floor_is =
          sym (floor_by n (neg_ℤ (pos b)) d p (rw (j.0, j.1) (omega (arith, h.ceiling_high)))
          (rw (j.0, j.1) (omega (arith, h.ceiling_low))));
      ceiling_is =
          sym (ceiling_by n (neg_ℤ (pos a)) d p (rw (i.0, i.1) (omega (arith, h.floor_low)))
          (rw (i.0, i.1) (omega (arith, h.floor_high))));
      near_low_is =
          sym (near_low_by n (neg_ℤ (pos f)) d p (rw (m.0, m.1) (omega (arith, h.high_low)))
          (rw (m.0, m.1) (omega (arith, h.high_high))));
      near_high_is =
          sym (near_high_by n (neg_ℤ (pos e)) d p (rw (k.0, k.1) (omega (arith, h.low_high)))
          (rw (k.0, k.1) (omega (arith, h.low_low))));
    }
  where
    below : (n : ℤ) → int_lt n (pos 0) ≡ true → down n ≡ unsigned_abs n
    below (pos k) s = absurd (let l : pos 0 ≤ℤ pos k = omega (arith, ints) in grind (arith, ints))
    below (negsuc k) s = omega arith

    none : (n : ℤ) → int_lt n (pos 0) ≡ true → up n ≡ 0
    none (pos k) s = absurd (let l : pos 0 ≤ℤ pos k = omega (arith, ints) in grind (arith, ints))
    none (negsuc k) s = omega arith

-- ---- what a direction takes is one of the four
pub chosen_one : (P : ℤ → Type 0) (d : Direction) (n : Neighbours) → P n.floor → P n.ceiling
    → P n.near_low → P n.near_high → P (chosen d n)
chosen_one P d n a b e f = by d
  where
    either : (t : Bool) (x y : ℤ) → P x → P y → P (if t then x else y)
    either true x y p q = p
    either false x y p q = q

    by : (d : Direction) → P (chosen d n)
    by Dn = a
    by Up = b
    by Zr = either (is_from_zero n) n.floor n.ceiling a b
    by Aw = either (is_from_zero n) n.ceiling n.floor b a
    by Od = either (is_even n.floor) n.ceiling n.floor b a
    by Nd = e
    by Nu = f
    by Ne = either (is_even n.near_low) n.near_low n.near_high e f
    by No = either (is_even n.near_low) n.near_high n.near_low f e
    by Nz = either (is_from_zero n) n.near_low n.near_high e f
    by Na = either (is_from_zero n) n.near_high n.near_low f e

-- ---- the same of what the code has
pub sides_from : (x n : ℤ) (m d e : ℕ) (s : Sizes) (w : Wholes) → n ≡ x → m ≡ unsigned_abs n → d ≡ e
    → 0 < e → int_lt n (pos 0) ≡ false → AreBeside m d s
    → w.floor ≡ pos s.floor → w.ceiling ≡ pos s.ceiling → w.near_low ≡ pos s.near_low
    → w.near_high ≡ pos s.near_high → AreNeighbours (as_neighbours w) (over x e)
sides_from x n m d e s w i j k p t h a b f g =
    subst (λ x. AreNeighbours (as_neighbours w) (over x e)) i
    (rw (a, b, f, g) (beside_from n e s.floor s.ceiling s.near_low s.near_high p t
    (subst (λ d. AreBeside (unsigned_abs n) d s) k (subst (λ m. AreBeside m d s) j h))))

pub sides_below : (x n : ℤ) (m d e : ℕ) (s : Sizes) (w : Wholes) → n ≡ x → m ≡ unsigned_abs n
    → d ≡ e → 0 < e → int_lt n (pos 0) ≡ true → AreBeside m d s
    → w.floor ≡ neg_ℤ (pos s.ceiling) → w.ceiling ≡ neg_ℤ (pos s.floor)
    → w.near_low ≡ neg_ℤ (pos s.near_high) → w.near_high ≡ neg_ℤ (pos s.near_low)
    → AreNeighbours (as_neighbours w) (over x e)
sides_below x n m d e s w i j k p t h a b f g =
    subst (λ x. AreNeighbours (as_neighbours w) (over x e)) i
    (rw (a, b, f, g) (beside_below n e s.floor s.ceiling s.near_low s.near_high p t
    (subst (λ d. AreBeside (unsigned_abs n) d s) k (subst (λ m. AreBeside m d s) j h))))
