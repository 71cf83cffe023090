-- Rounding a value down that lies just above a whole number.
use lib.Count.{count_leading_zeros}
use lib.IntN.{neg_ℤ}
use mir.Syntax.{w128}
use Rattle.std.specs.Prelude.{◌<ℤ◌}
use Rattle.std.proofs.Common.{◌≡◌, ◌⊎◌, ℕ, zero, suc, ℤ, pos, negsuc, ◌+ℤ◌, ◌*ℤ◌, ◌≤ℤ◌, ◌<◌, ◌≤◌}
use Rattle.std.proofs.Common.{◌*◌, ◌+◌, ◌-◌, ◌/◌, ◌^◌, arith, ap, sym, subst, ◌∙◌, refl, inl, inr}
use Rattle.std.proofs.Common.{⊎_elim, lit≤, lit<, w64, to_z, of_z, min, Bool, true, false}
use Rattle.std.specs.Int.RustNames.{unsigned_abs, FitsSigned}
use Rattle.std.specs.Int.Signed.{shr_z}
use Rattle.std.proofs.Math.Nat.{pow-le-pow_right, mul-le-mul_left}
use Rattle.std.proofs.lemmas.Bool.{cases_lt}
use Rattle.std.proofs.lemmas.Int.{ints, by_lt_z, to_z-of_z, unsigned_abs-mul, fits_signed_mul}
use Rattle.std.proofs.lemmas.Int.{fits_signed_from_abs}
use Rattle.std.proofs.lemmas.Nat.{div-add-mod', leading_top, mod_below, mul-le, pow_pos, pow-add}
use Rattle.fx_model.specs.Fraction.{Fraction, ◌+ℚ◌, ◌*ℚ◌, ◌≤ℚ◌, ◌<ℚ◌, neg_ℚ, neg-neg, le_refl}
use Rattle.fx_model.specs.Fraction.{le_trans, lt_not, le_lt_trans, le_or_lt, add-le, add-lt}
use Rattle.fx_model.specs.Fraction.{mul_comm, zero-mul}
use Rattle.fx_model.proofs.Fraction.{neg-lt}
use Rattle.fx_model.specs.Powers.{scaled, scaled-le, scaled-le_out, scaled-lt, scaled-lt_out}
use Rattle.fx_model.specs.Powers.{scaled-shift, scaled-zero}
use Rattle.fx_model.proofs.Powers.{scaled-add}
use Rattle.fx_model.specs.Grid.{IsOnGrid, IsOnGrid-neg, IsDown, At, scaled-neg}
use Rattle.fx_model.proofs.Grid.{scaled-mul}
use Rattle.fx_model.specs.Cut.{on_grid, next_grid, up_least}
use Rattle.dyadic.specs.Floors.{Floored, IsLong}
use Rattle.dyadic.proofs.GridLemmas.{zero_in}
use Rattle.dyadic.proofs.SumLemmas.{shifted_to}

-- ---- no number of the grid lies strictly between two numbers in a row that have as many digits
above_none : (n : ℕ) (e : ℤ) → 576460752303423488 ≤ n → (h : Fraction) → IsOnGrid h
    → scaled (pos n) e <ℚ h → h <ℚ scaled (pos (n + 1)) e → ⊥
above_none n e l h g a b =
    lt_not h (scaled (pos (n + 1)) e) b (up_least h n e (a, b) (inl (omega arith)) h g (le_refl h))

below_none : (n : ℕ) (e : ℤ) → 576460752303423488 ≤ n → (h : Fraction) → IsOnGrid h
    → scaled (negsuc n) e <ℚ h → h <ℚ scaled (neg_ℤ (pos n)) e → ⊥
below_none n e l h g a b = above_none n e l (neg_ℚ h) (IsOnGrid-neg h g)
    (subst (λ z. z <ℚ neg_ℚ h) (ap neg_ℚ (scaled-neg (pos n) e) ∙ neg-neg (scaled (pos n) e))
    (neg-lt h (scaled (neg_ℤ (pos n)) e) b))
    (subst (λ z. neg_ℚ h <ℚ z) (ap neg_ℚ (ap (λ m. scaled m e) (next n) ∙ scaled-neg
    (pos (n + 1)) e) ∙ neg-neg (scaled (pos (n + 1)) e)) (neg-lt (scaled (negsuc n) e) h a))
  where
    next : (n : ℕ) → negsuc n ≡ neg_ℤ (pos (n + 1))
    next n = omega (arith, ints)

abbrev IsWide : ℤ → Type 0
IsWide q = (pos 576460752303423488 ≤ℤ q) ⊎ (q <ℤ negsuc 576460752303423487)

none_between : (q e : ℤ) → IsWide q → (h : Fraction) → IsOnGrid h
    → h <ℚ scaled (q +ℤ pos 1) e → h ≤ℚ scaled q e
none_between q e wide h g b =
    ⊎_elim (λ t. t) (λ t. absurd (by q wide t b)) (le_or_lt h (scaled q e))
  where
    by : (q : ℤ) → IsWide q → scaled q e <ℚ h → h <ℚ scaled (q +ℤ pos 1) e → ⊥
    by (pos n) (inl l) a b = above_none n e (omega (arith, ints)) h g a (let s : pos n +ℤ pos 1
        ≡ pos (n + 1) = omega (arith, ints) in subst (λ m. h <ℚ scaled m e) s b)
    by (pos n) (inr l) a b = absurd (omega (arith, ints))
    by (negsuc n) (inl l) a b = absurd (omega (arith, ints))
    by (negsuc n) (inr l) a b = below_none n e (omega (arith, ints)) h g a
        (let s : negsuc n +ℤ pos 1 ≡ neg_ℤ (pos n) = omega (arith, ints) in
        subst (λ m. h <ℚ scaled m e) s b)

-- the rounding down of what is at most a value is that of the value
pub floor_down : (x g : Fraction) (k two : ℤ) → Floored x k two
    → IsDown (scaled k two) (At g) → IsDown x (At g)
floor_down x g k two (inl e) d = subst (λ y. IsDown y (At g)) (sym e) d
floor_down x g k two (inr l) d = (
  d.0,
  le_trans g (scaled k two) x d.1 l.1,
  λ h o t. d.2 h o (none_between k two (by_lt_z k (pos 0) (λ n. inr (omega (arith, ints, l.0)))
      (λ n. inl (omega (arith, ints, l.0)))) h o (le_lt_trans h x (scaled (k +ℤ pos 1) two) t l.2)),
)

-- ---- a shift to the right
pub shift_low : (m e f : ℤ) (s : ℕ) → f ≡ e +ℤ pos s → scaled (shr_z m (2 ^ s)) f ≤ℚ scaled m e
shift_low (pos a) e f s p = let d = div-add-mod' a (2 ^ s) in subst (λ x. x ≤ℚ scaled (pos a) e)
    (sym (ap (scaled (pos (a / 2 ^ s))) p ∙ scaled-shift (pos (a / 2 ^ s)) e s))
    (scaled-le (pos (a / 2 ^ s * 2 ^ s))
    (pos a) e (let l : a / 2 ^ s * 2 ^ s ≤ a = omega arith in omega (arith, ints)))
shift_low (negsuc a) e f s p = let d = div-add-mod' a (2 ^ s) in
    let m = mod_below a (2 ^ s) (pow_pos s) in
    subst (λ x. x ≤ℚ scaled (negsuc a) e)
    (sym (ap (scaled (negsuc (a / 2 ^ s))) p ∙ scaled-shift (negsuc (a / 2 ^ s)) e s))
    (scaled-le (neg_ℤ (pos (suc (a / 2 ^ s) * 2 ^ s)))
    (negsuc a) e (let l : a < suc (a / 2 ^ s) * 2 ^ s = omega arith in omega (arith, ints)))

neg_times : (q n : ℕ) → neg_ℤ (pos q) *ℤ pos n ≡ neg_ℤ (pos (q * n))
neg_times zero n = omega (arith, ints)
neg_times (suc q) n = refl

pub shift_high : (m e f : ℤ) (s : ℕ) → f ≡ e +ℤ pos s
    → scaled m e <ℚ scaled (shr_z m (2 ^ s) +ℤ pos 1) f
shift_high (pos a) e f s p = let d = div-add-mod' a (2 ^ s) in
    let m = mod_below a (2 ^ s) (pow_pos s) in
    let n : pos (a / 2 ^ s) +ℤ pos 1 ≡ pos (a / 2 ^ s + 1) = omega (arith, ints) in
    subst (λ x. scaled (pos a) e <ℚ x) (sym (ap (scaled (pos (a / 2 ^ s) +ℤ pos 1)) p
    ∙ ap (λ q. scaled q (e +ℤ pos s)) n ∙ scaled-shift (pos (a / 2 ^ s + 1)) e s))
    (scaled-lt (pos a) (pos ((a / 2 ^ s + 1) * 2 ^ s)) e
    (let l : a < (a / 2 ^ s + 1) * 2 ^ s = omega arith in omega (arith, ints)))
shift_high (negsuc a) e f s p = let d = div-add-mod' a (2 ^ s) in
    let n : negsuc (a / 2 ^ s) +ℤ pos 1 ≡ neg_ℤ (pos (a / 2 ^ s)) = omega (arith, ints) in
    subst (λ x. scaled (negsuc a) e <ℚ x) (sym (ap (scaled (negsuc (a / 2 ^ s) +ℤ pos 1)) p
    ∙ ap (λ q. scaled q (e +ℤ pos s)) n ∙ scaled-shift (neg_ℤ (pos (a / 2 ^ s))) e s
    ∙ ap (λ z. scaled z e) (neg_times (a / 2 ^ s) (2 ^ s))))
    (scaled-lt (negsuc a) (neg_ℤ (pos (a / 2 ^ s * 2 ^ s))) e
    (let l : a / 2 ^ s * 2 ^ s ≤ a = omega arith in omega (arith, ints)))

-- ---- whole numbers of up to 64 bits
pub surplus_facts : (n m r : ℕ) → n < 2 ^ m → 2 ^ m ≤ 2 * n + 1 → r ≡ m - 60
    → (n < 1152921504606846976 * 2 ^ r) × ((r ≡ 0) ⊎ (576460752303423488 * 2 ^ r ≤ n))
surplus_facts n m r h k e =
    ⊎_elim (λ l. let p : 2 ^ m ≡ 2 ^ 60 * 2 ^ r = (let f : m ≡ 60 + r = omega arith in
    ap (λ i. 2 ^ i) f ∙ pow-add 2 60 r) in (omega arith, inr (omega arith)))
    (λ l. let z : r ≡ 0 = omega arith in
    let p : 2 ^ m ≤ 2 ^ 60 = pow-le-pow_right {n = 2} (lit≤ tt) {i = m} {j = 60} l in
    let q = pow_pos r in (omega arith, inl z)) (cases_lt 60 m)

-- of a long number's size the digits past 60
long_by : (n q : ℕ) → q ≤ 2 → 2305843009213693952 * q ≤ n
    → n < 2305843009213693952 * (q + 1) → n ≤ 4611686018427387904 → 1152921504606846976 ≤ n
    → (n < 1152921504606846976 * 2 ^ (1 + q)) × (576460752303423488 * 2 ^ (1 + q) ≤ n)
long_by n zero l h k m s = let e : 2 ^ (1 + 0) ≡ 2 = refl in (omega (arith, e), omega (arith, e))
long_by n (suc zero) l h k m s = let e : 2 ^ (1 + 1) ≡ 4 = refl in
    (omega (arith, e), omega (arith, e))
long_by n (suc (suc zero)) l h k m s = let e : 2 ^ (1 + 2) ≡ 8 = refl in
    (omega (arith, e), omega (arith, e))
long_by n (suc (suc (suc q))) l h k m s = absurd (omega arith)

pub long_facts : (n r : ℕ) → (n ≡ 0) ⊎ ((1152921504606846976 ≤ n) × (n ≤ 4611686018427387904))
    → r ≡ min (n / 1152921504606846976) 1 + n / 2305843009213693952
    → (n < 1152921504606846976 * 2 ^ r) × ((r ≡ 0) ⊎ (576460752303423488 * 2 ^ r ≤ n))
long_facts n r (inl z) e =
    let f : r ≡ 0 = e ∙ ap (λ n. min (n / 1152921504606846976) 1 + n / 2305843009213693952) z in
    let p : 2 ^ r ≡ 1 = ap (λ r. 2 ^ r) f in (omega (arith, p), inl f)
long_facts n r (inr (l, h)) e =
    let c = div-add-mod' n 1152921504606846976 in
    let i = mod_below n 1152921504606846976 (lit< tt) in
    let d = div-add-mod' n 2305843009213693952 in
    let m = mod_below n 2305843009213693952 (lit< tt) in
    let one : min (n / 1152921504606846976) 1 ≡ 1 = omega arith in
    let f : r ≡ 1 + n / 2305843009213693952 = e ∙ ap (λ k. k + n / 2305843009213693952) one in
    let b = long_by n (n / 2305843009213693952) (omega arith) (omega arith) (omega arith) h l in (
      subst (λ r. n < 1152921504606846976 * 2 ^ r) (sym f) b.0,
      inr (subst (λ r. 576460752303423488 * 2 ^ r ≤ n) (sym f) b.1),
    )

pub long_signed : (s : Bool) (q r : ℕ) (k : ℤ) → 1152921504606846976 ≤ q
    → q < 4611686018427387904 → (s ≡ false → k ≡ pos q) → (s ≡ true → r ≡ 0 → k ≡ neg_ℤ (pos q))
    → (s ≡ true → 0 < r → k ≡ neg_ℤ (pos (q + 1))) → IsLong k
long_signed false q r k l h plain exact below = let p = plain refl in
    inr (omega (arith, ints, p), omega (arith, ints, p))
long_signed true q zero k l h plain exact below = let p = exact refl refl in
    inr (omega (arith, ints, p), omega (arith, ints, p))
long_signed true q (suc r) k l h plain exact below = let p = below refl (omega arith) in
    inr (omega (arith, ints, p), omega (arith, ints, p))

-- a number in a row of those that have 60 bits, at a place well inside the grid
floor_grid : (q e : ℤ) → q <ℤ pos 1152921504606846976 → negsuc 1152921504606846975 ≤ℤ q
    → negsuc 511 ≤ℤ e → e <ℤ pos 512 → IsOnGrid (scaled q e)
floor_grid (pos n) e h k l r = on_grid n e (omega (arith, ints)) l (omega (arith, ints))
floor_grid (negsuc n) e h k l r =
    subst IsOnGrid (sym (scaled-neg (pos (n + 1)) e) ∙ ap (λ m. scaled m e) (next n)) (IsOnGrid-neg
    (scaled (pos (n + 1)) e) (next_grid n e (omega (arith, ints)) l (omega (arith, ints)) (inr r)))
  where
    next : (n : ℕ) → neg_ℤ (pos (n + 1)) ≡ negsuc n
    next n = omega (arith, ints)

module _ (k two q e : ℤ) (s : ℕ) (place : e ≡ two +ℤ pos s) (shifted : q ≡ shr_z k (2 ^ s))
    (below : unsigned_abs k < 1152921504606846976 * 2 ^ s)
    (above : (s ≡ 0) ⊎ (576460752303423488 * 2 ^ s ≤ unsigned_abs k)) (low : negsuc 511 ≤ℤ two)
    (high : e <ℤ pos 512) where
  low_q : scaled q e ≤ℚ scaled k two
  low_q = subst (λ m. scaled m e ≤ℚ scaled k two) (sym shifted) (shift_low k two e s place)

  high_q : scaled k two <ℚ scaled (q +ℤ pos 1) e
  high_q =
      subst (λ m. scaled k two <ℚ scaled (m +ℤ pos 1) e) (sym shifted) (shift_high k two e s place)

  whole_at : (m : ℤ) → scaled m e ≡ scaled (m *ℤ pos (2 ^ s)) two
  whole_at m = ap (scaled m) place ∙ scaled-shift m two s

  q_top : q <ℤ pos 1152921504606846976
  q_top = scaled-lt_out q (pos 1152921504606846976) e
      (le_lt_trans (scaled q e) (scaled k two) (scaled (pos 1152921504606846976) e) low_q
      (subst (λ y. scaled k two <ℚ y) (sym (whole_at (pos 1152921504606846976)))
      (scaled-lt k (pos (1152921504606846976 * 2 ^ s)) two (omega (arith, ints)))))

  q_bottom : negsuc 1152921504606846975 ≤ℤ q
  q_bottom = let l = scaled-lt_out (negsuc 1152921504606846975) (q +ℤ pos 1) e
      (le_lt_trans (scaled (negsuc 1152921504606846975) e) (scaled k two) (scaled (q +ℤ pos 1) e)
      (subst (λ y. y ≤ℚ scaled k two) (sym (whole_at (negsuc 1152921504606846975))) (scaled-le
      (neg_ℤ (pos (1152921504606846976 * 2 ^ s))) k two (omega (arith, ints)))) high_q) in
      omega (arith, ints)

  pub whole_grid : IsOnGrid (scaled q e)
  whole_grid = floor_grid q e q_top q_bottom (omega (arith, ints)) high

  greatest : (h : Fraction) → IsOnGrid h → h ≤ℚ scaled k two → h ≤ℚ scaled q e
  greatest h o t =
      ⊎_elim none (λ l. by_lt_z k (pos 0) (λ n. negative l n) (λ n. positive l n)) above
    where
      none : s ≡ 0 → h ≤ℚ scaled q e
      none z = let f : e ≡ two = omega (arith, ints) in let l = scaled-lt_out k (q +ℤ pos 1) two
          (subst (λ e. scaled k two <ℚ scaled (q +ℤ pos 1) e) f high_q) in
          le_trans h (scaled k two) (scaled q e) t (subst (λ e. scaled k two ≤ℚ scaled q e) (sym f)
          (scaled-le k q two (omega (arith, ints))))

      positive : 576460752303423488 * 2 ^ s ≤ unsigned_abs k → pos 0 ≤ℤ k → h ≤ℚ scaled q e
      positive l n = let a = scaled-lt_out (pos 576460752303423488) (q +ℤ pos 1) e
          (le_lt_trans (scaled (pos 576460752303423488) e) (scaled k two) (scaled (q +ℤ pos 1) e)
          (subst (λ y. y ≤ℚ scaled k two) (sym (whole_at (pos 576460752303423488)))
          (scaled-le (pos (576460752303423488 * 2 ^ s)) k two (omega (arith, ints)))) high_q) in
          none_between q e (inl (omega (arith, ints))) h o
          (le_lt_trans h (scaled k two) (scaled (q +ℤ pos 1) e) t high_q)

      negative : 576460752303423488 * 2 ^ s ≤ unsigned_abs k → k <ℤ pos 0 → h ≤ℚ scaled q e
      negative l n =
          let a : scaled k two ≤ℚ scaled (negsuc 576460752303423487) e =
          subst (λ y. scaled k two ≤ℚ y) (sym (whole_at (negsuc 576460752303423487)))
          (scaled-le k (neg_ℤ (pos (576460752303423488 * 2 ^ s))) two (omega (arith, ints))) in
          by_lt_z q (negsuc 576460752303423487)
          (λ w. none_between q e (inr w) h o
          (le_lt_trans h (scaled k two) (scaled (q +ℤ pos 1) e) t high_q))
          (λ w. le_trans h (scaled k two)
          (scaled q e) t (le_trans (scaled k two) (scaled (negsuc 576460752303423487) e)
          (scaled q e) a (scaled-le (negsuc 576460752303423487) q e w)))

  pub whole_down : IsDown (scaled k two) (At (scaled q e))
  whole_down = (whole_grid, low_q, greatest)

-- ---- sums
room_facts_64 : (size lz j : ℕ) → lz + suc j ≡ 64 → 2 ^ j ≤ size → size < 2 ^ suc j
    → size < 1152921504606846976 → (2 ≤ lz) × (2305843009213693952 ≤ size * 2 ^ (lz - 2))
    × (size * 2 ^ (lz - 2) < 4611686018427387904)
room_facts_64 size lz j e h k l =
    let b : j < 60 = ⊎_elim (λ t. t) (λ t. let p : 2 ^ 60 ≤ 2 ^ j = pow-le-pow_right {n = 2}
    (lit≤ tt) {i = 60} {j = j} t in absurd (omega arith)) (cases_lt j 60) in
    let s = shifted_to 61 size (lz - 2) j (omega arith) h k in (omega arith, s.0, s.1)

-- how far a mantissa can be shifted up
pub room_64 : (m : ℤ) (n : ℕ) → n ≡ unsigned_abs m
    → 0 < unsigned_abs m → unsigned_abs m < 1152921504606846976 → (2 ≤ count_leading_zeros 64 n)
    × (2305843009213693952 ≤ unsigned_abs m * 2 ^ (count_leading_zeros 64 n - 2))
    × (unsigned_abs m * 2 ^ (count_leading_zeros 64 n - 2) < 4611686018427387904)
room_64 m n e some few =
    let t = leading_top 64 n (omega arith) (omega arith) in
    let r = room_facts_64 n (count_leading_zeros 64 n) t.0 t.1 t.2 t.3 (omega arith) in (
      r.0,
      subst (λ s. 2305843009213693952 ≤ s * 2 ^ (count_leading_zeros 64 n - 2)) e r.1,
      subst (λ s. s * 2 ^ (count_leading_zeros 64 n - 2) < 4611686018427387904) e r.2,
    )

pub raised_small : (m : ℤ) (up room : ℕ)
    → up ≤ room → unsigned_abs m * 2 ^ room < 4611686018427387904
    → unsigned_abs m * 2 ^ up < 4611686018427387904
raised_small m up room h k =
    let p : 2 ^ up ≤ 2 ^ room = pow-le-pow_right {n = 2} (lit≤ tt) {i = up} {j = room} h in
    let q = mul-le-mul_left (unsigned_abs m) p in omega arith

pub raised_size : (m r : ℤ) (up : ℕ) → r ≡ (m *ℤ pos (2 ^ up))
    → unsigned_abs r ≡ unsigned_abs m * 2 ^ up
raised_size m r up e = ap unsigned_abs e ∙ unsigned_abs-mul m (pos (2 ^ up))

pub parts_fit : (big rest : ℤ) → unsigned_abs big < 4611686018427387904
    → unsigned_abs rest < 1152921504606846976 → FitsSigned w64 (big +ℤ rest)
parts_fit big rest h k = fits_signed_from_abs w64 (big +ℤ rest) (omega (arith, ints))

module _ (hm he lm le big rest k two : ℤ) (gap up room lost : ℕ) (places : he ≡ le +ℤ pos gap)
    (near : up + lost ≡ gap) (first : (up ≡ room) ⊎ (lost ≡ 0)) (at : two ≡ le +ℤ pos lost)
    (is_big : big ≡ (hm *ℤ pos (2 ^ up))) (is_rest : rest ≡ shr_z lm (2 ^ lost))
    (small : unsigned_abs rest < 1152921504606846976)
    (long : 2305843009213693952 ≤ unsigned_abs hm * 2 ^ room) (is_sum : k ≡ big +ℤ rest) where
  high_at : scaled hm he ≡ scaled big two
  high_at = let p : he ≡ two +ℤ pos up = omega (arith, ints) in
      ap (scaled hm) p ∙ scaled-shift hm two up ∙ ap (λ m. scaled m two) (sym is_big)

  abbrev pub total : Fraction
  total = scaled hm he +ℚ scaled lm le

  sum_low : scaled k two ≤ℚ total
  sum_low = subst (λ y. y ≤ℚ total) (scaled-add big rest two ∙ ap (λ m. scaled m two) (sym is_sum))
      (subst (λ z. scaled big two +ℚ scaled rest two ≤ℚ z +ℚ scaled lm le) (sym high_at)
      (add-le (scaled big two) (scaled rest two) (scaled lm le)
      (subst (λ m. scaled m two ≤ℚ scaled lm le) (sym is_rest) (shift_low lm le two lost at))))

  sum_high : total <ℚ scaled (k +ℤ pos 1) two
  sum_high = let n : big +ℤ (rest +ℤ pos 1) ≡ k +ℤ pos 1 = omega (arith, ints) in
      subst (λ y. total <ℚ y) (scaled-add big (rest +ℤ pos 1) two ∙ ap (λ m. scaled m two) n)
      (subst (λ z. z +ℚ scaled lm le <ℚ scaled big two +ℚ scaled (rest +ℤ pos 1) two) (sym high_at)
      (add-lt (scaled big two) (scaled lm le) (scaled (rest +ℤ pos 1) two) (subst (λ m. scaled lm le
      <ℚ scaled (m +ℤ pos 1) two) (sym is_rest) (shift_high lm le two lost at))))

  exact : lost ≡ 0 → total ≡ scaled k two
  exact z = let f : two ≡ le = omega (arith, ints) in
      let a = scaled-le_out rest lm le (subst (λ e. scaled rest e ≤ℚ scaled lm le) f
      (subst (λ m. scaled m two ≤ℚ scaled lm le) (sym is_rest) (shift_low lm le two lost at))) in
      let b = scaled-lt_out lm (rest +ℤ pos 1) le
      (subst (λ e. scaled lm le <ℚ scaled (rest +ℤ pos 1) e) f (subst (λ m. scaled lm le
      <ℚ scaled (m +ℤ pos 1) two) (sym is_rest) (shift_high lm le two lost at))) in
      let n : big +ℤ lm ≡ k = omega (arith, ints) in
      ap (λ y. y +ℚ scaled lm le) high_at ∙ ap (λ e. scaled big two +ℚ scaled lm e) (sym f)
      ∙ scaled-add big lm two ∙ ap (λ m. scaled m two) n

  pub sum_floored : Floored total k two
  sum_floored = ⊎_elim (λ e. inr (let s : unsigned_abs big ≡ unsigned_abs hm * 2 ^ room =
      raised_size hm big up is_big ∙ ap (λ i. unsigned_abs hm * 2 ^ i) e in (
        omega (arith, ints),
        sum_low,
        sum_high,
      ))) (λ z. inl (exact z)) first

-- ---- products
-- a shift by 62 places leaves 61 digits or more of 123, and no more than 63 of 124
high_size : (p : ℤ) → unsigned_abs p ≤ 21267647932558653966460912964485513216
    → unsigned_abs (shr_z p 4611686018427387904) ≤ 4611686018427387904
high_size (pos a) h = let d = div-add-mod' a 4611686018427387904 in
    let m = mod_below a 4611686018427387904 (lit< tt) in omega arith
high_size (negsuc a) h = let d = div-add-mod' a 4611686018427387904 in
    let m = mod_below a 4611686018427387904 (lit< tt) in omega (arith, ints)

product_few : (a b : ℤ) → unsigned_abs a < 4611686018427387904
    → unsigned_abs b < 4611686018427387904
    → unsigned_abs (a *ℤ b) ≤ 21267647932558653966460912964485513216
product_few a b h k =
    let p : unsigned_abs a * unsigned_abs b ≤ 4611686018427387904 * 4611686018427387904 =
    mul-le (unsigned_abs a) (unsigned_abs b) 4611686018427387904 4611686018427387904 (omega arith)
    (omega arith) in omega (arith, unsigned_abs-mul a b)

module _ (a b a' b' : ℤ) (e : a' ≡ a) (f : b' ≡ b) (a_small : unsigned_abs a < 4611686018427387904)
    (b_small : unsigned_abs b < 4611686018427387904) where
  pub whole_fits : FitsSigned w128 (a' *ℤ b')
  whole_fits = fits_signed_mul w128 a' b' 4611686018427387904 4611686018427387904
      (omega (arith, ints)) (omega (arith, ints)) (lit< tt)

  high_few : unsigned_abs (shr_z (a *ℤ b) 4611686018427387904) ≤ 4611686018427387904
  high_few = high_size (a *ℤ b) (product_few a b a_small b_small)

  high_kept : to_z w128 (of_z w128 (shr_z (to_z w128 (of_z w128 (a' *ℤ b'))) 4611686018427387904))
      ≡ shr_z (a *ℤ b) 4611686018427387904
  high_kept = ap (λ m. to_z w128 (of_z w128 (shr_z m 4611686018427387904)))
      (to_z-of_z w128 (a' *ℤ b') whole_fits ∙ (λ i. e i *ℤ f i))
      ∙ to_z-of_z w128 (shr_z (a *ℤ b) 4611686018427387904)
      (fits_signed_from_abs w128 (shr_z (a *ℤ b) 4611686018427387904) (omega (arith, high_few)))

  pub high_fits : FitsSigned w64
      (to_z w128 (of_z w128 (shr_z (to_z w128 (of_z w128 (a' *ℤ b'))) 4611686018427387904)))
  high_fits = subst (λ m. FitsSigned w64 m) (sym high_kept)
      (fits_signed_from_abs w64 (shr_z (a *ℤ b) 4611686018427387904) (omega (arith, high_few)))

  pub high_is : to_z w64 (of_z w64
      (to_z w128 (of_z w128 (shr_z (to_z w128 (of_z w128 (a' *ℤ b'))) 4611686018427387904))))
      ≡ shr_z (a *ℤ b) 4611686018427387904
  high_is = to_z-of_z w64 (to_z w128 (of_z w128
      (shr_z (to_z w128 (of_z w128 (a' *ℤ b'))) 4611686018427387904))) high_fits ∙ high_kept

high_long : (p : ℤ) → 5316911983139663491615228241121378304 ≤ unsigned_abs p
    → 1152921504606846976 ≤ unsigned_abs (shr_z p 4611686018427387904)
high_long (pos a) h = let d = div-add-mod' a 4611686018427387904 in
    let m = mod_below a 4611686018427387904 (lit< tt) in omega arith
high_long (negsuc a) h = let d = div-add-mod' a 4611686018427387904 in
    let m = mod_below a 4611686018427387904 (lit< tt) in omega (arith, ints)

-- a factor 0
pub zero_product : (am ae bm be : ℤ) → (am ≡ pos 0) ⊎ (bm ≡ pos 0)
    → scaled am ae *ℚ scaled bm be ≡ scaled (pos 0) (pos 0)
zero_product am ae bm be (inl z) = ap (λ x. x *ℚ scaled bm be) (zero_in am ae z)
    ∙ zero-mul (scaled bm be) ∙ sym (scaled-zero (pos 0))
zero_product am ae bm be (inr z) =
    mul_comm (scaled am ae) (scaled bm be) ∙ ap (λ x. x *ℚ scaled am ae) (zero_in bm be z)
    ∙ zero-mul (scaled am ae) ∙ sym (scaled-zero (pos 0))

-- both numbers shifted to 62 bits
module _ (am ae bm be a b k two : ℤ) (l r : ℕ) (is_a : a ≡ (am *ℤ pos (2 ^ l)))
    (is_b : b ≡ (bm *ℤ pos (2 ^ r))) (a_long : 2305843009213693952 ≤ unsigned_abs am * 2 ^ l)
    (b_long : 2305843009213693952 ≤ unsigned_abs bm * 2 ^ r)
    (is_high : k ≡ shr_z (a *ℤ b) 4611686018427387904)
    (at : (two +ℤ pos l) +ℤ pos r ≡ (ae +ℤ be) +ℤ pos 62) where
  by_parts : scaled am ae *ℚ scaled bm be ≡ scaled (a *ℤ b) (two +ℤ negsuc 61)
  by_parts = let p : ae ≡ (ae +ℤ neg_ℤ (pos l)) +ℤ pos l = omega (arith, ints) in
      let q : be ≡ (be +ℤ neg_ℤ (pos r)) +ℤ pos r = omega (arith, ints) in
      let e : (ae +ℤ neg_ℤ (pos l)) +ℤ (be +ℤ neg_ℤ (pos r))
      ≡ two +ℤ negsuc 61 = omega (arith, ints) in
      (λ i. (ap (scaled am) p ∙ scaled-shift am (ae +ℤ neg_ℤ (pos l)) l
      ∙ ap (λ m. scaled m (ae +ℤ neg_ℤ (pos l))) (sym is_a)) i *ℚ (ap (scaled bm) q ∙ scaled-shift
      bm (be +ℤ neg_ℤ (pos r)) r ∙ ap (λ m. scaled m (be +ℤ neg_ℤ (pos r))) (sym is_b)) i)
      ∙ scaled-mul a (ae +ℤ neg_ℤ (pos l)) b (be +ℤ neg_ℤ (pos r)) ∙ ap (scaled (a *ℤ b)) e

  product_long : 5316911983139663491615228241121378304 ≤ unsigned_abs (a *ℤ b)
  product_long = let s = raised_size am a l is_a in let t = raised_size bm b r is_b in
      let m : 2305843009213693952 * 2305843009213693952 ≤ unsigned_abs a * unsigned_abs b =
      mul-le 2305843009213693952 2305843009213693952 (unsigned_abs a) (unsigned_abs b) (omega arith)
      (omega arith) in omega (arith, unsigned_abs-mul a b)

  pub product_floored : Floored (scaled am ae *ℚ scaled bm be) k two
  product_floored = let place : two ≡ (two +ℤ negsuc 61) +ℤ pos 62 = omega (arith, ints) in
      inr (
        subst (λ m. 1152921504606846976 ≤ unsigned_abs m) (sym is_high)
            (high_long (a *ℤ b) product_long),
        subst (λ m. scaled m two ≤ℚ scaled am ae *ℚ scaled bm be)
            (sym is_high) (subst (λ x. scaled (shr_z (a *ℤ b) (2 ^ 62)) two ≤ℚ x) (sym by_parts)
            (shift_low (a *ℤ b) (two +ℤ negsuc 61) two 62 place)),
        subst (λ m. scaled am ae *ℚ scaled bm be <ℚ scaled (m +ℤ pos 1) two) (sym is_high)
            (subst (λ x. x <ℚ scaled (shr_z (a *ℤ b) (2 ^ 62) +ℤ pos 1) two) (sym by_parts)
            (shift_high (a *ℤ b) (two +ℤ negsuc 61) two 62 place)),
      )

  pub product_is_long : unsigned_abs a < 4611686018427387904
      → unsigned_abs b < 4611686018427387904 → IsLong k
  product_is_long s t = subst IsLong (sym is_high)
      (inr (high_long (a *ℤ b) product_long, high_size (a *ℤ b) (product_few a b s t)))
