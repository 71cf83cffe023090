-- How numbers compare, by their mantissas at one place.
use borrow.Author.Differences.{product_is}
use Rattle.std.specs.Prelude.{if◌then◌else◌}
use Rattle.std.proofs.Common.{◌≡◌, ℕ, ℤ, pos, negsuc, ◌+ℤ◌, ◌*ℤ◌, ◌<ℤ◌, ◌≤ℤ◌, ◌<◌, ◌≤◌, ◌*◌, ◌+◌}
use Rattle.std.proofs.Common.{◌^◌, min, Bool, true, false, arith, ap, sym, subst, ◌∙◌, refl, ⊎_elim}
use Rattle.std.proofs.Common.{lit≤}
use Rattle.std.specs.Int.RustNames.{unsigned_abs, int_lt}
use Rattle.std.proofs.lemmas.Int.{ints, by_lt_z}
use Rattle.std.proofs.lemmas.Bool.{cases_lt}
use Rattle.std.proofs.lemmas.Nat.{pow_pos}
use Rattle.std.proofs.Math.Nat.{pow-le-pow_right, mul-le-mul_right}
use Rattle.std.specs.declared.cmp.Ordering.{Ordering}
use Rattle.std.specs.declared.cmp.Ordering.TheVariants.{Less, Equal, Greater}
use Rattle.std.specs.Ordering.{int_cmp, is_eq, eq_by_cmp}
use Rattle.std.specs.Bool.{Decides, one_answer}
use Rattle.fx_model.specs.Fraction.{Fraction, le_ℚ, ◌≤ℚ◌, ◌<ℚ◌, ◌*ℚ◌, le_refl, one_ℚ, neg_ℚ}
use Rattle.fx_model.specs.Fraction.{mul_comm, one-mul}
use Rattle.fx_model.specs.Powers.{whole, scaled, scaled-le, scaled-lt, scaled-shift, scaled-lt_out}
use Rattle.fx_model.specs.Powers.{whole-neg, one-whole, two_to-pos}
use Rattle.dyadic.specs.declared.number.End.{End}
use Rattle.dyadic.specs.declared.number.Dyadic.{Dyadic}
use Rattle.dyadic.specs.Values.{value_of}
use Rattle.dyadic.proofs.Compared.{value_cmp-equal}
use Rattle.dyadic.specs.Order.{cmp_by, value_cmp}

pub int_less : (m n : ℤ) → m <ℤ n → int_cmp m n ≡ Less
int_less m n h = let e : int_lt m n ≡ true = grind (arith, ints) in rw e

pub int_greater : (m n : ℤ) → n <ℤ m → int_cmp m n ≡ Greater
int_greater m n h = let e : int_lt n m ≡ true = grind (arith, ints) in
    let f : int_lt m n ≡ false = grind (arith, ints) in rw (e, f)

pub int_equal : (m n : ℤ) → m ≡ n → int_cmp m n ≡ Equal
int_equal m n h = let e : int_lt n m ≡ false = grind (arith, ints) in
    let f : int_lt m n ≡ false = grind (arith, ints) in rw (e, f)

value_less : (x y : Fraction) → x <ℚ y → x ≤ℚ y → cmp_by le_ℚ x y ≡ Less
value_less x y l h = rw (h.le, l.lt)

value_greater : (x y : Fraction) → y <ℚ x → cmp_by le_ℚ x y ≡ Greater
value_greater x y l = rw l.lt

value_equal : (x y : Fraction) → x ≡ y → cmp_by le_ℚ x y ≡ Equal
value_equal x y e = ap (cmp_by le_ℚ x) (sym e) ∙ rw (le_refl x).le

-- at one place the mantissas decide
scaled_cmp : (m n e : ℤ) → cmp_by le_ℚ (scaled m e) (scaled n e) ≡ int_cmp m n
scaled_cmp m n e = by_lt_z m n
    (λ l. value_less (scaled m e) (scaled n e) (scaled-lt m n e l)
    (scaled-le m n e (omega (arith, ints))) ∙ sym (int_less m n l))
    (λ l. by_lt_z n m
    (λ k. value_greater (scaled m e) (scaled n e) (scaled-lt n m e k) ∙ sym (int_greater m n k))
    (λ k. let h : m ≡ n = omega (arith, ints) in
    value_equal (scaled m e) (scaled n e) (ap (λ m. scaled m e) h) ∙ sym (int_equal m n h)))

pub value_cmp_at : (a b : Dyadic) (gap : ℕ) → a.exponent ≡ b.exponent +ℤ pos gap
    → value_cmp a b ≡ int_cmp (a.mantissa *ℤ pos (2 ^ gap)) b.mantissa
value_cmp_at a b gap e = ap (λ x. cmp_by le_ℚ x (value_of b)) (ap (scaled a.mantissa) e
    ∙ scaled-shift a.mantissa b.exponent gap)
    ∙ scaled_cmp (a.mantissa *ℤ pos (2 ^ gap)) b.mantissa b.exponent

-- ---- past 60 places the sign of the higher decides
far_up : (h l : ℤ) (p : ℕ) → pos 0 <ℤ h → unsigned_abs l < 1152921504606846976
    → 1152921504606846976 ≤ p → l <ℤ (h *ℤ pos p)
far_up (pos h) l p s f k =
    let q : 1 * p ≤ h * p = mul-le-mul_right {m = 1} p (omega (arith, ints)) in omega (arith, ints)
far_up (negsuc h) l p s f k = absurd (omega (arith, ints))

far_down : (h l : ℤ) (p : ℕ) → h <ℤ pos 0 → unsigned_abs l < 1152921504606846976
    → 1152921504606846976 ≤ p → (h *ℤ pos p) <ℤ l
far_down (pos h) l p s f k = absurd (omega (arith, ints))
far_down (negsuc h) l p s f k =
    let q : 1 * p ≤ (h + 1) * p = mul-le-mul_right {m = 1} p (omega arith) in
    omega (arith, ints, product_is (negsuc h) (pos p))

far_cmp : (h l : ℤ) (p q : ℕ) → unsigned_abs l < 1152921504606846976 → 1152921504606846976 ≤ p
    → 1152921504606846976 ≤ q → int_cmp (h *ℤ pos p) l ≡ int_cmp (h *ℤ pos q) l
far_cmp h l p q f i j = by_lt_z h (pos 0)
    (λ s. int_less (h *ℤ pos p) l (far_down h l p s f i)
    ∙ sym (int_less (h *ℤ pos q) l (far_down h l q s f j)))
    (λ s. by_lt_z (pos 0) h
    (λ t. int_greater (h *ℤ pos p) l (far_up h l p t f i)
    ∙ sym (int_greater (h *ℤ pos q) l (far_up h l q t f j)))
    (λ t. let z : h ≡ pos 0 = omega (arith, ints) in
    let e : (pos 0 *ℤ pos p) ≡ (pos 0 *ℤ pos q) = omega (arith, ints) in
    ap (λ h. int_cmp (h *ℤ pos p) l) z ∙ ap (λ n. int_cmp n l) e
    ∙ ap (λ h. int_cmp (h *ℤ pos q) l) (sym z)))

pub compare_far : (h l : ℤ) (gap : ℕ) → unsigned_abs l < 1152921504606846976
    → int_cmp (h *ℤ pos (2 ^ min gap 60)) l ≡ int_cmp (h *ℤ pos (2 ^ gap)) l
compare_far h l gap f = ⊎_elim
    (λ k. let e : min gap 60 ≡ 60 = omega arith in
    let p : 2 ^ 60 ≤ 2 ^ gap =
    pow-le-pow_right {n = 2} (lit≤ tt) {i = 60} {j = gap} (omega arith) in
    ap (λ n. int_cmp (h *ℤ pos (2 ^ n)) l) e ∙ far_cmp h l (2 ^ 60) (2 ^ gap) f (omega arith) p)
    (λ k. let e : min gap 60 ≡ gap = omega arith in ap (λ n. int_cmp (h *ℤ pos (2 ^ n)) l) e)
    (cases_lt 60 gap)

-- ---- where the signs decide
pub signs_above : (h l : ℤ) (gap : ℕ) → l ≤ℤ pos 0 → pos 0 <ℤ h
    → int_cmp (h *ℤ pos (2 ^ gap)) l ≡ Greater
signs_above h l gap p q = int_greater (h *ℤ pos (2 ^ gap)) l (above h q)
  where
    above : (h : ℤ) → pos 0 <ℤ h → l <ℤ (h *ℤ pos (2 ^ gap))
    above (pos h) q = let k : 1 * 2 ^ gap ≤ h * 2 ^ gap =
        mul-le-mul_right {m = 1} (2 ^ gap) (omega (arith, ints)) in
        let r = pow_pos gap in omega (arith, ints)
    above (negsuc h) q = absurd (omega (arith, ints))

-- ---- the test of equal values
tied : (r : Ordering) → is_eq r ≡ true → r ≡ Equal
tied Less e = cc
tied Equal e = refl
tied Greater e = cc

pub same_test : (a b : Dyadic) (s : Bool) → Decides s (value_of a ≡ value_of b)
    → s ≡ eq_by_cmp value_cmp a b
same_test a b s d = one_answer s (eq_by_cmp value_cmp a b) d (
  λ e. value_cmp-equal a b (tied (value_cmp a b) e),
  λ e. ap is_eq (value_equal (value_of a) (value_of b) e),
)

-- ---- the steps of the code, by the numbers that they compute
pub compared : (a b : Dyadic) (h l : ℤ) (gap : ℕ) (r : Ordering) → h ≡ a.mantissa → l ≡ b.mantissa
    → a.exponent ≡ b.exponent +ℤ pos gap → r ≡ int_cmp (h *ℤ pos (2 ^ gap)) l → r ≡ value_cmp a b
compared a b h l gap r p q e f = f ∙ ap (λ h. int_cmp (h *ℤ pos (2 ^ gap)) l) p
    ∙ ap (int_cmp (a.mantissa *ℤ pos (2 ^ gap))) q ∙ sym (value_cmp_at a b gap e)

pub compared_far : (h h' x l l' : ℤ) (gap k : ℕ) (r : Ordering) → x ≡ (h' *ℤ pos (2 ^ k))
    → h' ≡ h → k ≡ min gap 60 → l' ≡ l → unsigned_abs l < 1152921504606846976 → r ≡ int_cmp x l'
    → r ≡ int_cmp (h *ℤ pos (2 ^ gap)) l
compared_far h h' x l l' gap k r e a d f small g =
    g ∙ ap (λ x. int_cmp x l') (e ∙ (λ i. a i *ℤ pos (2 ^ d i)))
    ∙ ap (int_cmp (h *ℤ pos (2 ^ min gap 60))) f ∙ compare_far h l gap small

-- ---- against -1
minus_one : neg_ℚ one_ℚ ≡ scaled (negsuc 0) (pos 0)
minus_one = ap neg_ℚ one-whole ∙ sym (whole-neg (pos 1)) ∙ sym (ap (λ y. whole (negsuc 0) *ℚ y)
    (two_to-pos 0 ∙ sym one-whole) ∙ mul_comm (whole (negsuc 0)) one_ℚ ∙ one-mul (whole (negsuc 0)))

high_up : (m : ℤ) (p : ℕ) → pos 0 ≤ℤ m → negsuc 0 <ℤ (m *ℤ pos p)
high_up (pos a) p h = omega (arith, ints)
high_up (negsuc a) p h = absurd (omega (arith, ints))

high_out : (m : ℤ) (p : ℕ) → 0 < p → negsuc 0 <ℤ (m *ℤ pos p) → pos 0 ≤ℤ m
high_out (pos a) p s h = omega (arith, ints)
high_out (negsuc a) p s h =
    let q : 1 * p ≤ (a + 1) * p = mul-le-mul_right {m = 1} p (omega arith) in
    absurd (omega (arith, ints, product_is (negsuc a) (pos p)))

at_whole : (m : ℤ) (n : ℕ) → scaled m (pos n) ≡ scaled (m *ℤ pos (2 ^ n)) (pos 0)
at_whole m n = let e : pos n ≡ (pos 0 +ℤ pos n) = omega (arith, ints) in
    ap (scaled m) e ∙ scaled-shift m (pos 0) n

-- at a place that isn't below 0, a number is above -1 where it isn't negative
pub above_whole : (m e : ℤ) → pos 0 ≤ℤ e → pos 0 ≤ℤ m → neg_ℚ one_ℚ <ℚ scaled m e
above_whole m (pos n) k h = subst (λ x. x <ℚ scaled m (pos n)) (sym minus_one)
    (subst (λ x. scaled (negsuc 0) (pos 0) <ℚ x) (sym (at_whole m n))
    (scaled-lt (negsuc 0) (m *ℤ pos (2 ^ n)) (pos 0) (high_up m (2 ^ n) h)))
above_whole m (negsuc n) k h = absurd (omega (arith, ints))

pub above_whole_out : (m e : ℤ) → pos 0 ≤ℤ e → neg_ℚ one_ℚ <ℚ scaled m e → pos 0 ≤ℤ m
above_whole_out m (pos n) k h =
    high_out m (2 ^ n) (pow_pos n) (scaled-lt_out (negsuc 0) (m *ℤ pos (2 ^ n)) (pos 0)
    (subst (λ x. scaled (negsuc 0) (pos 0) <ℚ x) (at_whole m n)
    (subst (λ x. x <ℚ scaled m (pos n)) minus_one h)))
above_whole_out m (negsuc n) k h = absurd (omega (arith, ints))

-- -1 at a place below 0
at_place : (e : ℤ) (k : ℕ) → e +ℤ pos k ≡ pos 0 → neg_ℚ one_ℚ ≡ scaled (negsuc 0 *ℤ pos (2 ^ k)) e
at_place e k h = minus_one ∙ ap (scaled (negsuc 0)) (sym h) ∙ scaled-shift (negsuc 0) e k

less_by : (x y z : ℤ) → int_cmp x z ≡ int_cmp y z → x <ℤ z → y <ℤ z
less_by x y z e l =
    by_lt_z y z (λ k. k) (λ k. let s : int_cmp y z ≡ Less = sym e ∙ int_less x z l in by_lt_z z y
    (λ g. let t : Less ≡ Greater = sym s ∙ int_greater y z g in cc)
    (λ g. let t : Less ≡ Equal = sym s ∙ int_equal y z (omega (arith, ints)) in cc))

-- and there 60 places are as good as more
pub above_part : (m e : ℤ) (k : ℕ) → e +ℤ pos k ≡ pos 0 → unsigned_abs m < 1152921504606846976
    → (negsuc 0 *ℤ pos (2 ^ min k 60)) <ℤ m → neg_ℚ one_ℚ <ℚ scaled m e
above_part m e k h f l = subst (λ x. x <ℚ scaled m e) (sym (at_place e k h))
    (scaled-lt (negsuc 0 *ℤ pos (2 ^ k)) m e (less_by (negsuc 0 *ℤ pos (2 ^ min k 60))
    (negsuc 0 *ℤ pos (2 ^ k)) m (compare_far (negsuc 0) m k f) l))

pub above_part_out : (m e : ℤ) (k : ℕ) → e +ℤ pos k ≡ pos 0 → unsigned_abs m < 1152921504606846976
    → neg_ℚ one_ℚ <ℚ scaled m e → (negsuc 0 *ℤ pos (2 ^ min k 60)) <ℤ m
above_part_out m e k h f l = less_by (negsuc 0 *ℤ pos (2 ^ k))
    (negsuc 0 *ℤ pos (2 ^ min k 60)) m (sym (compare_far (negsuc 0) m k f))
    (scaled-lt_out (negsuc 0 *ℤ pos (2 ^ k)) m e (subst (λ x. x <ℚ scaled m e) (at_place e k h) l))

-- ---- which of two was taken
pub taken_then : (s : Bool) (x y : End) → s ≡ true → x ≡ (if s then x else y)
taken_then true x y e = refl
taken_then false x y e = cc

pub taken_else : (s : Bool) (x y : End) → s ≡ false → y ≡ (if s then x else y)
taken_else true x y e = cc
taken_else false x y e = refl
