-- Points between two numbers.
use Rattle.std.proofs.Common.{◌≡◌, ℕ, ℤ, pos, negsuc, ◌+ℤ◌, ◌*ℤ◌, ◌+◌, ◌-◌, ◌<◌, Bool, true, false}
use Rattle.std.proofs.Common.{arith, ap, sym, subst, ◌∙◌, inl, inr, ⊎_elim}
use Rattle.std.proofs.lemmas.Int.{ints}
use Rattle.fx_model.specs.Fraction.{Fraction, ◌+ℚ◌, ◌*ℚ◌, ◌≤ℚ◌, ◌<ℚ◌, inverse_ℚ, zero_ℚ, one_ℚ}
use Rattle.fx_model.specs.Fraction.{one-mul, mul_comm, mul_assoc, mul-add, mul-inverse, mul-le}
use Rattle.fx_model.specs.Fraction.{mul-le_cancel, mul-lt, add_comm, add-le, add-le_out, add-le-add}
use Rattle.fx_model.specs.Fraction.{le_refl, le_trans, le_antisymm, lt_by, lt_not, lt_le}
use Rattle.fx_model.specs.Fraction.{le_lt_trans, le_or_lt}
use Rattle.fx_model.specs.Powers.{whole, two_to, scaled, two_to-add, two_to-pos, two_to-positive}
use Rattle.fx_model.specs.Powers.{whole-add, whole-mul, whole-le, whole-lt, zero-whole, one-whole}
use Rattle.fx_model.specs.Grid.{IsOnGrid, At, IsDown, IsUp, signed}
use Rattle.fx_model.specs.Cut.{Cuts}
use Rattle.dyadic.specs.Middle.{halfway, part_of, IsBetween, IsMiddle}
use Rattle.dyadic.proofs.ProductLemmas.{mul-signed}
use Rattle.dyadic.proofs.QuotientLemmas.{raised}

-- ---- half of a cut value
half_at : (m t t' : ℤ) → t ≡ t' +ℤ pos 1 → two_to (negsuc 0) *ℚ scaled m t ≡ scaled m t'
half_at m t t' e = raised m t (negsuc 0) ∙ ap (scaled m) (omega (arith, ints))

half_cut : (y : Fraction) (d : ℕ) (t t' : ℤ) (i : Bool) → t ≡ t' +ℤ pos 1 → Cuts y d t i
    → Cuts (two_to (negsuc 0) *ℚ y) d t' i
half_cut y d t t' false e c = ap (λ y. two_to (negsuc 0) *ℚ y) c ∙ half_at (pos d) t t' e
half_cut y d t t' true e c = (
  subst (λ x. x <ℚ two_to (negsuc 0) *ℚ y) (half_at (pos d) t t' e)
      (mul-lt (two_to (negsuc 0)) (scaled (pos d) t) y (two_to-positive (negsuc 0)) c.0),
  subst (λ x. two_to (negsuc 0) *ℚ y <ℚ x) (half_at (pos (d + 1)) t t' e)
      (mul-lt (two_to (negsuc 0)) y (scaled (pos (d + 1)) t) (two_to-positive (negsuc 0)) c.1),
)

pub halved_cut : (n : Bool) (x : Fraction) (d d' : ℕ) (t t' : ℤ) (i i' : Bool) → t ≡ t' +ℤ pos 1
    → d' ≡ d → i' ≡ i → Cuts (signed n x) d t i → Cuts (signed n (x *ℚ two_to (negsuc 0))) d' t' i'
halved_cut n x d d' t t' i i' e p q c =
    subst (λ d. Cuts (signed n (x *ℚ two_to (negsuc 0))) d t' i') (sym p)
    (subst (λ i. Cuts (signed n (x *ℚ two_to (negsuc 0))) d t' i) (sym q)
    (subst (λ y. Cuts y d t' i) (mul-signed n (two_to (negsuc 0)) x
    ∙ ap (signed n) (mul_comm (two_to (negsuc 0)) x)) (half_cut (signed n x) d t t' i e c)))

-- ---- (a + b) / 2 lies between a and b
twice : (x : Fraction) → two_to (pos 1) *ℚ x ≡ x +ℚ x
twice x = ap (λ y. y *ℚ x) (two_to-pos 1 ∙ whole-add (pos 1) (pos 1))
    ∙ mul_comm (whole (pos 1) +ℚ whole (pos 1)) x ∙ mul-add x (whole (pos 1)) (whole (pos 1))
    ∙ (let one : x *ℚ whole (pos 1) ≡ x = mul_comm x (whole (pos 1))
    ∙ ap (λ y. y *ℚ x) (sym one-whole) ∙ one-mul x in λ i. one i +ℚ one i)

unit : two_to (negsuc 0) *ℚ two_to (pos 1) ≡ one_ℚ
unit = sym (two_to-add (negsuc 0) (pos 1)) ∙ two_to-pos 0 ∙ sym one-whole

twice_half : (a b : Fraction) → two_to (pos 1) *ℚ halfway a b ≡ a +ℚ b
twice_half a b = mul_comm (two_to (pos 1)) (halfway a b) ∙ mul_assoc (a +ℚ b) (two_to (negsuc 0))
    (two_to (pos 1)) ∙ ap (λ y. (a +ℚ b) *ℚ y) unit ∙ mul_comm (a +ℚ b) one_ℚ ∙ one-mul (a +ℚ b)

under_half : (a b x : Fraction) → x +ℚ x ≤ℚ a +ℚ b → x ≤ℚ halfway a b
under_half a b x h = mul-le_cancel (two_to (pos 1)) x (halfway a b)
    (two_to-positive (pos 1)) (subst (λ y. y ≤ℚ two_to (pos 1) *ℚ halfway a b) (sym (twice x))
    (subst (λ y. x +ℚ x ≤ℚ y) (sym (twice_half a b)) h))

over_half : (a b x : Fraction) → a +ℚ b ≤ℚ x +ℚ x → halfway a b ≤ℚ x
over_half a b x h = mul-le_cancel (two_to (pos 1)) (halfway a b) x (two_to-positive (pos 1))
    (subst (λ y. y ≤ℚ two_to (pos 1) *ℚ x) (sym (twice_half a b))
    (subst (λ y. a +ℚ b ≤ℚ y) (sym (twice x)) h))

from_half : (a b x : Fraction) → x ≤ℚ halfway a b → x +ℚ x ≤ℚ a +ℚ b
from_half a b x h = subst (λ y. y ≤ℚ a +ℚ b) (twice x)
    (subst (λ y. two_to (pos 1) *ℚ x ≤ℚ y) (twice_half a b) (mul-le (two_to (pos 1)) x (halfway a b)
    (lt_le zero_ℚ (two_to (pos 1)) (two_to-positive (pos 1))) h))

to_half : (a b x : Fraction) → halfway a b ≤ℚ x → a +ℚ b ≤ℚ x +ℚ x
to_half a b x h = subst (λ y. y ≤ℚ x +ℚ x) (twice_half a b)
    (subst (λ y. two_to (pos 1) *ℚ halfway a b ≤ℚ y) (twice x) (mul-le (two_to (pos 1))
    (halfway a b) x (lt_le zero_ℚ (two_to (pos 1)) (two_to-positive (pos 1))) h))

module _ (a b : Fraction) (ordered : a ≤ℚ b) where
  pub low_half : a ≤ℚ halfway a b
  low_half = under_half a b a (add-le a a b ordered)

  pub high_half : halfway a b ≤ℚ b
  high_half = over_half a b b (add-le-add a b b b ordered (le_refl b))

  -- where b isn't above the half, it isn't above a
  low_end : b ≤ℚ halfway a b → b ≤ℚ a
  low_end h = add-le_out b b a (subst (λ y. b +ℚ b ≤ℚ y) (add_comm a b) (from_half a b b h))

  high_end : halfway a b ≤ℚ a → b ≤ℚ a
  high_end h = add-le_out a b a (to_half a b a h)

  -- ---- the two candidates
  pub lower_middle : (m : Fraction) → IsDown (halfway a b) (At m) → a <ℚ m
      → IsBetween a b m × IsMiddle a b m
  lower_middle m d l = (
    record {
      on_grid = d.0;
      above = l;
      below = lt_by m b (λ k. let e = low_end (le_trans b m (halfway a b) k d.1) in
          lt_not a m l (le_trans m (halfway a b) a d.1 (over_half a b a (add-le a b a e))));
    },
    inl (d, l),
  )

  same_low : (m : Fraction) → IsOnGrid a → IsDown (halfway a b) (At m) → ¬ (a <ℚ m) → a ≡ m
  same_low m g d n =
      le_antisymm a m (d.2 a g low_half) (⊎_elim (λ l. l) (λ l. absurd (n l)) (le_or_lt m a))

  pub upper_middle : (m u : Fraction) → IsOnGrid a → IsDown (halfway a b) (At m) → ¬ (a <ℚ m)
      → IsUp (halfway a b) (At u) → u <ℚ b → IsBetween a b u × IsMiddle a b u
  upper_middle m u g d n p l = (
    record {
      on_grid = p.0;
      above = lt_by a u (λ k. let e = high_end (le_trans (halfway a b) u a p.1 k) in
          lt_not u b l (le_trans b a u e (le_trans a (halfway a b) u low_half p.1)));
      below = l;
    },
    inr (subst (λ y. IsDown (halfway a b) (At y)) (sym (same_low m g d n)) d, p),
  )

  pub no_middle : (m u : Fraction) → IsDown (halfway a b) (At m) → ¬ (a <ℚ m)
      → IsUp (halfway a b) (At u) → ¬ (u <ℚ b) → (g : Fraction) → ¬ (IsBetween a b g)
  no_middle m u d n p k g t = ⊎_elim
      (λ l. n (le_lt_under (d.2 g t.on_grid l)))
      (λ l. k (le_lt_trans u g b (p.2 g t.on_grid (lt_le (halfway a b) g l)) t.below))
      (le_or_lt g (halfway a b))
    where
      le_lt_under : g ≤ℚ m → a <ℚ m
      le_lt_under l = lt_by a m (λ v. lt_not a g t.above (le_trans g m a l v))

-- ---- the i-th of n parts
module _ (a b : Fraction) (i n : ℕ) (inside : i < n) where
  sum : Fraction
  sum = (whole (pos (n - i)) *ℚ a) +ℚ (whole (pos i) *ℚ b)

  positive : zero_ℚ <ℚ whole (pos n)
  positive = subst (λ y. y <ℚ whole (pos n)) (sym zero-whole)
      (whole-lt (pos 0) (pos n) (omega (arith, ints)))

  nonzero : ¬ (whole (pos n) ≡ zero_ℚ)
  nonzero e =
      lt_not zero_ℚ (whole (pos n)) positive (subst (λ y. y ≤ℚ zero_ℚ) (sym e) (le_refl zero_ℚ))

  pub whole_part : whole (pos n) *ℚ part_of a b i n
      ≡ (whole (pos (n - i)) *ℚ a) +ℚ (whole (pos i) *ℚ b)
  whole_part = mul_comm (whole (pos n)) (part_of a b i n) ∙ mul_assoc ((whole (pos (n - i)) *ℚ a)
      +ℚ (whole (pos i) *ℚ b)) (inverse_ℚ (whole (pos n))) (whole (pos n))
      ∙ ap (λ y. ((whole (pos (n - i)) *ℚ a) +ℚ (whole (pos i) *ℚ b)) *ℚ y)
      (mul_comm (inverse_ℚ (whole (pos n))) (whole (pos n)) ∙ mul-inverse (whole (pos n)) nonzero)
      ∙ mul_comm ((whole (pos (n - i)) *ℚ a) +ℚ (whole (pos i) *ℚ b)) one_ℚ
      ∙ one-mul ((whole (pos (n - i)) *ℚ a) +ℚ (whole (pos i) *ℚ b))

  shares : whole (pos n) *ℚ a ≡ (whole (pos (n - i)) *ℚ a) +ℚ (whole (pos i) *ℚ a)
  shares = let e : pos n ≡ pos (n - i) +ℤ pos i = omega (arith, ints) in
      ap (λ k. whole k *ℚ a) e ∙ ap (λ y. y *ℚ a) (whole-add (pos (n - i)) (pos i))
      ∙ mul_comm (whole (pos (n - i)) +ℚ whole (pos i)) a
      ∙ mul-add a (whole (pos (n - i))) (whole (pos i))
      ∙ (λ k. mul_comm a (whole (pos (n - i))) k +ℚ mul_comm a (whole (pos i)) k)

  pub part_above : a ≤ℚ b → a ≤ℚ part_of a b i n
  part_above h = mul-le_cancel (whole (pos n)) a
      (part_of a b i n) positive (subst (λ y. y ≤ℚ whole (pos n) *ℚ part_of a b i n) (sym shares)
      (subst (λ y. ((whole (pos (n - i)) *ℚ a) +ℚ (whole (pos i) *ℚ a)) ≤ℚ y) (sym whole_part)
      (add-le (whole (pos (n - i)) *ℚ a) (whole (pos i) *ℚ a) (whole (pos i) *ℚ b)
      (mul-le (whole (pos i)) a b (subst (λ y. y ≤ℚ whole (pos i)) (sym zero-whole)
      (whole-le (pos 0) (pos i) (omega (arith, ints)))) h))))

-- the multiple of a number, as a term
multiple_is : (m e m' e' k : ℤ) → m' ≡ (m *ℤ k) → e' ≡ e → scaled m' e' ≡ whole k *ℚ scaled m e
multiple_is m e m' e' k p q = ap (λ m. scaled m e') p ∙ ap (scaled (m *ℤ k)) q
    ∙ ap (λ y. y *ℚ two_to e) (whole-mul m k ∙ mul_comm (whole m) (whole k))
    ∙ mul_assoc (whole k) (whole m) (two_to e)

pub part_cut : (am ae bm be am' ae' bm' be' : ℤ) (i n : ℕ) (s : Bool) (d : ℕ) (t : ℤ) (x : Bool)
    → i < n → am' ≡ (am *ℤ pos (n - i)) → ae' ≡ ae → bm' ≡ (bm *ℤ pos i) → be' ≡ be
    → Cuts (signed s (scaled am' ae' +ℚ scaled bm' be')) d t x
    → Cuts (whole (pos n) *ℚ signed s (part_of (scaled am ae) (scaled bm be) i n)) d t x
part_cut am ae bm be am' ae' bm' be' i n s d t x inside p q r u c = subst (λ y. Cuts y d t x)
    (ap (signed s) ((λ k. multiple_is am ae am' ae' (pos (n - i)) p q k +ℚ multiple_is bm be bm' be'
    (pos i) r u k) ∙ sym (whole_part (scaled am ae) (scaled bm be) i n inside))
    ∙ sym (mul-signed s (whole (pos n)) (part_of (scaled am ae) (scaled bm be) i n))) c

-- a test that was false
pub refused : (s : Bool) (P : Type 0) → (P → s ≡ true) → s ≡ false → ¬ P
refused s P f e p = let t = f p in cc
