-- Absolute values and squares.
use Rattle.std.specs.Prelude.{◌≡◌, ◌⊎◌, Bool, false, IsTrue}
use Rattle.std.proofs.Common.{refl, sym, subst, ap, ◌∙◌, ⊎_elim}
use Rattle.fx_model.specs.Fraction.{Fraction, ◌+ℚ◌, ◌*ℚ◌, ◌-ℚ◌, ◌≤ℚ◌, ◌<ℚ◌, zero_ℚ, one_ℚ, neg_ℚ}
use Rattle.fx_model.specs.Fraction.{abs_ℚ, abs-from, le_trans, le_refl, le_or_lt, lt_le, lt_not}
use Rattle.fx_model.specs.Fraction.{neg-neg, neg-mul, mul-le, minus_one, plus_one, zero-add}
use Rattle.fx_model.specs.Fraction.{one-mul, add-le-add, lt_le_trans, neg_up, neg_down, mul-neg}
use Rattle.fx_model.specs.Grid.{Bound, Below, At, Above, neg_bound, neg_bound-neg}
use Rattle.fx_model.specs.Enclosure.{Range, IsFrom, IsUpTo, Lies, Negations, Sizes, Squares}
use Rattle.fx_model.specs.Enclosure.{IsSquare, IsInfimum, IsSupremum, IsEnclosure, IsOrdered}
use Rattle.fx_model.specs.Enclosure.{BoundLe, infimum_at, supremum_at, member_of, ordered_by, deep}
use Rattle.fx_model.specs.Enclosure.{far, low_lies, high_lies, from_neg, up_to_neg, enclosure_same}
use Rattle.fx_model.specs.Enclosure.{enclosure_ordered, from-le, up_to-le}
use Rattle.grid_words.specs.Signs.{times_up, zero_one, abs_down}
use Rattle.grid_words.proofs.AbsoluteValues.{abs-square, abs-not_negative}
use Rattle.interval.specs.Exact.{IsExact}
use Rattle.interval.specs.Squares.{LowSquare, HighSquare}
use Rattle.interval.proofs.Inequalities.{bound_by}

pub sizes_up : (r : Range) → BoundLe (At zero_ℚ) r.low → IsExact (Sizes r) r
sizes_up r p z = (
  λ l. (z, l, sym (abs-from z (from-le (At zero_ℚ) r.low z p l.0))),
  λ s. subst (λ y. Lies r y) (sym (s.2 ∙ abs-from s.0 (from-le (At zero_ℚ) r.low s.0 p s.1.0))) s.1,
)

pub sizes_down : (r t : Range) → BoundLe r.high (At zero_ℚ)
    → IsExact (Negations r) t → IsExact (Sizes r) t
sizes_down r t p e z = (
  λ l. let n = (e z).0 l in
      (n.0, n.1, n.2 ∙ sym (abs_down n.0 (up_to-le r.high (At zero_ℚ) n.0 p n.1.1))),
  λ s. (e z).1 (s.0, s.1, s.2 ∙ abs_down s.0 (up_to-le r.high (At zero_ℚ) s.0 p s.1.1)),
)

-- where 0 lies inside, the sizes go from 0 to the greater end
module _ (r t : Range) (p : BoundLe r.low (At zero_ℚ)) (q : BoundLe (At zero_ℚ) r.high)
    (low : t.low ≡ At zero_ℚ) (u : BoundLe (neg_bound r.low) t.high) (v : BoundLe r.high t.high)
    (one : (t.high ≡ neg_bound r.low) ⊎ (t.high ≡ r.high)) where
  size_of : (z : Fraction) → Lies t z → Sizes r z
  size_of z l = let f : zero_ℚ ≤ℚ z = subst (λ b. IsFrom b z) low l.0 in
      ⊎_elim (λ e. (
        neg_ℚ z,
        (
          subst (λ b. IsFrom b (neg_ℚ z)) (neg_bound-neg r.low)
              (from_neg (neg_bound r.low) z (subst (λ b. IsUpTo b z) e l.1)),
          up_to-le (At zero_ℚ) r.high (neg_ℚ z) q (neg_down z f),
        ),
        sym (abs_down (neg_ℚ z) (neg_down z f) ∙ neg-neg z),
      ))
      (λ e.
      (z, (from-le r.low (At zero_ℚ) z p f, subst (λ b. IsUpTo b z) e l.1), sym (abs-from z f))) one

  lies_size : (x : Fraction) → Lies r x → Lies t (abs_ℚ x)
  lies_size x l = ⊎_elim (λ h. subst (λ y. Lies t y) (sym (abs-from x h))
      (subst (λ b. IsFrom b x) (sym low) h, up_to-le r.high t.high x v l.1))
      (λ h. subst (λ y. Lies t y) (sym (abs_down x (lt_le x zero_ℚ h))) (
        subst (λ b. IsFrom b (neg_ℚ x)) (sym low) (neg_up x (lt_le x zero_ℚ h)),
        up_to-le (neg_bound r.low) t.high (neg_ℚ x) u (up_to_neg r.low x l.0),
      )) (le_or_lt zero_ℚ x)

  pub sizes_mixed : IsExact (Sizes r) t
  sizes_mixed z = (size_of z, λ s. subst (λ y. Lies t y) (sym s.2) (lies_size s.0 s.1))

-- the same from the tests of the two ends, where the other end of the sizes is n
pub sizes_between : (r t : Range) (n : Bound) (a b : Bool) → (BoundLe (At zero_ℚ) r.low → IsTrue a)
    → a ≡ false → (BoundLe r.high (At zero_ℚ) → IsTrue b) → b ≡ false
    → t.low ≡ At zero_ℚ → n ≡ neg_bound r.low → BoundLe n t.high → BoundLe r.high t.high
    → (t.high ≡ n) ⊎ (t.high ≡ r.high) → IsExact (Sizes r) t
sizes_between r t n a b f p g q low e u v one =
    sizes_mixed r t (bound_by (At zero_ℚ) r.low a f p) (bound_by r.high (At zero_ℚ) b g q) low
    (subst (λ m. BoundLe m t.high) e u) v (subst (λ m. (t.high ≡ m) ⊎ (t.high ≡ r.high)) e one)

pub sizes_ordered : (r t : Range) → IsOrdered r.low r.high → IsExact (Sizes r) t
    → IsOrdered t.low t.high
sizes_ordered r t o e = let m = member_of r.low r.high o in
    let l = (e (abs_ℚ m.0)).1 (m.0, (m.1, m.2), refl) in ordered_by t.low t.high (abs_ℚ m.0) l.0 l.1

-- ---- squares
neg_square : (x : Fraction) → neg_ℚ x *ℚ neg_ℚ x ≡ x *ℚ x
neg_square x = neg-mul x (neg_ℚ x) ∙ ap neg_ℚ (mul-neg x x) ∙ neg-neg (x *ℚ x)

square_le : (x y : Fraction) → zero_ℚ ≤ℚ x → x ≤ℚ y → (x *ℚ x) ≤ℚ (y *ℚ y)
square_le x y h k = le_trans (x *ℚ x) (x *ℚ y) (y *ℚ y) (mul-le x x y h k)
    (times_up x y y k (le_trans zero_ℚ x y h k))

-- a number that is above h and at least 1
beyond : (h : Fraction) → (c : Fraction) × (h <ℚ c) × (one_ℚ ≤ℚ c)
beyond h = ⊎_elim (λ l. (
  h +ℚ one_ℚ,
  plus_one h,
  subst (λ y. y ≤ℚ (h +ℚ one_ℚ)) (zero-add one_ℚ)
      (add-le-add zero_ℚ one_ℚ h one_ℚ l (le_refl one_ℚ)),
))
    (λ l. (one_ℚ, lt_le_trans h zero_ℚ one_ℚ l (lt_le zero_ℚ one_ℚ zero_one), le_refl one_ℚ))
    (le_or_lt zero_ℚ h)

self_square : (x : Fraction) → one_ℚ ≤ℚ x → x ≤ℚ (x *ℚ x)
self_square x h = subst (λ y. y ≤ℚ (x *ℚ x)) (one-mul x)
    (times_up one_ℚ x x h (le_trans zero_ℚ one_ℚ x (lt_le zero_ℚ one_ℚ zero_one) h))

-- s is an interval of numbers that aren't negative
module _ (s : Range) (o : IsOrdered s.low s.high)
    (up : (y : Fraction) → Lies s y → zero_ℚ ≤ℚ y) where
  low_square : (a b : Bound) → a ≡ s.low → LowSquare a b → IsInfimum (Squares s) b
  low_square Below b p d = let m = member_of s.low s.high o in
      let n = deep s m.0 (zero_ℚ -ℚ one_ℚ) (sym p) (m.1, m.2) in
      absurd (lt_not (zero_ℚ -ℚ one_ℚ) zero_ℚ (minus_one zero_ℚ)
      (le_trans zero_ℚ n.0 (zero_ℚ -ℚ one_ℚ) (up n.0 n.1) n.2))
  low_square (At g) b p d =
      infimum_at (Squares s) (g *ℚ g) b (g, at_low, refl) (λ z t. subst (λ y. (g *ℚ g) ≤ℚ y)
      (sym t.2) (square_le g t.0 (up g at_low) (subst (λ e. IsFrom e t.0) (sym p) t.1.0))) d
    where
      at_low : Lies s g
      at_low = low_lies s g o (sym p)
  low_square Above b p d = absurd (subst (λ e. IsOrdered e s.high) (sym p) o)

  high_square : (a b : Bound) → a ≡ s.high → HighSquare a b → IsSupremum (Squares s) b
  high_square Below b p d = let m = member_of s.low s.high o in
      absurd (subst (λ e. IsUpTo e m.0) (sym p) m.2)
  high_square (At g) b p d =
      supremum_at (Squares s) (g *ℚ g) b (g, at_high, refl) (λ z t. subst (λ y. y ≤ℚ (g *ℚ g))
      (sym t.2) (square_le t.0 g (up t.0 t.1) (subst (λ e. IsUpTo e t.0) (sym p) t.1.1))) d
    where
      at_high : Lies s g
      at_high = high_lies s g o (sym p)
  high_square Above b p d =
      subst (λ e. IsSupremum (Squares s) e) (sym d) (λ h q k. let m = member_of s.low s.high o in
      let c = beyond h in let n = far s m.0 c.0 (sym p) (m.1, m.2) in
      lt_not h c.0 c.1 (le_trans c.0 n.0 h n.2 (le_trans n.0 (n.0 *ℚ n.0) h
      (self_square n.0 (le_trans one_ℚ c.0 n.0 c.2 n.2)) (k (n.0 *ℚ n.0) (n.0, n.1, refl)))))

  squares_are : (t : Range) → LowSquare s.low t.low → HighSquare s.high t.high
      → IsEnclosure (Squares s) t
  squares_are t l h =
      record { low = low_square s.low t.low refl l; high = high_square s.high t.high refl h }

-- the squares of the numbers are those of their sizes
module _ (r s t : Range) (o : IsOrdered s.low s.high) (e : IsExact (Sizes r) s) where
  pub square_is : LowSquare s.low t.low → HighSquare s.high t.high → IsSquare r t
  square_is l h = enclosure_same (Squares s) (Squares r) t
      (λ z q. let n = (e q.0).0 q.1 in (n.0, n.1, q.2 ∙ ap (λ y. y *ℚ y) n.2 ∙ abs-square n.0))
      (λ z q. (abs_ℚ q.0, (e (abs_ℚ q.0)).1 (q.0, q.1, refl), q.2 ∙ sym (abs-square q.0)))
      (squares_are s o (λ y m. let n = (e y).0 m in
      subst (λ y. zero_ℚ ≤ℚ y) (sym n.2) (abs-not_negative n.0)) t l h)

  pub square_ordered : IsSquare r t → IsOrdered t.low t.high
  square_ordered q = let m = member_of s.low s.high o in let n = (e m.0).0 (m.1, m.2) in
      enclosure_ordered (Squares r) t (n.0 *ℚ n.0) (n.0, n.1, refl) q
