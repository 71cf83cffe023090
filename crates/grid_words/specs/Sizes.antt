-- The best interval of the sizes.
use Rattle.std.specs.Prelude.{◌≡◌, ◌⊎◌, Bool, true, false, cond, refl}
use Rattle.std.proofs.Common.{sym, subst, ◌∙◌, ⊎_elim, inl, inr}
use Rattle.fx_model.specs.Fraction.{Fraction, zero_ℚ, neg_ℚ, abs_ℚ, abs-from, le_total, le_or_lt}
use Rattle.fx_model.specs.Fraction.{lt_le, neg-neg, neg_up, neg_down}
use Rattle.fx_model.specs.Grid.{Bound, Below, At, Above, le_bound, neg_bound}
use Rattle.fx_model.specs.Enclosure.{Range, IsUpTo, Lies, IsOrdered, Sizes, IsSize, BoundLe}
use Rattle.fx_model.specs.Enclosure.{member_of, ordered_by, enclosure_ordered, mirror, lies_mirror}
use Rattle.fx_model.specs.Enclosure.{lies_mirrored, from-le, up_to-le}
use Rattle.grid_words.specs.Outward.{outward, outward_exact}
use Rattle.grid_words.specs.Signs.{abs_down}

-- The greater of two ends; infinite ones are below or above all numbers.
abbrev pub greater_end : Bound → Bound → Bound
greater_end b c = cond (le_bound b c) c b

-- The interval of the sizes, as it is: from 0 where 0 lies inside.
abbrev pub sizes : Range → Range
sizes r = cond (le_bound (At zero_ℚ) r.low) r (cond (le_bound r.high (At zero_ℚ)) (mirror r)
    (record { low = At zero_ℚ; high = greater_end (neg_bound r.low) r.high }))

-- The best interval of the sizes.
pub size_range : Range → Range
size_range r = outward (sizes r)

-- ---- the order of ends
pub le_bound_true : (b c : Bound) → le_bound b c ≡ true → BoundLe b c
le_bound_true Below c h = tt
le_bound_true (At g) Below h = absurd (let e : false ≡ true = h in cc)
le_bound_true (At g) (At k) h = record { le = h }
le_bound_true (At g) Above h = tt
le_bound_true Above Below h = absurd (let e : false ≡ true = h in cc)
le_bound_true Above (At k) h = absurd (let e : false ≡ true = h in cc)
le_bound_true Above Above h = tt

pub le_bound_false : (b c : Bound) → le_bound b c ≡ false → BoundLe c b
le_bound_false Below c h = absurd (let e : true ≡ false = h in cc)
le_bound_false (At g) Below h = tt
le_bound_false (At g) (At k) h = le_total g k h
le_bound_false (At g) Above h = absurd (let e : true ≡ false = h in cc)
le_bound_false Above Below h = tt
le_bound_false Above (At k) h = tt
le_bound_false Above Above h = absurd (let e : true ≡ false = h in cc)

-- up to either of two ends, and up to the greater, are the same
up_to_greater : (b c : Bound) (x : Fraction) → IsUpTo b x ⊎ IsUpTo c x → IsUpTo (greater_end b c) x
up_to_greater b c x u = by (le_bound b c) refl
  where
    by : (t : Bool) → le_bound b c ≡ t → IsUpTo (cond t c b) x
    by true h = ⊎_elim (λ l. up_to-le b c x (le_bound_true b c h) l) (λ l. l) u
    by false h = ⊎_elim (λ l. l) (λ l. up_to-le c b x (le_bound_false b c h) l) u

greater_up_to : (b c : Bound) (x : Fraction) → IsUpTo (greater_end b c) x → IsUpTo b x ⊎ IsUpTo c x
greater_up_to b c x u = by (le_bound b c) u
  where
    by : (t : Bool) → IsUpTo (cond t c b) x → IsUpTo b x ⊎ IsUpTo c x
    by true u = inr u
    by false u = inl u

-- ---- in the interval lie just the sizes
abbrev AreSizes : Range → Range → Type 0
AreSizes r t = ((z : Fraction) → Lies t z → Sizes r z) × ((z : Fraction) → Sizes r z → Lies t z)

sizes_up : (r : Range) → BoundLe (At zero_ℚ) r.low → AreSizes r r
sizes_up r p = (
  λ z l. (z, l, sym (abs-from z (from-le (At zero_ℚ) r.low z p l.0))),
  λ z s. subst (λ y. Lies r y)
      (sym (s.2 ∙ abs-from s.0 (from-le (At zero_ℚ) r.low s.0 p s.1.0))) s.1,
)

sizes_down : (r : Range) → BoundLe r.high (At zero_ℚ) → AreSizes r (mirror r)
sizes_down r p = (
  λ z l. let n = lies_mirrored r z l in (
    neg_ℚ z,
    n,
    sym (abs_down (neg_ℚ z) (up_to-le r.high (At zero_ℚ) (neg_ℚ z) p n.1) ∙ neg-neg z),
  ),
  λ z s. subst (λ y. Lies (mirror r) y)
      (sym (s.2 ∙ abs_down s.0 (up_to-le r.high (At zero_ℚ) s.0 p s.1.1))) (lies_mirror r s.0 s.1),
)

module _ (r : Range) (p : BoundLe r.low (At zero_ℚ)) (q : BoundLe (At zero_ℚ) r.high) where
  abbrev wide : Range
  wide = record { low = At zero_ℚ; high = greater_end (neg_bound r.low) r.high }

  size_of : (z : Fraction) → Lies wide z → Sizes r z
  size_of z l = ⊎_elim
      (λ u. (
        neg_ℚ z,
        (
          (lies_mirrored (record { low = r.low; high = Above }) z (tt, u)).0,
          up_to-le (At zero_ℚ) r.high (neg_ℚ z) q (neg_down z l.0),
        ),
        sym (abs_down (neg_ℚ z) (neg_down z l.0) ∙ neg-neg z),
      ))
      (λ u. (z, (from-le r.low (At zero_ℚ) z p l.0, u), sym (abs-from z l.0)))
      (greater_up_to (neg_bound r.low) r.high z l.1)

  lies_size : (x : Fraction) → Lies r x → Lies wide (abs_ℚ x)
  lies_size x l = ⊎_elim (λ h. subst (λ y. Lies wide y) (sym (abs-from x h))
      (h, up_to_greater (neg_bound r.low) r.high x (inr l.1)))
      (λ h. subst (λ y. Lies wide y) (sym (abs_down x (lt_le x zero_ℚ h))) (
        neg_up x (lt_le x zero_ℚ h),
        up_to_greater (neg_bound r.low) r.high (neg_ℚ x) (inl ((lies_mirror r x l).1)),
      )) (le_or_lt zero_ℚ x)

  sizes_wide : AreSizes r wide
  sizes_wide = (size_of, λ z s. subst (λ y. Lies wide y) (sym s.2) (lies_size s.0 s.1))

sizes_are : (r : Range) → AreSizes r (sizes r)
sizes_are r = by (le_bound (At zero_ℚ) r.low) (le_bound r.high (At zero_ℚ)) refl refl
  where
    by : (a b : Bool) → le_bound (At zero_ℚ) r.low ≡ a
        → le_bound r.high (At zero_ℚ) ≡ b → AreSizes r (cond a r (cond b (mirror r)
        (record { low = At zero_ℚ; high = greater_end (neg_bound r.low) r.high })))
    by true b h k = sizes_up r (le_bound_true (At zero_ℚ) r.low h)
    by false true h k = sizes_down r (le_bound_true r.high (At zero_ℚ) k)
    by false false h k =
        sizes_wide r (le_bound_false (At zero_ℚ) r.low h) (le_bound_false r.high (At zero_ℚ) k)

module _ (r : Range) (o : IsOrdered r.low r.high) where
  pub sizes_ordered : IsOrdered (sizes r).low (sizes r).high
  sizes_ordered = let m = member_of r.low r.high o in
      let l = (sizes_are r).1 (abs_ℚ m.0) (m.0, (m.1, m.2), refl) in
      ordered_by (sizes r).low (sizes r).high (abs_ℚ m.0) l.0 l.1

  pub size_range_is : IsSize r (size_range r)
  unfolding size_range
  size_range_is = outward_exact (Sizes r) (sizes r) sizes_ordered (sizes_are r).0 (sizes_are r).1

  pub size_range_ordered : IsOrdered (size_range r).low (size_range r).high
  size_range_ordered = let m = member_of r.low r.high o in
      enclosure_ordered (Sizes r) (size_range r) (abs_ℚ m.0) (m.0, (m.1, m.2), refl) size_range_is
