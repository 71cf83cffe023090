-- The error of a rounding, from what its whole number is off.
use Rattle.std.specs.Prelude.{◌≡◌, ℤ, pos, negsuc, ◌+ℤ◌, true}
use Rattle.std.proofs.Common.{arith, sym, ap, ◌∙◌, subst}
use Rattle.std.proofs.lemmas.Int.{ints}
use Rattle.fx_model.specs.Fraction.{Fraction, ◌+ℚ◌, ◌-ℚ◌, ◌*ℚ◌, ◌≤ℚ◌, ◌<ℚ◌, neg_ℚ, zero_ℚ, zero-mul}
use Rattle.fx_model.specs.Fraction.{neg_zero, times-le, times-lt}
use Rattle.fx_model.proofs.Fraction.{add-zero, add-mul}
use Rattle.fx_model.specs.Powers.{whole, two_to, two_to-add, two_to-positive}
use Rattle.fx_model.specs.Rounded.{half, whole_for, rounded}
use Rattle.fx_model.specs.declared.Direction.{Direction}
use Rattle.rounding.proofs.Sums.{sub-at_most, sub-at_least, sub-below, sub-above}
use Rattle.rounding.proofs.Beside.{whole_for_beside, whole_for_near, is_nearest}
use Rattle.rounding.specs.Rounded.{units, units-times, whole_one-mul}
use Rattle.rounding.specs.Errors.{half_of}

-- The error of a rounding.
abbrev pub error_of : Direction → ℤ → Fraction → Fraction
error_of d l x = rounded d l x -ℚ x

-- ---- from units to the size of the number
half-times : (l : ℤ) → half *ℚ two_to l ≡ half_of l
half-times l = let e : negsuc 0 +ℤ l ≡ l +ℤ negsuc 0 = omega (arith, ints) in
    sym (two_to-add (negsuc 0) l) ∙ ap two_to e

module _ (d : Direction) (l : ℤ) (x : Fraction) where
  at_most : (c : Fraction) → whole (whole_for d (units l x)) ≤ℚ (units l x +ℚ c)
      → error_of d l x ≤ℚ (c *ℚ two_to l)
  unfolding rounded
  at_most c h = sub-at_most (rounded d l x) x (c *ℚ two_to l) (subst (λ z. rounded d l x ≤ℚ z)
      (add-mul (units l x) c (two_to l) ∙ ap (λ z. z +ℚ (c *ℚ two_to l)) (units-times l x))
      (times-le (two_to l) (whole (whole_for d (units l x)))
      (units l x +ℚ c) (two_to-positive l) h))

  below : (c : Fraction) → whole (whole_for d (units l x)) <ℚ (units l x +ℚ c)
      → error_of d l x <ℚ (c *ℚ two_to l)
  unfolding rounded
  below c h = sub-below (rounded d l x) x (c *ℚ two_to l) (subst (λ z. rounded d l x <ℚ z)
      (add-mul (units l x) c (two_to l) ∙ ap (λ z. z +ℚ (c *ℚ two_to l)) (units-times l x))
      (times-lt (two_to l) (whole (whole_for d (units l x)))
      (units l x +ℚ c) (two_to-positive l) h))

  at_least : (c : Fraction) → units l x ≤ℚ (whole (whole_for d (units l x)) +ℚ c)
      → neg_ℚ (c *ℚ two_to l) ≤ℚ error_of d l x
  unfolding rounded
  at_least c h = sub-at_least (rounded d l x) x (c *ℚ two_to l)
      (subst (λ z. z ≤ℚ (rounded d l x +ℚ (c *ℚ two_to l))) (units-times l x)
      (subst (λ z. (units l x *ℚ two_to l) ≤ℚ z)
      (add-mul (whole (whole_for d (units l x))) c (two_to l)) (times-le (two_to l) (units l x)
      (whole (whole_for d (units l x)) +ℚ c) (two_to-positive l) h)))

  above : (c : Fraction) → units l x <ℚ (whole (whole_for d (units l x)) +ℚ c)
      → neg_ℚ (c *ℚ two_to l) <ℚ error_of d l x
  unfolding rounded
  above c h = sub-above (rounded d l x) x (c *ℚ two_to l)
      (subst (λ z. z <ℚ (rounded d l x +ℚ (c *ℚ two_to l))) (units-times l x)
      (subst (λ z. (units l x *ℚ two_to l) <ℚ z)
      (add-mul (whole (whole_for d (units l x))) c (two_to l)) (times-lt (two_to l) (units l x)
      (whole (whole_for d (units l x)) +ℚ c) (two_to-positive l) h)))

  -- the error is less than a unit
  pub error_below : error_of d l x <ℚ two_to l
  error_below = subst (λ z. error_of d l x <ℚ z) (whole_one-mul (two_to l))
      (below (whole (pos 1)) (whole_for_beside d (units l x)).0)

  pub error_above : neg_ℚ (two_to l) <ℚ error_of d l x
  error_above = subst (λ z. neg_ℚ z <ℚ error_of d l x) (whole_one-mul (two_to l))
      (above (whole (pos 1)) (whole_for_beside d (units l x)).1)

  -- to the nearest it is at most half of one
  pub near_at_most : is_nearest d ≡ true → error_of d l x ≤ℚ half_of l
  near_at_most n = subst (λ z. error_of d l x ≤ℚ z) (half-times l)
      (at_most half (whole_for_near d (units l x) n).0)

  pub near_at_least : is_nearest d ≡ true → neg_ℚ (half_of l) ≤ℚ error_of d l x
  near_at_least n = subst (λ z. neg_ℚ z ≤ℚ error_of d l x) (half-times l)
      (at_least half (whole_for_near d (units l x) n).1)

  -- its side
  pub left : whole (whole_for d (units l x)) ≤ℚ units l x → error_of d l x ≤ℚ zero_ℚ
  left h = subst (λ z. error_of d l x ≤ℚ z) (zero-mul (two_to l)) (at_most zero_ℚ
      (subst (λ z. whole (whole_for d (units l x)) ≤ℚ z) (sym (add-zero (units l x))) h))

  pub right : units l x ≤ℚ whole (whole_for d (units l x)) → zero_ℚ ≤ℚ error_of d l x
  right h = subst (λ z. z ≤ℚ error_of d l x) (ap neg_ℚ (zero-mul (two_to l)) ∙ neg_zero) (at_least
      zero_ℚ (subst (λ z. units l x ≤ℚ z) (sym (add-zero (whole (whole_for d (units l x))))) h))
