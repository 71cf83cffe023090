-- The least grid numbers at or above half a unit and the largest error, and the enclosures of
-- errors that they give.
use lib.IntN.{neg_ℤ}
use Rattle.std.specs.Prelude.{◌≡◌, ◌⊎◌, ℕ, ℤ, pos, negsuc, ◌+ℤ◌, ◌*ℤ◌, ◌≤ℤ◌, ◌<ℤ◌, ◌≤◌, ◌^◌, ◌+◌}
use Rattle.std.specs.Prelude.{◌-◌, ◌*◌, refl}
use Rattle.std.proofs.Common.{arith, sym, ap, ◌∙◌, subst, inl, inr, ⊎_elim, lit≤}
use Rattle.std.proofs.lemmas.Int.{ints, by_lt_z}
use Rattle.std.proofs.lemmas.Nat.{pow_pos, pow-add}
use Rattle.std.proofs.Math.Nat.{pow-le-pow_right}
use Rattle.fx_model.specs.Fraction.{Fraction, ◌+ℚ◌, ◌-ℚ◌, ◌<ℚ◌, neg_ℚ, zero_ℚ, neg_zero, add-lt}
use Rattle.fx_model.proofs.Fraction.{add-zero, neg-lt}
use Rattle.fx_model.specs.Powers.{two_to, scaled, scaled-lt, scaled-shift, scaled-zero}
use Rattle.fx_model.specs.Powers.{two_to-positive}
use Rattle.fx_model.specs.Grid.{At, IsOnGrid, IsUp}
use Rattle.fx_model.specs.Cut.{gap_le, on_grid, up_is}
use Rattle.rounding.proofs.Places.{one_scaled, scaled-sub}
use Rattle.rounding.specs.Errors.{half_of}
use Rattle.rounding.proofs.Outward.{up_grid}

-- ---- powers of two on the grid
pub power_on_grid : (l : ℤ) → negsuc 511 ≤ℤ l → l ≤ℤ pos 512 → IsOnGrid (two_to l)
power_on_grid l h k = subst IsOnGrid (one_scaled l) (on_grid 1 l (omega arith) h k)

pub zero_on_grid : IsOnGrid zero_ℚ
zero_on_grid = subst IsOnGrid (scaled-zero (pos 0))
    (on_grid 0 (pos 0) (omega arith) (omega (arith, ints)) (omega (arith, ints)))

two_to-lt : (k l : ℤ) → k <ℤ l → two_to k <ℚ two_to l
two_to-lt k l h = let g = gap_le (k +ℤ pos 1) l (omega (arith, ints)) in
    subst (λ z. z <ℚ two_to l)
    (one_scaled k) (subst (λ z. scaled (pos 1) k <ℚ z) (sym (scaled-shift (pos 1) k (g.0 + 1))
    ∙ ap (scaled (pos 1)) (let e = g.1 in omega (arith, ints)) ∙ one_scaled l)
    (scaled-lt (pos 1) (pos 1 *ℤ pos (2 ^ (g.0 + 1))) k (more g.0)))
  where
    more : (j : ℕ) → pos 1 <ℤ (pos 1 *ℤ pos (2 ^ (j + 1)))
    more j = let p : 2 ^ (j + 1) ≡ 2 ^ j * 2 = pow-add 2 j 1 in
        let q = pow_pos j in omega (arith, ints)

-- ---- half a unit
pub half_is : (l m : ℤ) → negsuc 511 ≤ℤ m → l ≤ℤ pos 512 → m ≡ l +ℤ negsuc 0
    → IsUp (half_of l) (At (two_to m))
half_is l m h k e = subst (λ n. IsUp (half_of l) (At (two_to n))) (sym e) (up_grid (half_of l)
    (power_on_grid (l +ℤ negsuc 0) (omega (arith, ints)) (omega (arith, ints))))

-- the last place of the grid has no half
pub last_half_is : (l : ℤ) → l ≡ negsuc 511 → IsUp (half_of l) (At (two_to l))
last_half_is l e = subst (λ n. IsUp (half_of l) (At n)) (one_scaled l) (up_is (half_of l) 0 l (
  subst (λ z. z <ℚ half_of l) (sym (scaled-zero l)) (two_to-positive _),
  subst (λ z. half_of l <ℚ z) (sym (one_scaled l))
      (two_to-lt (l +ℤ negsuc 0) l (omega (arith, ints))),
)
    (inr e) (subst IsOnGrid (sym (one_scaled l))
    (power_on_grid l (omega (arith, ints)) (omega (arith, ints)))))

-- ---- a unit less 2^k
sub-below : (x y z : Fraction) → y <ℚ z → (x -ℚ z) <ℚ (x -ℚ y)
sub-below x y z h = add-lt x (neg_ℚ z) (neg_ℚ y) (neg-lt y z h)

sub-less : (x y : Fraction) → zero_ℚ <ℚ y → (x -ℚ y) <ℚ x
sub-less x y h =
    subst (λ z. (x -ℚ y) <ℚ z) (ap (λ z. x -ℚ z) refl ∙ unchanged) (sub-below x zero_ℚ y h)
  where
    unchanged : x -ℚ zero_ℚ ≡ x
    unchanged = ap (λ z. x +ℚ z) neg_zero ∙ add-zero x

module _ (l k e : ℤ) (j : ℕ) (at : l ≡ e +ℤ pos j) (below : k <ℤ e) (lowest : negsuc 511 ≤ℤ e)
    (highest : l ≤ℤ pos 512) (full : (60 ≤ j) ⊎ (e ≡ negsuc 511)) where
  q : ℕ
  q = 2 ^ j - 1

  next : q + 1 ≡ 2 ^ j
  unfolding q
  next = let p = pow_pos j in omega arith

  unit : two_to l ≡ scaled (pos (q + 1)) e
  unit = sym (one_scaled l) ∙ ap (scaled (pos 1)) at ∙ scaled-shift (pos 1) e j
      ∙ ap (λ z. scaled z e) (let n = next in omega (arith, ints))

  last : two_to l -ℚ two_to e ≡ scaled (pos q) e
  last = ap (λ z. z -ℚ two_to e) unit ∙ ap (λ z. scaled (pos (q + 1)) e -ℚ z) (sym (one_scaled e))
      ∙ scaled-sub (pos (q + 1)) (pos 1) e ∙ ap (λ z. scaled z e) (omega (arith, ints))

  enough : 60 ≤ j → 1152921504606846976 ≤ q + q
  enough h = let p : 2 ^ 60 ≤ 2 ^ j = pow-le-pow_right {n = 2} (lit≤ tt) {i = 60} {j = j} h in
      let n = next in omega arith

  far_is : IsUp (two_to l -ℚ two_to k) (At (two_to l))
  far_is =
      subst (λ n. IsUp (two_to l -ℚ two_to k) (At n)) (sym unit) (up_is (two_to l -ℚ two_to k) q e (
        subst (λ z. z <ℚ (two_to l -ℚ two_to k)) last
            (sub-below (two_to l) (two_to k) (two_to e) (two_to-lt k e below)),
        subst (λ z. (two_to l -ℚ two_to k) <ℚ z) unit
            (sub-less (two_to l) (two_to k) (two_to-positive k)),
      )
      (⊎_elim (λ h. inl (enough h)) (λ h. inr h) full)
      (subst IsOnGrid unit (power_on_grid l (omega (arith, ints)) highest)))

pub far_gap : (l k : ℤ) → negsuc 511 ≤ℤ l → l ≤ℤ pos 512 → k <ℤ l
    → (k <ℤ negsuc 511) ⊎ ((k +ℤ pos 60) <ℤ l) → IsUp (two_to l -ℚ two_to k) (At (two_to l))
far_gap l k h i b far = by_lt_z l (negsuc 451)
    (λ n. let g = gap_le (negsuc 511) l h in far_is l k (negsuc 511) g.0 g.1
    (⊎_elim (λ f. f) (λ f. omega (arith, ints)) far) (omega (arith, ints)) i (inr refl))
    (λ n. far_is l k (l +ℤ negsuc 59) 60 (omega (arith, ints)) (⊎_elim (λ f. omega (arith, ints))
    (λ f. omega (arith, ints)) far) (omega (arith, ints)) i (inl (lit≤ tt)))

pub near_gap : (l k m : ℤ) (j : ℕ) → l ≡ k +ℤ pos j → m +ℤ pos 1 ≡ pos (2 ^ j)
    → scaled m k ≡ two_to l -ℚ two_to k
near_gap l k m j h i = let e : m ≡ (pos 1 *ℤ pos (2 ^ j)) +ℤ neg_ℤ (pos 1) = omega (arith, ints) in
    ap (λ m. scaled m k) e ∙ sym (scaled-sub (pos 1 *ℤ pos (2 ^ j)) (pos 1) k)
    ∙ ap (λ z. z -ℚ scaled (pos 1) k) (sym (scaled-shift (pos 1) k j) ∙ ap (scaled (pos 1)) (sym h)
    ∙ one_scaled l) ∙ ap (λ z. two_to l -ℚ z) (one_scaled k)
