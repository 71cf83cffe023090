-- The error of rounding a multiple of a power of two is such a multiple, and so it stays that far
-- below a unit.
use lib.IntN.{neg_ℤ}
use Rattle.std.specs.Prelude.{◌≡◌, ℕ, ℤ, pos, ◌+ℤ◌, ◌*ℤ◌, ◌≤ℤ◌, ◌<ℤ◌, ◌^◌, true, false}
use Rattle.std.specs.Int.RustNames.{int_lt}
use Rattle.std.proofs.Common.{arith, sym, ap, ◌∙◌, subst}
use Rattle.std.proofs.lemmas.Int.{ints}
use Rattle.std.proofs.lemmas.Nat.{pow_pos}
use Rattle.fx_model.specs.Fraction.{Fraction, ◌+ℚ◌, ◌-ℚ◌, ◌*ℚ◌, ◌≤ℚ◌, ◌<ℚ◌, neg_ℚ, neg-mul, neg-neg}
use Rattle.fx_model.proofs.Fraction.{neg-lt, add-mul}
use Rattle.fx_model.specs.Powers.{whole, two_to, scaled, IsMultiple, whole-add, whole-neg}
use Rattle.fx_model.specs.Powers.{scaled-le, scaled-lt_out, scaled-shift}
use Rattle.fx_model.specs.Cut.{gap_le}
use Rattle.fx_model.specs.declared.Direction.{Direction}
use Rattle.fx_model.specs.Rounded.{rounded}
use Rattle.fx_model.proofs.Grid.{multiple-neg}
use Rattle.rounding.proofs.Sums.{neg-le_left}
use Rattle.rounding.specs.Rounded.{whole_one-mul, rounded_multiple}
use Rattle.rounding.proofs.Rounded.{multiple_of_less}
use Rattle.rounding.proofs.Scale.{error_of, error_below, error_above}

-- ---- by place
pub scaled-sub : (a b k : ℤ) → scaled a k -ℚ scaled b k ≡ scaled (a +ℤ neg_ℤ b) k
scaled-sub a b k = ap (λ z. scaled a k +ℚ z) (sym (neg-mul (whole b) (two_to k))
    ∙ ap (λ z. z *ℚ two_to k) (sym (whole-neg b)))
    ∙ sym (add-mul (whole a) (whole (neg_ℤ b)) (two_to k))
    ∙ ap (λ z. z *ℚ two_to k) (sym (whole-add a (neg_ℤ b)))

pub one_scaled : (k : ℤ) → scaled (pos 1) k ≡ two_to k
one_scaled k = whole_one-mul (two_to k)

-- below a multiple the next is a whole 2^k away
step : (k : ℤ) (e u : Fraction) → IsMultiple k e → IsMultiple k u → e <ℚ u → e ≤ℚ (u -ℚ two_to k)
step k e u p q h =
    let l : p.0 <ℤ q.0 =
    scaled-lt_out p.0 q.0 k (subst (λ z. z <ℚ scaled q.0 k) p.1 (subst (λ z. e <ℚ z) q.1 h)) in
    subst (λ z. z ≤ℚ (u -ℚ two_to k))
    (sym p.1) (subst (λ z. scaled p.0 k ≤ℚ z) (sym (ap (λ z. z -ℚ two_to k) q.1
    ∙ ap (λ z. scaled q.0 k -ℚ z) (sym (one_scaled k)) ∙ scaled-sub q.0 (pos 1) k))
    (scaled-le p.0 (q.0 +ℤ neg_ℤ (pos 1)) k (omega (arith, ints))))

unit_multiple : (k l : ℤ) → k ≤ℤ l → IsMultiple k (two_to l)
unit_multiple k l h = multiple_of_less l k (two_to l) h (pos 1, sym (one_scaled l))

-- The error of a multiple is a multiple.
pub error_multiple : (d : Direction) (k l : ℤ) (x : Fraction) → k ≤ℤ l → IsMultiple k x
    → IsMultiple k (error_of d l x)
error_multiple d k l x h p =
    let q = multiple_of_less l k (rounded d l x) h (rounded_multiple d l x) in (
      q.0 +ℤ neg_ℤ p.0,
      ap (λ z. z -ℚ x) q.1 ∙ ap (λ z. scaled q.0 k -ℚ z) p.1 ∙ scaled-sub q.0 p.0 k,
    )

pub place_at_most : (d : Direction) (k l : ℤ) (x : Fraction) → k ≤ℤ l → IsMultiple k x
    → error_of d l x ≤ℚ (two_to l -ℚ two_to k)
place_at_most d k l x h p = step k (error_of d l x) (two_to l) (error_multiple d k l x h p)
    (unit_multiple k l h) (error_below d l x)

pub place_at_least : (d : Direction) (k l : ℤ) (x : Fraction) → k ≤ℤ l → IsMultiple k x
    → neg_ℚ (two_to l -ℚ two_to k) ≤ℚ error_of d l x
place_at_least d k l x h p = neg-le_left (error_of d l x) (two_to l -ℚ two_to k)
    (step k (neg_ℚ (error_of d l x)) (two_to l)
    (multiple-neg k (error_of d l x) (error_multiple d k l x h p)) (unit_multiple k l h)
    (subst (λ z. neg_ℚ (error_of d l x) <ℚ z) (neg-neg (two_to l))
    (neg-lt (neg_ℚ (two_to l)) (error_of d l x) (error_above d l x))))

-- Powers of two are in the order of their places.
pub two_to-le : (k l : ℤ) → k ≤ℤ l → two_to k ≤ℚ two_to l
two_to-le k l h = let g = gap_le k l h in
    subst (λ z. z ≤ℚ two_to l) (one_scaled k) (subst (λ z. scaled (pos 1) k ≤ℚ z)
    (sym (scaled-shift (pos 1) k g.0) ∙ ap (scaled (pos 1)) (sym g.1) ∙ one_scaled l)
    (scaled-le (pos 1) (pos 1 *ℤ pos (2 ^ g.0)) k (one_up g.0)))
  where
    one_up : (j : ℕ) → pos 1 ≤ℤ (pos 1 *ℤ pos (2 ^ j))
    one_up j = let p = pow_pos j in omega (arith, ints)

-- ---- which of two places is the lower
pub less : (k l : ℤ) → int_lt k l ≡ true → k ≤ℤ l
less k l h = grind (arith, ints)

pub not_less : (k l : ℤ) → int_lt k l ≡ false → l ≤ℤ k
not_less k l h = grind (arith, ints)
