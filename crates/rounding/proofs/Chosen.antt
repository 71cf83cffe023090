-- Laws of what specs/Chosen defines.
use lib.IntN.{neg_ℤ}
use Rattle.std.specs.Prelude.{◌≡◌, ℤ, pos, ◌≤ℤ◌, Bool, true, false, refl, not, ◌<ℤ◌, ℕ, ◌+ℤ◌}
use Rattle.std.specs.Int.RustNames.{int_lt}
use Rattle.std.proofs.Common.{arith, sym, ap, ◌∙◌, subst}
use Rattle.std.proofs.lemmas.Int.{ints}
use Rattle.fx_model.specs.Fraction.{Fraction, ◌<ℚ◌, le_lt_trans}
use Rattle.fx_model.specs.Rounded.{floor, ceiling, near_low, near_high, is_positive_or_zero}
use Rattle.fx_model.specs.Rounded.{whole_for, rounded}
use Rattle.fx_model.specs.declared.Direction.{Direction}
use Rattle.fx_model.specs.declared.Direction.TheVariants.{Zr, Aw, Dn, Up, Od, Ne, No, Nz, Na, Nd}
use Rattle.fx_model.specs.declared.Direction.TheVariants.{Nu}
use Rattle.fx_model.specs.Powers.{whole, zero-whole, floor_low, scaled}
use Rattle.rounding.specs.declared.neighbours.Neighbours.{Neighbours}
use Rattle.rounding.proofs.Floor.{floor_from_zero, whole-lt_out}
use Rattle.rounding.specs.Rounded.{units, rounded-is}
use Rattle.rounding.proofs.Rounded.{units-exact}
use Rattle.rounding.specs.Chosen.{AreNeighbours, is_from_zero, chosen}

-- ---- it is the direction's whole number
from_zero_is : (s : Fraction) (b : Bool) → is_positive_or_zero s ≡ b
    → not (int_lt (floor s) (pos 0)) ≡ b
from_zero_is s true h =
    let l : pos 0 ≤ℤ floor s = floor_from_zero s (record { le = h }) in grind (arith, ints)
from_zero_is s false h = let l : floor s <ℤ pos 0 = below_zero in grind (arith, ints)
  where
    below_zero : floor s <ℤ pos 0
    below_zero = whole-lt_out (floor s) (pos 0) (le_lt_trans (whole (floor s)) s (whole (pos 0))
        (floor_low s) (subst (λ a. s <ℚ a) zero-whole (record { lt = h })))

pub chosen_is : (d : Direction) (n : Neighbours) (s : Fraction) → AreNeighbours n s
    → chosen d n ≡ whole_for d s
unfolding whole_for
chosen_is d n s a = by d (ap (λ z. not (int_lt z (pos 0))) a.floor_is ∙ from_zero_is s
    (is_positive_or_zero s) refl) a.floor_is a.ceiling_is a.near_low_is a.near_high_is
  where
    by : (d : Direction) → is_from_zero n ≡ is_positive_or_zero s → n.floor ≡ floor s
        → n.ceiling ≡ ceiling s → n.near_low ≡ near_low s → n.near_high ≡ near_high s
        → chosen d n ≡ whole_for d s
    by Dn z f c l h = f
    by Up z f c l h = c
    by Zr z f c l h = cc
    by Aw z f c l h = cc
    by Od z f c l h = cc
    by Nd z f c l h = l
    by Nu z f c l h = h
    by Ne z f c l h = cc
    by No z f c l h = cc
    by Nz z f c l h = cc
    by Na z f c l h = cc

-- A number rounded by its neighbours.
pub rounded_by : (d : Direction) (l m e : ℤ) (p : ℕ) (n : Neighbours) (m' w l' : ℤ) → m' ≡ m
    → l ≡ e +ℤ pos p → AreNeighbours n (scaled m' (neg_ℤ (pos p))) → w ≡ chosen d n → l' ≡ l
    → scaled w l' ≡ rounded d l (scaled m e)
rounded_by d l m e p n m' w l' h k a c j = ap (scaled w) j
    ∙ ap (λ w. scaled w l) (c ∙ chosen_is d n (scaled m' (neg_ℤ (pos p))) a ∙ ap (whole_for d) same)
    ∙ sym (rounded-is d l (scaled m e))
  where
    same : scaled m' (neg_ℤ (pos p)) ≡ units l (scaled m e)
    same = let i : e +ℤ neg_ℤ l ≡ neg_ℤ (pos p) = omega (arith, ints) in
        ap (λ m. scaled m (neg_ℤ (pos p))) h ∙ ap (scaled m) (sym i) ∙ sym (units-exact l m e)
