-- A grid number rounds to a grid number.
use lib.IntN.{neg_ℤ}
use Rattle.std.specs.Prelude.{◌≡◌, ℕ, ℤ, pos, negsuc, ◌+ℤ◌, ◌*ℤ◌, ◌≤ℤ◌, ◌<ℤ◌, ◌^◌, ◌+◌, ◌*◌, ◌≤◌}
use Rattle.std.specs.Prelude.{refl}
use Rattle.std.proofs.Common.{arith, sym, subst}
use Rattle.std.proofs.lemmas.Int.{ints, by_lt_z}
use Rattle.std.proofs.lemmas.Nat.{pow_pos, pow-add}
use Rattle.fx_model.specs.Fraction.{Fraction, ◌≤ℚ◌}
use Rattle.fx_model.specs.Powers.{scaled, scaled-le, scaled-le_out, scaled-shift}
use Rattle.fx_model.specs.Grid.{IsOnGrid}
use Rattle.fx_model.specs.Cut.{gap_le}
use Rattle.fx_model.specs.declared.Direction.{Direction}
use Rattle.fx_model.specs.Rounded.{whole_for, rounded}
use Rattle.rounding.specs.Rounded.{units, rounded-scaled}
use Rattle.rounding.proofs.Rounded.{rounded-le, rounded-finer}

-- half of the mantissas
abbrev bound : ℤ
bound = pos 576460752303423488

pub bounded : (d : Direction) (l : ℤ) (x : Fraction)
    → x ≤ℚ scaled bound l → scaled (neg_ℤ bound) l ≤ℚ x
    → (whole_for d (units l x) ≤ℤ bound) × (neg_ℤ bound ≤ℤ whole_for d (units l x))
unfolding rounded
bounded d l x h k = (
  scaled-le_out (whole_for d (units l x)) bound l (subst (λ a. rounded d l x ≤ℚ a)
      (rounded-scaled d l bound) (rounded-le d l x (scaled bound l) h)),
  scaled-le_out (neg_ℤ bound) (whole_for d (units l x)) l (subst (λ a. a ≤ℚ rounded d l x)
      (rounded-scaled d l (neg_ℤ bound)) (rounded-le d l (scaled (neg_ℤ bound) l) x k)),
)

-- below the unit a mantissa has at most half the size
module _ (m e : ℤ) (k : ℕ) where
  shifted : (n : ℤ) → scaled n (e +ℤ pos (k + 1)) ≡ scaled (n *ℤ pos (2 ^ (k + 1))) e
  shifted n = scaled-shift n e (k + 1)

  enough : 2 ≤ 2 ^ (k + 1)
  enough = let p : 2 ^ (k + 1) ≡ 2 ^ k * 2 = pow-add 2 k 1 in let q = pow_pos k in omega arith

  below : m <ℤ pos 1152921504606846976 → scaled m e ≤ℚ scaled bound (e +ℤ pos (k + 1))
  below h = subst (λ a. scaled m e ≤ℚ a) (sym (shifted bound))
      (scaled-le m (bound *ℤ pos (2 ^ (k + 1))) e (let p = enough in omega (arith, ints)))

  above : negsuc 1152921504606846975 <ℤ m → scaled (neg_ℤ bound) (e +ℤ pos (k + 1)) ≤ℚ scaled m e
  above h = subst (λ a. a ≤ℚ scaled m e) (sym (shifted (neg_ℤ bound)))
      (scaled-le (neg_ℤ bound *ℤ pos (2 ^ (k + 1))) m e (let p = enough in omega (arith, ints)))

module _ (d : Direction) (l : ℤ) (x : Fraction) (lowest : negsuc 511 ≤ℤ l)
    (highest : l ≤ℤ pos 512) (g : IsOnGrid x) where
  at_least_one : (e : ℤ) → e <ℤ l → (k : ℕ) × (l ≡ e +ℤ pos (k + 1))
  at_least_one e h = let p = gap_le (e +ℤ pos 1) l (omega (arith, ints)) in
      (p.0, (let q = p.1 in omega (arith, ints)))

  coarser : g.exponent <ℤ l → IsOnGrid (rounded d l x)
  unfolding rounded
  coarser h = let k = at_least_one g.exponent h in
      let b = bounded d l x
      (subst (λ a. a ≤ℚ scaled bound l) (sym g.is) (subst (λ l. scaled g.mantissa g.exponent
      ≤ℚ scaled bound l) (sym k.1) (below g.mantissa g.exponent k.0 g.below)))
      (subst (λ a. scaled (neg_ℤ bound) l ≤ℚ a) (sym g.is) (subst (λ l. scaled (neg_ℤ bound) l
      ≤ℚ scaled g.mantissa g.exponent) (sym k.1) (above g.mantissa g.exponent k.0 g.above))) in
      record {
        mantissa = whole_for d (units l x);
        exponent = l;
        above = let c = b.1 in omega (arith, ints);
        below = let c = b.0 in omega (arith, ints);
        lowest = lowest;
        highest = highest;
        is = refl;
      }

  pub rounded_on_grid : IsOnGrid (rounded d l x)
  rounded_on_grid = by_lt_z g.exponent l coarser
      (λ h. subst IsOnGrid (sym (rounded-finer d g.exponent l x h (g.mantissa, g.is))) g)
