-- The roundings of a fraction to the grid.
use lib.Dec.{ltb}
use Rattle.std.specs.Prelude.{◌≡◌, ℕ, ℤ, pos, negsuc, ◌≤ℤ◌, ◌<ℤ◌, ◌+◌, ◌<◌, ◌≤◌, Bool, true, false}
use Rattle.std.specs.Prelude.{cond, refl}
use Rattle.std.specs.Int.RustNames.{int_lt}
use Rattle.std.proofs.Common.{arith, subst, inl, inr}
use Rattle.std.proofs.lemmas.Bool.{ltb-true, ltb-false}
use Rattle.std.proofs.lemmas.Int.{ints}
use Rattle.fx_model.specs.Fraction.{Fraction, zero_ℚ, neg_ℚ, le_ℚ, le_total, neg-neg, neg_up}
use Rattle.fx_model.specs.Powers.{scaled}
use Rattle.fx_model.specs.Grid.{Bound, At, Above, IsDown, IsUp, neg_bound, IsDown-neg, IsUp-neg}
use Rattle.fx_model.specs.Cut.{Cuts, Full, up_is_exact, up_top, next_grid, top, down_beyond}
use Rattle.fx_model.specs.Cut.{up_beyond}
use Rattle.fx_model.specs.Cut as cut
use Rattle.grid_words.specs.Digits.{Digits, Begins, first_digits, first_begins}

-- The rounding down of a number that begins with these digits.
abbrev pub down_of : Digits → Bound
down_of c = cond (int_lt (pos 512) c.two) (At (scaled (pos top) (pos 512)))
    (At (scaled (pos c.digits) c.two))

-- The rounding up, where something is left of the number: the next digits, if the grid has them.
abbrev pub next_of : Digits → Bound
next_of c = cond (int_lt c.two (pos 512)) (At (scaled (pos (c.digits + 1)) c.two))
    (cond (ltb (c.digits + 1) 1152921504606846976) (At (scaled (pos (c.digits + 1)) c.two)) Above)

-- The rounding up of a number that begins with these digits.
abbrev pub up_of : Digits → Bound
up_of c = cond (int_lt (pos 512) c.two) Above
    (cond c.inexact (next_of c) (At (scaled (pos c.digits) c.two)))

-- The greatest grid number at or below x, or minus infinity where there is none.
pub down : Fraction → Bound
down x =
    cond (le_ℚ zero_ℚ x) (down_of (first_digits x)) (neg_bound (up_of (first_digits (neg_ℚ x))))

-- The least grid number at or above x, or plus infinity where there is none.
pub up : Fraction → Bound
up x = neg_bound (down (neg_ℚ x))

-- ---- what the tests say
past : (z : ℤ) → int_lt (pos 512) z ≡ true → pos 513 ≤ℤ z
past z h = grind (arith, ints)

within : (z : ℤ) → int_lt (pos 512) z ≡ false → z ≤ℤ pos 512
within z h = grind (arith, ints)

before : (z : ℤ) → int_lt z (pos 512) ≡ true → z <ℤ pos 512
before z h = grind (arith, ints)

last : (z : ℤ) → z ≤ℤ pos 512 → int_lt z (pos 512) ≡ false → z ≡ pos 512
last z l h = let k : pos 512 ≤ℤ z = grind (arith, ints) in omega (arith, ints)

-- ---- a number that isn't negative
module _ (x : Fraction) (q : ℕ) (e : ℤ) (full : Full q e) (few : q < 1152921504606846976)
    (lowest : negsuc 511 ≤ℤ e) where
  down_by : (i b : Bool) → Cuts x q e i → int_lt (pos 512) e ≡ b
      → IsDown x (cond b (At (scaled (pos top) (pos 512))) (At (scaled (pos q) e)))
  down_by i true c h = down_beyond x q e i c full (past e h)
  down_by i false c h = cut.down_is x q e i c full few lowest (within e h)

  next_by : (b d : Bool) → Cuts x q e true → e ≤ℤ pos 512 → int_lt e (pos 512) ≡ b
      → ltb (q + 1) 1152921504606846976 ≡ d
      → IsUp x (cond b (At (scaled (pos (q + 1)) e)) (cond d (At (scaled (pos (q + 1)) e)) Above))
  next_by true d c l h k = cut.up_is x q e c full (next_grid q e few lowest l (inr (before e h)))
  next_by false true c l h k = cut.up_is x q e c full
      (next_grid q e few lowest l (inl (ltb-true (q + 1) 1152921504606846976 k)))
  next_by false false c l h k =
      let m : 1152921504606846976 ≤ q + 1 = ltb-false (q + 1) 1152921504606846976 k in
      up_top x e (q + 1) (omega arith) (last e l h) q refl c

  up_by : (b i : Bool) → Cuts x q e i → int_lt (pos 512) e ≡ b → IsUp x (cond b Above
      (cond i (next_of (record { digits = q; two = e; inexact = i })) (At (scaled (pos q) e))))
  up_by true i c h = up_beyond x q e i c full (past e h)
  up_by false true c h =
      next_by (int_lt e (pos 512)) (ltb (q + 1) 1152921504606846976) c (within e h) refl refl
  up_by false false c h = up_is_exact x q e c few lowest (within e h)

size_down : (x : Fraction) (c : Digits)
    → Begins x c × (c.digits < 1152921504606846976) → IsDown x (down_of c)
size_down x c b = down_by x c.digits c.two b.0.full b.1 b.0.lowest c.inexact
    (int_lt (pos 512) c.two) b.0.cuts refl

size_up : (x : Fraction) (c : Digits)
    → Begins x c × (c.digits < 1152921504606846976) → IsUp x (up_of c)
size_up x c b =
    up_by x c.digits c.two b.0.full b.1 b.0.lowest (int_lt (pos 512) c.two) c.inexact b.0.cuts refl

-- ---- both signs
down_sign : (x : Fraction) (b : Bool) → le_ℚ zero_ℚ x ≡ b
    → IsDown x (cond b (down_of (first_digits x)) (neg_bound (up_of (first_digits (neg_ℚ x)))))
down_sign x true h = size_down x (first_digits x) (first_begins x (record { le = h }))
down_sign x false h = subst (λ y. IsDown y (neg_bound (up_of (first_digits (neg_ℚ x))))) (neg-neg x)
    (IsDown-neg (neg_ℚ x) (up_of (first_digits (neg_ℚ x))) (size_up (neg_ℚ x)
    (first_digits (neg_ℚ x)) (first_begins (neg_ℚ x) (neg_up x (le_total zero_ℚ x h)))))

pub down_is : (x : Fraction) → IsDown x (down x)
unfolding down
down_is x = down_sign x (le_ℚ zero_ℚ x) refl

pub up_is : (x : Fraction) → IsUp x (up x)
unfolding up
up_is x = subst (λ y. IsUp y (neg_bound (down (neg_ℚ x)))) (neg-neg x)
    (IsUp-neg (neg_ℚ x) (down (neg_ℚ x)) (down_is (neg_ℚ x)))
