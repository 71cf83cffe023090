-- The greatest whole number that is at most a fraction.
use mathlib.Core.Quot.{mk, lift}
use lib.Dec.{T, leb, leb→le, nleb→lt}
use lib.IntN.{neg_ℤ, ℤ_set}
use borrow.Author.Differences.{up, down, neg_is, same_in}
use Rattle.std.specs.Prelude.{◌≡◌, ℕ, ◌*◌, ◌+◌, ◌-◌, ◌/◌, ◌≤◌, ◌<◌, Bool, true, false, cond, not}
use Rattle.std.specs.Prelude.{refl, ℤ, pos}
use Rattle.std.proofs.Common.{arith, sym, subst, ⊎_elim}
use Rattle.std.proofs.Math.Nat.{mul-le-mul_left, mul-le-mul_right}
use Rattle.std.proofs.lemmas.Nat.{div-add-mod', mod_below}
use Rattle.std.proofs.lemmas.Bool.{cases_lt}
use Rattle.fx_model.specs.Fraction.Core.{Ratio, Same, Fraction, of_ratio}

-- ---- the greatest whole number that is at most x
abbrev pub floor_ratio : Ratio → ℤ
floor_ratio x = cond (leb x.minus x.plus) (pos ((x.plus - x.minus) / x.den))
    (neg_ℤ (pos ((x.minus - x.plus + x.den - 1) / x.den)))

-- The whole number z is the greatest that isn't above the ratio.
abbrev pub FloorRatio : Ratio → ℤ → Type 0
FloorRatio x z = (up z * x.den + x.minus ≤ x.plus + down z * x.den)
    × (x.plus + down z * x.den < x.minus + up z * x.den + x.den)

-- a quotient times its divisor is at most the number, and less than a divisor below it
pub div_bounds : (n d : ℕ) → 0 < d → (n / d * d ≤ n) × (n < n / d * d + d)
div_bounds n d h = let e = div-add-mod' n d in let l = mod_below n d h in (omega arith, omega arith)

floor_at : (x : Ratio) (b : Bool) → leb x.minus x.plus ≡ b → FloorRatio x (cond b
    (pos ((x.plus - x.minus) / x.den)) (neg_ℤ (pos ((x.minus - x.plus + x.den - 1) / x.den))))
floor_at x true e = let l = leb→le x.minus x.plus (subst T (sym e) tt) in
    let d = div_bounds (x.plus - x.minus) x.den x.positive in (omega arith, omega arith)
floor_at x false e = let l = nleb→lt x.minus x.plus (subst (λ t. T (not t)) (sym e) tt) in
    let p = x.positive in let d = div_bounds (x.minus - x.plus + x.den - 1) x.den x.positive in
    let n = neg_is (pos ((x.minus - x.plus + x.den - 1) / x.den)) in
    (rw (n.0, n.1) (omega arith), rw (n.0, n.1) (omega arith))

cancel_lt : (k a b : ℕ) → k * a < k * b → a < b
cancel_lt k a b h =
    ⊎_elim (λ l. l) (λ l. absurd (omega (arith, mul-le-mul_left k l))) (cases_lt a b)

floor_le : (x y : Ratio) (z w : ℤ) → Same x y → FloorRatio x z → FloorRatio y w
    → up z + down w < up w + down z + 1
floor_le x y z w s f g = cancel_lt (x.den * y.den) (up z + down w) (up w + down z + 1)
    (omega (arith, s, mul-le-mul_right y.den f.0, mul-le-mul_right x.den g.1))

floor_same : (x y : Ratio) → Same x y → floor_ratio x ≡ floor_ratio y
floor_same x y s = let f = floor_at x (leb x.minus x.plus) refl in
    let g = floor_at y (leb y.minus y.plus) refl in
    let a = floor_le x y (floor_ratio x) (floor_ratio y) s f g in
    let b = floor_le y x (floor_ratio y) (floor_ratio x) (sym s) g f in
    same_in (floor_ratio x) (floor_ratio y) (omega arith)

pub floor_ℚ : Fraction → ℤ
floor_ℚ x = lift ℤ_set floor_ratio floor_same x

pub floor_law : (a : Ratio) → FloorRatio a (floor_ℚ (mk a))
unfolding floor_ℚ
floor_law a = floor_at a (leb a.minus a.plus) refl

pub floor-mk : (a : Ratio) → floor_ℚ (of_ratio a) ≡ floor_ratio a
unfolding floor_ℚ
floor-mk a = refl
