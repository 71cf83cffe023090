-- The form in which a number m * 2^e of the grid is kept. Each number of the grid has one.
use Rattle.std.specs.Prelude.{◌≡◌, ◌⊎◌, ℕ, ℤ, pos, negsuc, ◌+ℤ◌, ◌*ℤ◌, ◌≤ℤ◌, ◌<◌, ◌≤◌, ◌*◌, ◌+◌}
use Rattle.std.specs.Prelude.{◌%◌, ◌^◌, refl}
use Rattle.std.specs.Int.RustNames.{unsigned_abs}
use Rattle.std.proofs.Common.{arith, ap, ◌∙◌, inl, inr, ⊎_elim, lit≤}
use Rattle.std.proofs.lemmas.Int.{ints, unsigned_abs-mul}
use Rattle.std.proofs.lemmas.Nat.{pow_pos}
use Rattle.std.proofs.lemmas.Bool.{cases_lt}
use Rattle.std.proofs.Math.Dec.{T_prop}
use Rattle.std.proofs.Math.Bridge.{le_prop}
use Rattle.std.proofs.Math.IntN.{ℤ_set}
use Rattle.std.proofs.Math.Nat.{ℕ_set, mul-le-mul_left, mul-le-mul_right, pow-le-pow_right}
use Rattle.fx_model.specs.Grid.{IsOnGrid}
use Rattle.fx_model.specs.Powers.{scaled}
use Rattle.dyadic.specs.Odd.{odd_lowest}

-- An odd mantissa, or 0 * 2^0.
abbrev pub IsReduced : ℤ → ℤ → Type 0
IsReduced m e = ((m ≡ pos 0) × (e ≡ pos 0)) ⊎ (unsigned_abs m % 2 ≡ 1)

-- m is odd or the number is 0 * 2^0, |m| < 2^60, and the number is on the grid: where its place is
-- above 512, m has fewer digits.
pub record IsCanonical (mantissa exponent : ℤ) : Type 0 where
  pub form : IsReduced mantissa exponent
  pub size : unsigned_abs mantissa < 1152921504606846976
  pub lowest : negsuc 511 ≤ℤ exponent
  pub highest : exponent ≤ℤ pos 571
  pub room : (k : ℕ) → exponent ≡ pos (512 + k)
      → unsigned_abs mantissa * 2 ^ k < 1152921504606846976

-- ---- a number has it in one way
exclusive : {A B : Type 0} → IsProp A → IsProp B → (A → B → ⊥) → IsProp (A ⊎ B)
exclusive p q n (inl a) (inl b) = ap inl (p a b)
exclusive p q n (inl a) (inr b) = absurd (n a b)
exclusive p q n (inr a) (inl b) = absurd (n b a)
exclusive p q n (inr a) (inr b) = ap inr (q a b)

IsReduced-prop : (m e : ℤ) → IsProp (IsReduced m e)
IsReduced-prop m e = exclusive (hlevel ℤ_set) (hlevel ℕ_set)
    (λ z o. let a : unsigned_abs m ≡ 0 = ap unsigned_abs z.0 in absurd (omega arith))

pub IsCanonical-prop : (m e : ℤ) → IsProp (IsCanonical m e)
IsCanonical-prop m e = hlevel (IsReduced-prop, le_prop, T_prop)

-- ---- odd mantissas on the grid are in this form
module _ (m e : ℤ) (is_odd : unsigned_abs m % 2 ≡ 1) (g : IsOnGrid (scaled m e)) where
  parts : (k : ℕ) × (e ≡ g.exponent +ℤ pos k) × (g.mantissa ≡ (m *ℤ pos (2 ^ k)))
  parts = odd_lowest m e g.mantissa g.exponent is_odd g.is

  within : unsigned_abs m * 2 ^ parts.0 < 1152921504606846976
  within = let p = parts in let a = g.above in let b = g.below in
      let s : unsigned_abs g.mantissa ≡ unsigned_abs m * 2 ^ p.0 =
      ap unsigned_abs p.2 ∙ unsigned_abs-mul m (pos (2 ^ p.0)) in omega (arith, ints)

  few : parts.0 < 60
  few = ⊎_elim (λ l. l) (λ l. let p : 2 ^ 60 ≤ 2 ^ parts.0 =
      pow-le-pow_right {n = 2} (lit≤ tt) {i = 60} {j = parts.0} l in
      let q : 1 * 2 ^ parts.0 ≤ unsigned_abs m * 2 ^ parts.0 = mul-le-mul_right (2 ^ parts.0)
      (omega arith) in let w = within in absurd (omega arith)) (cases_lt parts.0 60)

  small : unsigned_abs m < 1152921504606846976
  small = let p : unsigned_abs m * 1 ≤ unsigned_abs m * 2 ^ parts.0 =
      mul-le-mul_left (unsigned_abs m) (pow_pos parts.0) in let w = within in omega arith

  fits : (k : ℕ) → e ≡ pos (512 + k) → unsigned_abs m * 2 ^ k < 1152921504606846976
  fits k h = let p = parts in let l = g.highest in let w = within in
      let j : k ≤ p.0 = omega (arith, ints) in
      let q : unsigned_abs m * 2 ^ k ≤ unsigned_abs m * 2 ^ p.0 = mul-le-mul_left (unsigned_abs m)
      (pow-le-pow_right {n = 2} (lit≤ tt) {i = k} {j = p.0} j) in omega arith

  pub odd_canonical : IsCanonical m e
  odd_canonical = let p = parts in let l = g.lowest in let h = g.highest in let f = few in
      record {
        form = inr is_odd;
        size = small;
        lowest = omega (arith, ints);
        highest = omega (arith, ints);
        room = fits;
      }

pub zero_canonical : IsCanonical (pos 0) (pos 0)
zero_canonical = record {
  form = inl (refl, refl);
  size = omega arith;
  lowest = omega (arith, ints);
  highest = omega (arith, ints);
  room = λ k h. absurd (omega (arith, ints));
}
