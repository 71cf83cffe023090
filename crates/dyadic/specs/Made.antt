-- Each fraction of the grid has a `Dyadic`, and each bound of the grid an `End`.
use lib.IntN.{neg_ℤ}
use Rattle.std.specs.Prelude.{◌≡◌, ℕ, ℤ, pos, negsuc, ◌+ℤ◌, ◌*ℤ◌, ◌≤◌, ◌<◌, ◌*◌, ◌+◌, ◌%◌, ◌/◌, ◌^◌}
use Rattle.std.specs.Prelude.{◌==◌, Bool, true, false, if◌then◌else◌, refl}
use Rattle.std.specs.Int.RustNames.{unsigned_abs}
use Rattle.std.proofs.Common.{zero, suc, arith, ap, sym, subst, ◌∙◌}
use Rattle.std.proofs.lemmas.Int.{ints}
use Rattle.std.proofs.lemmas.Bool.{eqb-true, eqb-false}
use Rattle.std.proofs.lemmas.Nat.{pow-add}
use Rattle.fx_model.specs.Fraction.{Fraction, neg_ℚ}
use Rattle.fx_model.specs.Powers.{scaled, scaled-shift, scaled-zero}
use Rattle.fx_model.specs.Grid.{IsOnGrid, Bound, scaled-neg}
use Rattle.fx_model.specs.Grid as grid
use Rattle.dyadic.specs.Canonical.{IsCanonical, odd_canonical}
use Rattle.dyadic.specs.declared.number.Dyadic.{Dyadic}
use Rattle.dyadic.specs.declared.number.End.{End}
use Rattle.dyadic.specs.declared.number.End.TheVariants.{Low, At, High}
use Rattle.dyadic.specs.Values.{value_of, zero_number}
use Rattle.dyadic.specs.Ends.{bound_of}

-- n is odd * 2^k
record IsOddPart (n odd k : ℕ) : Type 0 where
  is_odd : odd % 2 ≡ 1
  is : n ≡ odd * 2 ^ k

-- the odd part of a number, and how often two divides it; fuel: at least the number
abbrev odd_of : ℕ → ℕ → ℕ
odd_of zero n = n
odd_of (suc fuel) n = if n % 2 == 0 then odd_of fuel (n / 2) else n

abbrev twos_of : ℕ → ℕ → ℕ
twos_of zero n = 0
twos_of (suc fuel) n = if n % 2 == 0 then twos_of fuel (n / 2) + 1 else 0

doubled : (n m odd k : ℕ) → n ≡ m * 2 → m ≡ odd * 2 ^ k → n ≡ odd * 2 ^ (k + 1)
doubled n m odd k e f = rw (pow-add 2 k 1) (omega arith)

at_test : (b : Bool) (n odd k odd' k' : ℕ)
    → (b ≡ true → IsOddPart n odd (k + 1)) → (b ≡ false → IsOddPart n odd' k')
    → IsOddPart n (if b then odd else odd') (if b then k + 1 else k')
at_test true n odd k odd' k' t f = t refl
at_test false n odd k odd' k' t f = f refl

odd_part : (fuel n : ℕ) → n ≤ fuel → 0 < n → IsOddPart n (odd_of fuel n) (twos_of fuel n)
odd_part zero n l p = absurd (omega arith)
odd_part (suc fuel) n l p = at_test (n % 2 == 0) n (odd_of fuel (n / 2)) (twos_of fuel (n / 2)) n 0
    (λ t. let z : n % 2 ≡ 0 = eqb-true (n % 2) 0 t in
    let q = odd_part fuel (n / 2) (omega arith) (omega arith) in
    record {
      is_odd = q.is_odd;
      is = doubled n (n / 2) (odd_of fuel (n / 2)) (twos_of fuel (n / 2)) (omega arith) q.is;
    })
    (λ f. let z : ¬ (n % 2 ≡ 0) = eqb-false (n % 2) 0 f in
    record { is_odd = odd_rest n z; is = omega arith })
  where
    odd_rest : (n : ℕ) → ¬ (n % 2 ≡ 0) → n % 2 ≡ 1
    odd_rest n z = omega arith

-- ---- a number of the grid
whole_part : (n odd k : ℕ) (e : ℤ) → n ≡ odd * 2 ^ k
    → scaled (pos n) e ≡ scaled (pos odd) (e +ℤ pos k)
whole_part n odd k e h =
    ap (λ z. scaled z e) (let q : pos n ≡ (pos odd *ℤ pos (2 ^ k)) = omega (arith, ints, h) in q)
    ∙ sym (scaled-shift (pos odd) e k)

below_part : (n odd k : ℕ) (e : ℤ) → n + 1 ≡ odd * 2 ^ k
    → scaled (negsuc n) e ≡ scaled (neg_ℤ (pos odd)) (e +ℤ pos k)
below_part n odd k e h = ap (λ z. scaled z e)
    (let q : negsuc n ≡ neg_ℤ (pos (n + 1)) = omega (arith, ints) in q) ∙ scaled-neg (pos (n + 1)) e
    ∙ ap neg_ℚ (whole_part (n + 1) odd k e h) ∙ sym (scaled-neg (pos odd) (e +ℤ pos k))

record IsNumber (x : Fraction) (m e : ℤ) : Type 0 where
  canonical : IsCanonical m e
  is : scaled m e ≡ x

above_zero : (n : ℕ) (e : ℤ) → IsOnGrid (scaled (pos (suc n)) e) → IsNumber (scaled (pos (suc n)) e)
    (pos (odd_of (suc n) (suc n))) (e +ℤ pos (twos_of (suc n) (suc n)))
above_zero n e g =
    let q = odd_part (suc n) (suc n) (omega arith) (omega arith) in
    let s = whole_part (suc n) (odd_of (suc n) (suc n)) (twos_of (suc n) (suc n)) e q.is in
    let o : unsigned_abs (pos (odd_of (suc n) (suc n))) % 2 ≡ 1 = q.is_odd in
    record {
      canonical = odd_canonical (pos (odd_of (suc n) (suc n)))
          (e +ℤ pos (twos_of (suc n) (suc n))) o (subst IsOnGrid s g);
      is = sym s;
    }

below_zero : (n : ℕ) (e : ℤ) → IsOnGrid (scaled (negsuc n) e) → IsNumber (scaled (negsuc n) e)
    (neg_ℤ (pos (odd_of (suc n) (suc n)))) (e +ℤ pos (twos_of (suc n) (suc n)))
below_zero n e g =
    let q = odd_part (suc n) (suc n) (omega arith) (omega arith) in
    let s = below_part n (odd_of (suc n) (suc n))
    (twos_of (suc n) (suc n)) e (omega (arith, q.is)) in
    let r = q.is_odd in
    let o : unsigned_abs (neg_ℤ (pos (odd_of (suc n) (suc n)))) % 2 ≡ 1 =
    ap (λ k. k % 2) (size_neg (odd_of (suc n) (suc n))) ∙ r in
    record {
      canonical = odd_canonical (neg_ℤ (pos (odd_of (suc n) (suc n))))
          (e +ℤ pos (twos_of (suc n) (suc n))) o (subst IsOnGrid s g);
      is = sym s;
    }
  where
    size_neg : (k : ℕ) → unsigned_abs (neg_ℤ (pos k)) ≡ k
    size_neg k = omega (arith, ints)

number_by : (m e : ℤ) → IsOnGrid (scaled m e) → Dyadic
number_by (pos zero) e g = zero_number
number_by (pos (suc n)) e g = record {
  mantissa = pos (odd_of (suc n) (suc n));
  exponent = e +ℤ pos (twos_of (suc n) (suc n));
  canonical = (above_zero n e g).canonical;
}
number_by (negsuc n) e g = record {
  mantissa = neg_ℤ (pos (odd_of (suc n) (suc n)));
  exponent = e +ℤ pos (twos_of (suc n) (suc n));
  canonical = (below_zero n e g).canonical;
}

number_by-value : (m e : ℤ) (g : IsOnGrid (scaled m e)) → value_of (number_by m e g) ≡ scaled m e
unfolding number_by
number_by-value (pos zero) e g = scaled-zero (pos 0) ∙ sym (scaled-zero e)
number_by-value (pos (suc n)) e g = (above_zero n e g).is
number_by-value (negsuc n) e g = (below_zero n e g).is

-- the number of a fraction of the grid
pub number_of : (x : Fraction) → IsOnGrid x → Dyadic
number_of x g = number_by g.mantissa g.exponent (subst IsOnGrid g.is g)

pub number_of-value : (x : Fraction) (g : IsOnGrid x) → value_of (number_of x g) ≡ x
unfolding number_of
number_of-value x g = number_by-value g.mantissa g.exponent (subst IsOnGrid g.is g) ∙ sym g.is

-- ---- a bound of the grid
-- where the bound is a number, it is one of the grid
abbrev pub IsGridBound : Bound → Type 0
IsGridBound grid.Below = Unit {0}
IsGridBound (grid.At g) = IsOnGrid g
IsGridBound grid.Above = Unit {0}

pub end_of : (b : Bound) → IsGridBound b → End
end_of grid.Below g = Low
end_of (grid.At x) g = At (number_of x g)
end_of grid.Above g = High

pub end_of-bound : (b : Bound) (g : IsGridBound b) → bound_of (end_of b g) ≡ b
unfolding end_of
end_of-bound grid.Below g = refl
end_of-bound (grid.At x) g = ap grid.At (number_of-value x g)
end_of-bound grid.Above g = refl
