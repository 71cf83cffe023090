-- Sums of terms with equal coefficients have equal values.
use Rattle.std.specs.Prelude.{◌≡◌, ℕ, ℤ, pos, neg_ℤ, ◌+ℤ◌, ◌+◌, ◌≤◌, Bool, true, false}
use Rattle.std.specs.Prelude.{if◌then◌else◌, [], ◌∷◌, ◌++◌, length, refl}
use Rattle.std.proofs.Common.{arith, sym, ap, ◌∙◌, zero, suc, subst}
use Rattle.std.proofs.lemmas.Int.{ints}
use Rattle.std.proofs.Math.IntN.{+ℤ_idl, +ℤ_assoc}
use Rattle.fx_model.specs.Fraction.{Fraction, ◌+ℚ◌, ◌*ℚ◌, zero_ℚ, add_assoc, zero-add, zero-mul}
use Rattle.fx_model.proofs.Fraction.{add-mul}
use Rattle.fx_model.specs.Powers.{whole, whole-add, zero-whole}
use Rattle.poly_normal.specs.Polynomial.{Monomial, same_monomial, Polynomial, coefficient_of}
use Rattle.poly_normal.specs.Polynomial.{IsEqual, negation}
use Rattle.poly_normal.proofs.Fractions.{add_swap, same_from_difference}
use Rattle.poly_normal.proofs.Values.{same_monomial-self, same_monomial-true, monomial_value}
use Rattle.poly_normal.proofs.Values.{term_value, polynomial_value, value-append, value-negation}

-- the terms that aren't like m
abbrev pub without : Monomial → Polynomial → Polynomial
without m [] = []
without m (t ∷ p) = if same_monomial t.monomial m then without m p else (t ∷ without m p)

pub length-without : (m : Monomial) (p : Polynomial) → length (without m p) ≤ length p
length-without m [] = omega arith
length-without m (t ∷ p) = by (same_monomial t.monomial m) (length-without m p)
  where
    by : (b : Bool) → length (without m p) ≤ length p
        → length (if b then without m p else (t ∷ without m p)) ≤ length (t ∷ p)
    by true h = omega arith
    by false h = omega arith

-- Terms that are like m have no coefficient left, and the others keep theirs.
coefficient_of-without_same : (m : Monomial) (p : Polynomial)
    → coefficient_of (without m p) m ≡ pos 0
coefficient_of-without_same m [] = refl
coefficient_of-without_same m (t ∷ p) =
    by (same_monomial t.monomial m) refl (coefficient_of-without_same m p)
  where
    by : (b : Bool) → same_monomial t.monomial m ≡ b → coefficient_of (without m p) m ≡ pos 0
        → coefficient_of (if b then without m p else (t ∷ without m p)) m ≡ pos 0
    by true e rest = rest
    by false e rest =
        ap (λ c. (if c then t.coefficient else pos 0) +ℤ coefficient_of (without m p) m) e
        ∙ +ℤ_idl (coefficient_of (without m p) m) ∙ rest

coefficient_of-without_other : (m k : Monomial) (p : Polynomial) → same_monomial m k ≡ false
    → coefficient_of (without m p) k ≡ coefficient_of p k
coefficient_of-without_other m k [] h = refl
coefficient_of-without_other m k (t ∷ p) h =
    by (same_monomial t.monomial m) refl (coefficient_of-without_other m k p h)
  where
    by : (b : Bool) → same_monomial t.monomial m ≡ b
        → coefficient_of (without m p) k ≡ coefficient_of p k
        → coefficient_of (if b then without m p else (t ∷ without m p)) k ≡ coefficient_of (t ∷ p) k
    by true e rest = rest ∙ sym (ap (λ l. (if same_monomial l k then t.coefficient else pos 0)
        +ℤ coefficient_of p k) (same_monomial-true t.monomial m e)
        ∙ ap (λ c. (if c then t.coefficient else pos 0) +ℤ coefficient_of p k) h
        ∙ +ℤ_idl (coefficient_of p k))
    by false e rest =
        ap (λ z. (if same_monomial t.monomial k then t.coefficient else pos 0) +ℤ z) rest

pub still_zero : (m : Monomial) (p : Polynomial) → ((k : Monomial) → coefficient_of p k ≡ pos 0)
    → (k : Monomial) → coefficient_of (without m p) k ≡ pos 0
still_zero m p z k = by (same_monomial m k) refl
  where
    by : (b : Bool) → same_monomial m k ≡ b → coefficient_of (without m p) k ≡ pos 0
    by true e = subst (λ l. coefficient_of (without m p) l ≡ pos 0) (same_monomial-true m k e)
        (coefficient_of-without_same m p)
    by false e = coefficient_of-without_other m k p e ∙ z k

module _ (v : ℕ → Fraction) where
  -- The terms that are like m come to their joined coefficient.
  value-split : (m : Monomial) (p : Polynomial) → polynomial_value v p
      ≡ (whole (coefficient_of p m) *ℚ monomial_value v 0 m) +ℚ polynomial_value v (without m p)
  value-split m [] = sym (zero-add zero_ℚ) ∙ ap (λ u. u +ℚ zero_ℚ)
      (sym (zero-mul (monomial_value v 0 m)) ∙ ap (λ u. u *ℚ monomial_value v 0 m) zero-whole)
  value-split m (t ∷ p) = by (same_monomial t.monomial m) refl (value-split m p)
    where
      by : (b : Bool) → same_monomial t.monomial m ≡ b → polynomial_value v p
          ≡ (whole (coefficient_of p m) *ℚ monomial_value v 0 m) +ℚ polynomial_value v (without m p)
          → polynomial_value v (t ∷ p) ≡ (whole ((if b then t.coefficient else pos 0)
          +ℤ coefficient_of p m) *ℚ monomial_value v 0 m) +ℚ polynomial_value v (if b
          then without m p else (t ∷ without m p))
      by true e rest = ap (λ u. term_value v t +ℚ u) rest ∙ sym (add_assoc (term_value v t)
          (whole (coefficient_of p m) *ℚ monomial_value v 0 m) (polynomial_value v (without m p)))
          ∙ ap (λ l. ((whole t.coefficient *ℚ monomial_value v 0 l)
          +ℚ (whole (coefficient_of p m) *ℚ monomial_value v 0 m))
          +ℚ polynomial_value v (without m p)) (same_monomial-true t.monomial m e)
          ∙ ap (λ u. u +ℚ polynomial_value v (without m p)) (sym (add-mul (whole t.coefficient)
          (whole (coefficient_of p m)) (monomial_value v 0 m)) ∙ ap (λ u. u *ℚ monomial_value v 0 m)
          (sym (whole-add t.coefficient (coefficient_of p m))))
      by false e rest = ap (λ u. term_value v t +ℚ u) rest ∙ add_swap (term_value v t)
          (whole (coefficient_of p m) *ℚ monomial_value v 0 m) (polynomial_value v (without m p))
          ∙ ap (λ z. (whole z *ℚ monomial_value v 0 m) +ℚ (term_value v t
          +ℚ polynomial_value v (without m p))) (sym (+ℤ_idl (coefficient_of p m)))

  -- Where all joined coefficients are zero, so is the value.
  value-zero : (n : ℕ) (p : Polynomial) → length p ≤ n
      → ((k : Monomial) → coefficient_of p k ≡ pos 0) → polynomial_value v p ≡ zero_ℚ
  value-zero n [] h z = refl
  value-zero zero (t ∷ p) h z = absurd (omega arith)
  value-zero (suc n) (t ∷ p) h z =
      let dropped : without t.monomial (t ∷ p) ≡ without t.monomial p = ap (λ b. if b
      then without t.monomial p else (t ∷ without t.monomial p)) (same_monomial-self t.monomial) in
      let fewer : length (without t.monomial (t ∷ p)) ≤ n =
      subst (λ q. length q ≤ n) (sym dropped) (omega (arith, length-without t.monomial p)) in
      value-split t.monomial (t ∷ p) ∙ ap (λ c. (whole c *ℚ monomial_value v 0 t.monomial)
      +ℚ polynomial_value v (without t.monomial (t ∷ p))) (z t.monomial)
      ∙ ap (λ u. u +ℚ polynomial_value v (without t.monomial (t ∷ p)))
      (ap (λ u. u *ℚ monomial_value v 0 t.monomial) (sym zero-whole)
      ∙ zero-mul (monomial_value v 0 t.monomial))
      ∙ zero-add (polynomial_value v (without t.monomial (t ∷ p)))
      ∙ value-zero n (without t.monomial (t ∷ p)) fewer (still_zero t.monomial (t ∷ p) z)

pub coefficient_of-append : (p q : Polynomial) (m : Monomial)
    → coefficient_of (p ++ q) m ≡ coefficient_of p m +ℤ coefficient_of q m
coefficient_of-append [] q m = sym (+ℤ_idl (coefficient_of q m))
coefficient_of-append (t ∷ p) q m = ap (λ z. (if same_monomial t.monomial m then t.coefficient
    else pos 0) +ℤ z) (coefficient_of-append p q m) ∙ sym (+ℤ_assoc (if same_monomial t.monomial m
    then t.coefficient else pos 0) (coefficient_of p m) (coefficient_of q m))

pub coefficient_of-negation : (p : Polynomial) (m : Monomial)
    → coefficient_of (negation p) m ≡ neg_ℤ (coefficient_of p m)
coefficient_of-negation [] m = refl
coefficient_of-negation (t ∷ p) m = ap (λ z. (if same_monomial t.monomial m then neg_ℤ t.coefficient
    else pos 0) +ℤ z) (coefficient_of-negation p m) ∙ by (same_monomial t.monomial m)
  where
    opposite : (x y : ℤ) → neg_ℤ x +ℤ neg_ℤ y ≡ neg_ℤ (x +ℤ y)
    opposite x y = omega (arith, ints)

    by : (b : Bool) → (if b then neg_ℤ t.coefficient else pos 0) +ℤ neg_ℤ (coefficient_of p m)
        ≡ neg_ℤ ((if b then t.coefficient else pos 0) +ℤ coefficient_of p m)
    by true = opposite t.coefficient (coefficient_of p m)
    by false = opposite (pos 0) (coefficient_of p m)

-- Where two are equal, their difference has no coefficients.
pub none_of_difference : (p q : Polynomial) → IsEqual p q → (k : Monomial)
    → coefficient_of (p ++ negation q) k ≡ pos 0
none_of_difference p q e k = coefficient_of-append p (negation q) k
    ∙ ap (λ z. coefficient_of p k +ℤ z) (coefficient_of-negation q k)
    ∙ minus_self (coefficient_of p k) (coefficient_of q k) (e k)
  where
    minus_self : (x y : ℤ) → x ≡ y → x +ℤ neg_ℤ y ≡ pos 0
    minus_self x y h = omega (arith, ints)

-- One polynomial has one value.
pub value-equal : (v : ℕ → Fraction) (p q : Polynomial) → IsEqual p q
    → polynomial_value v p ≡ polynomial_value v q
value-equal v p q e = same_from_difference (polynomial_value v p) (polynomial_value v q)
    (ap (λ u. polynomial_value v p +ℚ u) (sym (value-negation v q))
    ∙ sym (value-append v p (negation q)) ∙ value-zero v (length (p ++ negation q))
    (p ++ negation q) (omega arith) (none_of_difference p q e))
