-- The value of a polynomial at fractions for its atoms depends on its coefficients alone.
use Rattle.std.specs.Prelude.{◌≡◌, ℕ, ℤ, pos, ◌+◌, Bool, true, false, ◌==◌, ◌&&◌, [], ◌∷◌, ◌++◌}
use Rattle.std.specs.Prelude.{map, replicate, refl}
use Rattle.std.proofs.Common.{arith, sym, ap, ◌∙◌, zero, suc}
use Rattle.std.proofs.lemmas.Bool.{eqb-true, eq-eqb}
use Rattle.fx_model.specs.Fraction.{Fraction, ◌+ℚ◌, ◌*ℚ◌, neg_ℚ, zero_ℚ, one_ℚ, add_assoc, zero-add}
use Rattle.fx_model.specs.Fraction.{one-mul, zero-mul, mul-add, neg-mul, neg-add}
use Rattle.fx_model.proofs.Fraction.{add-zero, mul-one, mul-zero, add-mul, middle_products}
use Rattle.fx_model.specs.Powers.{whole, whole-mul, whole-neg, zero-whole, one-whole}
use Rattle.poly_normal.specs.Polynomial.{Monomial, atom_monomial, monomial_product, same_monomial}
use Rattle.poly_normal.specs.Polynomial.{Term, Polynomial, negation, term_product, product, atom}
use Rattle.poly_normal.specs.Polynomial.{constant}
use Rattle.poly_normal.proofs.Fractions.{power, power-add}

-- ---- equal monomials
pub same_monomial-self : (m : Monomial) → same_monomial m m ≡ true
same_monomial-self [] = refl
same_monomial-self (k ∷ m) = rw (eq-eqb k k refl) (same_monomial-self m)

and_left : (b c : Bool) → (b && c) ≡ true → b ≡ true
and_left true c h = refl
and_left false c h = h

and_right : (b c : Bool) → (b && c) ≡ true → c ≡ true
and_right true c h = h
and_right false c h = let k : false ≡ true = h in cc

pub same_monomial-true : (l m : Monomial) → same_monomial l m ≡ true → l ≡ m
same_monomial-true [] [] h = refl
same_monomial-true [] (k ∷ m) h = let e : false ≡ true = h in cc
same_monomial-true (j ∷ l) [] h = let e : false ≡ true = h in cc
same_monomial-true (j ∷ l) (k ∷ m) h =
    let first : j ≡ k = eqb-true j k (and_left (j == k) (same_monomial l m) h) in
    let rest : l ≡ m = same_monomial-true l m (and_right (j == k) (same_monomial l m) h) in cc

-- ---- values: v i is the value of atom i
abbrev pub monomial_value : (ℕ → Fraction) → ℕ → Monomial → Fraction
monomial_value v i [] = one_ℚ
monomial_value v i (k ∷ m) = power (v i) k *ℚ monomial_value v (suc i) m

abbrev pub term_value : (ℕ → Fraction) → Term → Fraction
term_value v t = whole t.coefficient *ℚ monomial_value v 0 t.monomial

abbrev pub polynomial_value : (ℕ → Fraction) → Polynomial → Fraction
polynomial_value v [] = zero_ℚ
polynomial_value v (t ∷ p) = term_value v t +ℚ polynomial_value v p

module _ (v : ℕ → Fraction) where
  monomial_value-product : (i : ℕ) (l m : Monomial)
      → monomial_value v i (monomial_product l m) ≡ monomial_value v i l *ℚ monomial_value v i m
  monomial_value-product i [] m = sym (one-mul (monomial_value v i m))
  monomial_value-product i (j ∷ l) [] = sym (mul-one (monomial_value v i (j ∷ l)))
  monomial_value-product i (j ∷ l) (k ∷ m) =
      ap (λ u. u *ℚ monomial_value v (suc i) (monomial_product l m)) (power-add (v i) j k)
      ∙ ap (λ u. (power (v i) j *ℚ power (v i) k) *ℚ u) (monomial_value-product (suc i) l m)
      ∙ middle_products (power (v i) j) (power (v i) k) (monomial_value v (suc i) l)
      (monomial_value v (suc i) m)

  monomial_value-atom : (i k : ℕ) → monomial_value v i (replicate k 0 ++ (1 ∷ [])) ≡ v (i + k)
  monomial_value-atom i zero = let e : i ≡ i + zero = omega arith in
      mul-one (v i *ℚ one_ℚ) ∙ mul-one (v i) ∙ ap v e
  monomial_value-atom i (suc k) = let e : suc i + k ≡ i + suc k = omega arith in
      one-mul (monomial_value v (suc i) (replicate k 0 ++ (1 ∷ [])))
      ∙ monomial_value-atom (suc i) k ∙ ap v e

  pub value-atom : (i : ℕ) → polynomial_value v (atom i) ≡ v i
  value-atom i = add-zero (whole (pos 1) *ℚ monomial_value v 0 (atom_monomial i))
      ∙ ap (λ u. u *ℚ monomial_value v 0 (atom_monomial i)) (sym one-whole)
      ∙ one-mul (monomial_value v 0 (atom_monomial i))
      ∙ monomial_value-atom 0 i ∙ ap v (let e : 0 + i ≡ i = omega arith in e)

  pub value-constant : (z : ℤ) → polynomial_value v (constant z) ≡ whole z
  value-constant z = add-zero (whole z *ℚ one_ℚ) ∙ mul-one (whole z)

  pub value-append : (p q : Polynomial)
      → polynomial_value v (p ++ q) ≡ polynomial_value v p +ℚ polynomial_value v q
  value-append [] q = sym (zero-add (polynomial_value v q))
  value-append (t ∷ p) q = ap (λ u. term_value v t +ℚ u) (value-append p q)
      ∙ sym (add_assoc (term_value v t) (polynomial_value v p) (polynomial_value v q))

  pub value-negation : (p : Polynomial)
      → polynomial_value v (negation p) ≡ neg_ℚ (polynomial_value v p)
  value-negation [] = neg_zero
    where
      neg_zero : zero_ℚ ≡ neg_ℚ zero_ℚ
      neg_zero = zero-whole ∙ whole-neg (pos 0) ∙ ap neg_ℚ (sym zero-whole)
  value-negation (t ∷ p) =
      ap (λ u. (u *ℚ monomial_value v 0 t.monomial) +ℚ polynomial_value v (negation p))
      (whole-neg t.coefficient) ∙ ap (λ u. u +ℚ polynomial_value v (negation p))
      (neg-mul (whole t.coefficient) (monomial_value v 0 t.monomial))
      ∙ ap (λ u. neg_ℚ (term_value v t) +ℚ u) (value-negation p)
      ∙ sym (neg-add (term_value v t) (polynomial_value v p))

  value-term_product : (s t : Term)
      → term_value v (term_product s t) ≡ term_value v s *ℚ term_value v t
  value-term_product s t =
      ap (λ u. u *ℚ monomial_value v 0 (monomial_product s.monomial t.monomial))
      (whole-mul s.coefficient t.coefficient)
      ∙ ap (λ u. (whole s.coefficient *ℚ whole t.coefficient) *ℚ u)
      (monomial_value-product 0 s.monomial t.monomial)
      ∙ middle_products (whole s.coefficient) (whole t.coefficient) (monomial_value v 0 s.monomial)
      (monomial_value v 0 t.monomial)

  value-row : (t : Term) (q : Polynomial)
      → polynomial_value v (map (term_product t) q) ≡ term_value v t *ℚ polynomial_value v q
  value-row t [] = sym (mul-zero (term_value v t))
  value-row t (s ∷ q) = ap (λ u. u +ℚ polynomial_value v (map (term_product t) q))
      (value-term_product t s) ∙ ap (λ u. (term_value v t *ℚ term_value v s) +ℚ u) (value-row t q)
      ∙ sym (mul-add (term_value v t) (term_value v s) (polynomial_value v q))

  pub value-product : (p q : Polynomial)
      → polynomial_value v (product p q) ≡ polynomial_value v p *ℚ polynomial_value v q
  value-product [] q = sym (zero-mul (polynomial_value v q))
  value-product (t ∷ p) q = value-append (map (term_product t) q) (product p q)
      ∙ ap (λ u. u +ℚ polynomial_value v (product p q)) (value-row t q)
      ∙ ap (λ u. (term_value v t *ℚ polynomial_value v q) +ℚ u) (value-product p q)
      ∙ sym (add-mul (term_value v t) (polynomial_value v p) (polynomial_value v q))
