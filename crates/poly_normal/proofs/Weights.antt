-- What depends on the coefficients alone: sums of weights of monomials, products, renamed
-- monomials, the number of terms.
use borrow.Author.Differences.{up, down, sum_is_lem, product_is, neg_is}
use Rattle.std.specs.Prelude.{◌≡◌, ℕ, ℤ, pos, neg_ℤ, ◌+ℤ◌, ◌*ℤ◌, ◌+◌, ◌*◌, ◌≤◌, Bool, true, false}
use Rattle.std.specs.Prelude.{if◌then◌else◌, [], ◌∷◌, ◌++◌, map, length, refl}
use Rattle.std.proofs.Common.{arith, sym, ap, ◌∙◌, zero, suc, subst}
use Rattle.std.proofs.lemmas.Int.{ints}
use Rattle.std.proofs.Math.IntN.{*ℤ_comm, +ℤ_assoc, +ℤ_idl, +ℤ_idr}
use Rattle.poly_normal.specs.Polynomial.{Monomial, monomial_product, same_monomial, Term}
use Rattle.poly_normal.specs.Polynomial.{Polynomial, coefficient_of, IsEqual, negation}
use Rattle.poly_normal.specs.Polynomial.{term_product, product, term_count}
use Rattle.poly_normal.specs.Rows.{with_term, IsRising}
use Rattle.poly_normal.proofs.Values.{same_monomial-self, same_monomial-true}
use Rattle.poly_normal.proofs.Likes.{without, length-without, still_zero, coefficient_of-append}
use Rattle.poly_normal.proofs.Likes.{coefficient_of-negation, none_of_difference}
use Rattle.poly_normal.proofs.Merge.{merge, coefficient_of-merge, rising-merge}
use Rattle.poly_normal.proofs.Merge.{with_term-coefficient, with_term-rising}
use Rattle.poly_normal.proofs.Joined.{term_count-rising}

zero-times : (z : ℤ) → pos 0 *ℤ z ≡ pos 0
zero-times z = omega (arith, ints)

times-one : (z : ℤ) → z *ℤ pos 1 ≡ z
times-one z = omega (arith, ints)

times-zero : (z : ℤ) → z *ℤ pos 0 ≡ pos 0
times-zero z = omega (arith, ints)

plus-times : (x y z : ℤ) → (x +ℤ y) *ℤ z ≡ (x *ℤ z) +ℤ (y *ℤ z)
plus-times x y z = omega (
  arith,
  ints,
  product_is (x +ℤ y) z,
  product_is x z,
  product_is y z,
  ap (λ n. n * up z) (sum_is_lem x y),
  ap (λ n. n * down z) (sum_is_lem x y),
  sum_is_lem (x *ℤ z) (y *ℤ z),
)

neg-times : (x y : ℤ) → neg_ℤ x *ℤ y ≡ neg_ℤ (x *ℤ y)
neg-times x y = omega (
  arith,
  ints,
  product_is (neg_ℤ x) y,
  product_is x y,
  ap (λ n. n * up y) (neg_is x).0,
  ap (λ n. n * down y) (neg_is x).0,
  ap (λ n. n * up y) (neg_is x).1,
  ap (λ n. n * down y) (neg_is x).1,
  neg_is (x *ℤ y),
)

-- the sum of coefficients times weights of their monomials
abbrev pub weigh : (Monomial → ℤ) → Polynomial → ℤ
weigh g [] = pos 0
weigh g (t ∷ p) = (t.coefficient *ℤ g t.monomial) +ℤ weigh g p

plus_swap : (x y z : ℤ) → x +ℤ (y +ℤ z) ≡ y +ℤ (x +ℤ z)
plus_swap x y z = omega (arith, ints)

module _ (g : Monomial → ℤ) where
  -- The terms that are like m come to their joined coefficient.
  weigh-split : (m : Monomial) (p : Polynomial)
      → weigh g p ≡ (coefficient_of p m *ℤ g m) +ℤ weigh g (without m p)
  weigh-split m [] = sym (ap (λ z. z +ℤ pos 0) (zero-times (g m)) ∙ +ℤ_idr (pos 0))
  weigh-split m (t ∷ p) = by (same_monomial t.monomial m) refl (weigh-split m p)
    where
      by : (b : Bool) → same_monomial t.monomial m ≡ b
          → weigh g p ≡ (coefficient_of p m *ℤ g m) +ℤ weigh g (without m p)
          → weigh g (t ∷ p) ≡ (((if b then t.coefficient else pos 0) +ℤ coefficient_of p m)
          *ℤ g m) +ℤ weigh g (if b then without m p else (t ∷ without m p))
      by true e rest = ap (λ u. (t.coefficient *ℤ g t.monomial) +ℤ u) rest ∙ sym (+ℤ_assoc
          (t.coefficient *ℤ g t.monomial) (coefficient_of p m *ℤ g m) (weigh g (without m p)))
          ∙ ap (λ l. ((t.coefficient *ℤ g l) +ℤ (coefficient_of p m *ℤ g m))
          +ℤ weigh g (without m p)) (same_monomial-true t.monomial m e)
          ∙ ap (λ u. u +ℤ weigh g (without m p))
          (sym (plus-times t.coefficient (coefficient_of p m) (g m)))
      by false e rest = ap (λ u. (t.coefficient *ℤ g t.monomial) +ℤ u) rest ∙ plus_swap
          (t.coefficient *ℤ g t.monomial) (coefficient_of p m *ℤ g m) (weigh g (without m p))
          ∙ ap (λ z. (z *ℤ g m) +ℤ ((t.coefficient *ℤ g t.monomial) +ℤ weigh g (without m p)))
          (sym (+ℤ_idl (coefficient_of p m)))

  weigh-zero : (n : ℕ) (p : Polynomial) → length p ≤ n
      → ((k : Monomial) → coefficient_of p k ≡ pos 0) → weigh g p ≡ pos 0
  weigh-zero n [] h z = refl
  weigh-zero zero (t ∷ p) h z = absurd (omega arith)
  weigh-zero (suc n) (t ∷ p) h z =
      let dropped : without t.monomial (t ∷ p) ≡ without t.monomial p = ap (λ b. if b
      then without t.monomial p else (t ∷ without t.monomial p)) (same_monomial-self t.monomial) in
      let fewer : length (without t.monomial (t ∷ p)) ≤ n =
      subst (λ q. length q ≤ n) (sym dropped) (omega (arith, length-without t.monomial p)) in
      weigh-split t.monomial (t ∷ p)
      ∙ ap (λ c. (c *ℤ g t.monomial) +ℤ weigh g (without t.monomial (t ∷ p))) (z t.monomial)
      ∙ ap (λ u. u +ℤ weigh g (without t.monomial (t ∷ p))) (zero-times (g t.monomial))
      ∙ +ℤ_idl (weigh g (without t.monomial (t ∷ p)))
      ∙ weigh-zero n (without t.monomial (t ∷ p)) fewer (still_zero t.monomial (t ∷ p) z)

  weigh-append : (p q : Polynomial) → weigh g (p ++ q) ≡ weigh g p +ℤ weigh g q
  weigh-append [] q = sym (+ℤ_idl (weigh g q))
  weigh-append (t ∷ p) q = ap (λ u. (t.coefficient *ℤ g t.monomial) +ℤ u) (weigh-append p q)
      ∙ sym (+ℤ_assoc (t.coefficient *ℤ g t.monomial) (weigh g p) (weigh g q))

  weigh-negation : (p : Polynomial) → weigh g (negation p) ≡ neg_ℤ (weigh g p)
  weigh-negation [] = refl
  weigh-negation (t ∷ p) =
      ap (λ u. u +ℤ weigh g (negation p)) (neg-times t.coefficient (g t.monomial))
      ∙ ap (λ u. neg_ℤ (t.coefficient *ℤ g t.monomial) +ℤ u) (weigh-negation p)
      ∙ opposite (t.coefficient *ℤ g t.monomial) (weigh g p)
    where
      opposite : (x y : ℤ) → neg_ℤ x +ℤ neg_ℤ y ≡ neg_ℤ (x +ℤ y)
      opposite x y = omega (arith, ints)

-- One polynomial has one weight.
pub weigh-equal : (g : Monomial → ℤ) (p q : Polynomial) → IsEqual p q → weigh g p ≡ weigh g q
weigh-equal g p q e = same_from_difference (weigh g p) (weigh g q)
    (ap (λ u. weigh g p +ℤ u) (sym (weigh-negation g q)) ∙ sym (weigh-append g p (negation q))
    ∙ weigh-zero g (length (p ++ negation q)) (p ++ negation q) (omega arith)
    (none_of_difference p q e))
  where
    same_from_difference : (x y : ℤ) → x +ℤ neg_ℤ y ≡ pos 0 → x ≡ y
    same_from_difference x y h = omega (arith, ints)

weigh-same : (g h : Monomial → ℤ) → ((m : Monomial) → g m ≡ h m)
    → (p : Polynomial) → weigh g p ≡ weigh h p
weigh-same g h e [] = refl
weigh-same g h e (t ∷ p) = ap (λ u. (t.coefficient *ℤ u) +ℤ weigh g p) (e t.monomial)
    ∙ ap (λ u. (t.coefficient *ℤ h t.monomial) +ℤ u) (weigh-same g h e p)

-- ---- renamed monomials
abbrev pub renamed : (Monomial → Monomial) → Polynomial → Polynomial
renamed f p = map (λ t. record { coefficient = t.coefficient; monomial = f t.monomial }) p

abbrev is_one : Monomial → Monomial → ℤ
is_one m k = if same_monomial k m then pos 1 else pos 0

one_term : (b : Bool) (c : ℤ) → (if b then c else pos 0) ≡ c *ℤ (if b then pos 1 else pos 0)
one_term true c = sym (times-one c)
one_term false c = sym (times-zero c)

coefficient_of-renamed : (f : Monomial → Monomial) (p : Polynomial) (m : Monomial)
    → coefficient_of (renamed f p) m ≡ weigh (λ k. is_one m (f k)) p
coefficient_of-renamed f [] m = refl
coefficient_of-renamed f (t ∷ p) m = ap (λ u. u +ℤ coefficient_of (renamed f p) m)
    (one_term (same_monomial (f t.monomial) m) t.coefficient)
    ∙ ap (λ u. (t.coefficient *ℤ is_one m (f t.monomial)) +ℤ u) (coefficient_of-renamed f p m)

pub renamed-equal : (f : Monomial → Monomial) (p q : Polynomial) → IsEqual p q
    → IsEqual (renamed f p) (renamed f q)
renamed-equal f p q e m = coefficient_of-renamed f p m ∙ weigh-equal (λ k. is_one m (f k)) p q e
    ∙ sym (coefficient_of-renamed f q m)

-- ---- sums, negations, products
pub sum-equal : (p q r s : Polynomial) → IsEqual p r → IsEqual q s → IsEqual (p ++ q) (r ++ s)
sum-equal p q r s e f m = coefficient_of-append p q m ∙ ap (λ z. z +ℤ coefficient_of q m) (e m)
    ∙ ap (λ z. coefficient_of r m +ℤ z) (f m) ∙ sym (coefficient_of-append r s m)

pub negation-equal : (p q : Polynomial) → IsEqual p q → IsEqual (negation p) (negation q)
negation-equal p q e m =
    coefficient_of-negation p m ∙ ap neg_ℤ (e m) ∙ sym (coefficient_of-negation q m)

scaled_part : (b : Bool) (c d : ℤ) → (if b then c *ℤ d else pos 0) ≡ c *ℤ (if b then d else pos 0)
scaled_part true c d = refl
scaled_part false c d = sym (times-zero c)

times-plus : (x y z : ℤ) → x *ℤ (y +ℤ z) ≡ (x *ℤ y) +ℤ (x *ℤ z)
times-plus x y z = *ℤ_comm x (y +ℤ z) ∙ plus-times y z x ∙ ap (λ u. u +ℤ (z *ℤ x)) (*ℤ_comm y x)
    ∙ ap (λ u. (x *ℤ y) +ℤ u) (*ℤ_comm z x)

row_coefficient : (t : Term) (q : Polynomial) (m : Monomial)
    → coefficient_of (map (term_product t) q) m
    ≡ t.coefficient *ℤ coefficient_of (renamed (monomial_product t.monomial) q) m
row_coefficient t [] m = sym (times-zero t.coefficient)
row_coefficient t (s ∷ q) m = ap (λ u. u +ℤ coefficient_of (map (term_product t) q) m) (scaled_part
    (same_monomial (monomial_product t.monomial s.monomial) m) t.coefficient s.coefficient)
    ∙ ap (λ u. (t.coefficient *ℤ (if same_monomial (monomial_product t.monomial s.monomial) m
    then s.coefficient else pos 0)) +ℤ u) (row_coefficient t q m)
    ∙ sym (times-plus t.coefficient (if same_monomial (monomial_product t.monomial s.monomial) m
    then s.coefficient else pos 0) (coefficient_of (renamed (monomial_product t.monomial) q) m))

coefficient_of-product : (p q : Polynomial) (m : Monomial) → coefficient_of (product p q) m
    ≡ weigh (λ l. coefficient_of (renamed (monomial_product l) q) m) p
coefficient_of-product [] q m = refl
coefficient_of-product (t ∷ p) q m = coefficient_of-append (map (term_product t) q) (product p q) m
    ∙ ap (λ u. u +ℤ coefficient_of (product p q) m) (row_coefficient t q m)
    ∙ ap (λ u. (t.coefficient *ℤ coefficient_of (renamed (monomial_product t.monomial) q) m) +ℤ u)
    (coefficient_of-product p q m)

pub product-equal : (p q r s : Polynomial) → IsEqual p r → IsEqual q s
    → IsEqual (product p q) (product r s)
product-equal p q r s e f m = coefficient_of-product p q m
    ∙ weigh-equal (λ l. coefficient_of (renamed (monomial_product l) q) m) p r e
    ∙ weigh-same (λ l. coefficient_of (renamed (monomial_product l) q) m) (λ l. coefficient_of
    (renamed (monomial_product l) s) m) (λ l. renamed-equal (monomial_product l) q s f m) r
    ∙ sym (coefficient_of-product r s m)

negation-row : (t : Term) (q : Polynomial)
    → map (term_product (record { coefficient = neg_ℤ t.coefficient; monomial = t.monomial })) q
    ≡ negation (map (term_product t) q)
negation-row t [] = refl
negation-row t (s ∷ q) =
    ap (λ c. record { coefficient = c; monomial = monomial_product t.monomial s.monomial }
    ∷ map (term_product (record { coefficient = neg_ℤ t.coefficient; monomial = t.monomial })) q)
    (neg-times t.coefficient s.coefficient)
    ∙ ap (λ r. record {
      coefficient = neg_ℤ (t.coefficient *ℤ s.coefficient);
      monomial = monomial_product t.monomial s.monomial;
    } ∷ r) (negation-row t q)

negation-append : (p q : Polynomial) → negation (p ++ q) ≡ negation p ++ negation q
negation-append [] q = refl
negation-append (t ∷ p) q = ap (λ r.
    record { coefficient = neg_ℤ t.coefficient; monomial = t.monomial } ∷ r) (negation-append p q)

pub product-negation : (p q : Polynomial) → product (negation p) q ≡ negation (product p q)
product-negation [] q = refl
product-negation (t ∷ p) q = ap (λ r. r ++ product (negation p) q) (negation-row t q)
    ∙ ap (λ r. negation (map (term_product t) q) ++ r) (product-negation p q)
    ∙ sym (negation-append (map (term_product t) q) (product p q))

-- ---- like terms joined, so that the monomials rise
abbrev pub joined : Polynomial → Polynomial
joined [] = []
joined (t ∷ p) = merge (with_term t.coefficient t.monomial []) (joined p)

pub joined-rising : (p : Polynomial) → IsRising (joined p)
joined-rising [] = tt
joined-rising (t ∷ p) = rising-merge (with_term t.coefficient t.monomial []) (joined p)
    (with_term-rising t.coefficient t.monomial [] tt tt) (joined-rising p)

pub joined-equal : (p : Polynomial) → IsEqual (joined p) p
joined-equal [] m = refl
joined-equal (t ∷ p) m = coefficient_of-merge (with_term t.coefficient t.monomial []) (joined p) m
    ∙ ap (λ z. z +ℤ coefficient_of (joined p) m) (with_term-coefficient t.coefficient t.monomial []
    m ∙ +ℤ_idr (if same_monomial t.monomial m then t.coefficient else pos 0))
    ∙ ap (λ z. (if same_monomial t.monomial m then t.coefficient else pos 0)
    +ℤ z) (joined-equal p m)

pub count-equal : (p q : Polynomial) → IsEqual p q → term_count p ≡ term_count q
count-equal p q e = sym (term_count-rising (joined p) p (joined-rising p) (joined-equal p))
    ∙ term_count-rising (joined p) q (joined-rising p) (λ m. joined-equal p m ∙ e m)
