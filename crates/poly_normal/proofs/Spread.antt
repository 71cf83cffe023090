-- Spreading rows keeps products and the order, so it forgets nothing.
use Rattle.std.specs.Prelude.{◌≡◌, ◌↔◌, ℕ, ℤ, neg_ℤ, ◌*ℤ◌, ◌+◌, ◌<◌, Bool, true, false, List, []}
use Rattle.std.specs.Prelude.{◌∷◌, ◌++◌, map, length, slice_index_or, take, refl}
use Rattle.std.specs.List.{AllByRecursion}
use Rattle.std.specs.Ordering.{ordering_then}
use Rattle.std.specs.Cmp.{nat_cmp_is}
use Rattle.std.proofs.lemmas.Bool.{cases_order}
use Rattle.std.specs.declared.cmp.Ordering.{Ordering}
use Rattle.std.specs.declared.cmp.Ordering.TheVariants.{Less, Equal, Greater}
use Rattle.std.proofs.Common.{arith, sym, ap, ◌∙◌, zero, suc, subst, inl, inr}
use Rattle.poly_normal.specs.Rows.{no_term, with_term, IsBefore, IsRising}
use Rattle.poly_normal.specs.Polynomial.{Monomial, atom_monomial, monomial_product, Term}
use Rattle.poly_normal.specs.Polynomial.{Polynomial, coefficient_of, IsEqual, negation}
use Rattle.poly_normal.specs.Polynomial.{term_product, product, term_count}
use Rattle.poly_normal.specs.Places.{trues, with_power, spread, spread_polynomial, zero_row}
use Rattle.poly_normal.specs.Places.{unit_row}
use Rattle.poly_normal.proofs.Merge.{order, same_from_order, turned, all-merge, with_term-all}
use Rattle.poly_normal.proofs.Joined.{term_count-rising, same_from_equal, same_term}
use Rattle.poly_normal.proofs.Joined.{not_before_itself}
use Rattle.poly_normal.proofs.Products.{length-product}
use Rattle.poly_normal.proofs.Weights.{renamed-equal, joined, joined-rising, joined-equal}

-- ---- products
product-empty : (l : Monomial) → monomial_product l [] ≡ l
product-empty [] = refl
product-empty (k ∷ l) = refl

with_power-product : (j k : ℕ) (l m : Monomial)
    → monomial_product (with_power j l) (with_power k m) ≡ with_power (j + k) (monomial_product l m)
with_power-product zero zero [] [] = refl
with_power-product zero zero [] (x ∷ m) = refl
with_power-product zero zero (x ∷ l) [] = refl
with_power-product zero zero (x ∷ l) (y ∷ m) = refl
with_power-product zero (suc k) [] m = let e : suc k ≡ zero + suc k = omega arith in
    ap (λ n. with_power n m) e
with_power-product zero (suc k) (x ∷ l) m = let e : suc k ≡ zero + suc k = omega arith in
    ap (λ n. n ∷ monomial_product (x ∷ l) m) (sym e)
    ∙ ap (λ n. with_power n (monomial_product (x ∷ l) m)) e
with_power-product (suc j) zero l [] = let e : suc j ≡ suc j + zero = omega arith in
    ap (λ n. with_power n l) e ∙ ap (with_power (suc j + zero)) (sym (product-empty l))
with_power-product (suc j) zero l (y ∷ m) = let e : suc j ≡ suc j + zero = omega arith in
    ap (λ n. n ∷ monomial_product l (y ∷ m)) (sym e)
    ∙ ap (λ n. with_power n (monomial_product l (y ∷ m))) e
with_power-product (suc j) (suc k) l m = let e : suc j + suc k ≡ suc (j + suc k) = omega arith in
    ap (λ n. n ∷ monomial_product l m) e ∙ ap (λ n. with_power n (monomial_product l m)) (sym e)

pub spread-product : (bs : List Bool) (l m : List ℕ) → length l ≡ trues bs → length m ≡ trues bs
    → spread bs (monomial_product l m) ≡ monomial_product (spread bs l) (spread bs m)
spread-product [] l m e f = refl
spread-product (false ∷ bs) l m e f = ap (with_power 0) (spread-product bs l m e f)
    ∙ sym (with_power-product 0 0 (spread bs l) (spread bs m))
spread-product (true ∷ bs) [] m e f = absurd (omega arith)
spread-product (true ∷ bs) (j ∷ l) [] e f = absurd (omega arith)
spread-product (true ∷ bs) (j ∷ l) (k ∷ m) e f =
    ap (with_power (j + k)) (spread-product bs l m (omega arith) (omega arith))
    ∙ sym (with_power-product j k (spread bs l) (spread bs m))

-- ---- order
before_bare : (l : Monomial) → order l [] ≡ Less → ⊥
before_bare [] h = let e : Equal ≡ Less = h in cc
before_bare (x ∷ l) h = let e : Greater ≡ Less = h in cc

with_power-order : (k : ℕ) (l m : Monomial) → order l m ≡ Less
    → order (with_power k l) (with_power k m) ≡ Less
with_power-order k l [] h = absurd (before_bare l h)
with_power-order zero [] (y ∷ m) h = refl
with_power-order zero (x ∷ l) (y ∷ m) h = h
with_power-order (suc k) l (y ∷ m) h = same_head k l (y ∷ m) h
  where
    same_head : (k : ℕ) (l m : Monomial) → order l m ≡ Less → order (suc k ∷ l) (suc k ∷ m) ≡ Less
    same_head k l m h =
        ap (λ o. ordering_then o (order l m)) (sym (nat_cmp_is (suc k) (suc k) Equal refl)) ∙ h

first_less : (x y : ℕ) (l m : Monomial) → x < y → order (x ∷ l) (y ∷ m) ≡ Less
first_less x y l m h = ap (λ o. ordering_then o (order l m)) (sym (nat_cmp_is x y Less h))

with_power-lesser : (j k : ℕ) (l m : Monomial) → j < k
    → order (with_power j l) (with_power k m) ≡ Less
with_power-lesser j zero l m h = absurd (omega arith)
with_power-lesser zero (suc k) [] m h = refl
with_power-lesser zero (suc k) (x ∷ l) m h = first_less 0 (suc k) (x ∷ l) m h
with_power-lesser (suc j) (suc k) l m h = first_less (suc j) (suc k) l m h

pub spread-order : (bs : List Bool) (l m : List ℕ) → length l ≡ trues bs → length m ≡ trues bs
    → order l m ≡ Less → order (spread bs l) (spread bs m) ≡ Less
spread-order [] [] [] e f h = h
spread-order [] (j ∷ l) m e f h = absurd (omega arith)
spread-order [] [] (k ∷ m) e f h = absurd (omega arith)
spread-order (false ∷ bs) l m e f h =
    with_power-order 0 (spread bs l) (spread bs m) (spread-order bs l m e f h)
spread-order (true ∷ bs) [] m e f h = absurd (omega arith)
spread-order (true ∷ bs) (j ∷ l) [] e f h = absurd (omega arith)
spread-order (true ∷ bs) (j ∷ l) (k ∷ m) e f h = elim (cases_order j k) [
  | inl q ↦ same (sym q) (spread-order bs l m (omega arith) (omega arith))
  | inr o ↦ elim o
      [ inl a ↦ with_power-lesser j k (spread bs l) (spread bs m) a | inr b ↦ absurd (greater b) ]
]
  where
    same : k ≡ j → (order l m ≡ Less → order (spread bs l) (spread bs m) ≡ Less)
        → order (with_power j (spread bs l)) (with_power k (spread bs m)) ≡ Less
    same q rest =
        subst (λ x. order (with_power j (spread bs l)) (with_power x (spread bs m)) ≡ Less) (sym q)
        (with_power-order j (spread bs l) (spread bs m)
        (rest (ap (λ o. ordering_then o (order l m)) (nat_cmp_is j k Equal (sym q)) ∙ h)))

    greater : k < j → ⊥
    greater b = let e : Greater ≡ Less =
        ap (λ o. ordering_then o (order l m)) (nat_cmp_is j k Greater b) ∙ h in cc

-- ---- polynomials whose rows have one width
abbrev pub HasWidth : ℕ → Polynomial → Type 0
HasWidth w p = AllByRecursion (λ t. length t.monomial ≡ w) p

spread-before : (bs : List Bool) (m : List ℕ) (p : Polynomial) → length m ≡ trues bs
    → HasWidth (trues bs) p → IsBefore m p → IsBefore (spread bs m) (spread_polynomial bs p)
spread-before bs m [] e w b = b
spread-before bs m (t ∷ p) e w b =
    (spread-order bs m t.monomial e w.0 b.0, spread-before bs m p e w.1 b.1)

pub spread-rising : (bs : List Bool) (p : Polynomial) → HasWidth (trues bs) p → IsRising p
    → IsRising (spread_polynomial bs p)
spread-rising bs [] w r = r
spread-rising bs (t ∷ p) w r =
    (r.0, spread-before bs t.monomial p w.0 w.1 r.1, spread-rising bs p w.1 r.2)

spread-same : (bs : List Bool) (l m : List ℕ) → length l ≡ trues bs → length m ≡ trues bs
    → spread bs l ≡ spread bs m → l ≡ m
spread-same bs l m e f h = by (order l m) refl
  where
    by : (o : Ordering) → order l m ≡ o → l ≡ m
    by Less q = absurd (not_before_itself (spread bs l)
        (ap (order (spread bs l)) h ∙ spread-order bs l m e f q))
    by Equal q = same_from_order l m q
    by Greater q = absurd (not_before_itself (spread bs m)
        (ap (order (spread bs m)) (sym h) ∙ spread-order bs m l f e (turned l m q)))

tail : Polynomial → Polynomial
tail [] = []
tail (t ∷ p) = p

pub spread_polynomial-same : (bs : List Bool) (p q : Polynomial) → HasWidth (trues bs) p
    → HasWidth (trues bs) q → spread_polynomial bs p ≡ spread_polynomial bs q → p ≡ q
unfolding tail
spread_polynomial-same bs [] [] v w e = refl
spread_polynomial-same bs [] (t ∷ q) v w e = absurd (cc)
spread_polynomial-same bs (s ∷ p) [] v w e = absurd (cc)
spread_polynomial-same bs (s ∷ p) (t ∷ q) v w e =
    let c : s.coefficient ≡ t.coefficient = ap (λ r. (slice_index_or r 0 no_term).coefficient) e in
    let m : s.monomial ≡ t.monomial = spread-same bs s.monomial t.monomial v.0 w.0
    (ap (λ r. (slice_index_or r 0 no_term).monomial) e) in
    let rest : p ≡ q = spread_polynomial-same bs p q v.1 w.1 (ap tail e) in
    ap (λ x. x ∷ p) (same_term s t c m) ∙ ap (λ x. t ∷ x) rest

-- joined rows are equal exactly where what they spread to is
pub spread_equal : (bs : List Bool) (p q : Polynomial)
    → HasWidth (trues bs) p → HasWidth (trues bs) q → IsRising p → IsRising q
    → IsEqual p q ↔ IsEqual (spread_polynomial bs p) (spread_polynomial bs q)
spread_equal bs p q v w r s = (
  renamed-equal (spread bs) p q,
  (λ e m. ap (λ x. coefficient_of x m)
      (spread_polynomial-same bs p q v w (same_from_equal (spread_polynomial bs p)
      (spread_polynomial bs q) (spread-rising bs p v r) (spread-rising bs q w s) e))),
)

-- ---- the number of terms
joined-width : (w : ℕ) (p : Polynomial) → HasWidth w p → HasWidth w (joined p)
joined-width w [] h = h
joined-width w (t ∷ p) h =
    all-merge (λ m. length m ≡ w) (with_term t.coefficient t.monomial []) (joined p)
    (with_term-all (λ m. length m ≡ w) t.coefficient t.monomial [] h.0 tt) (joined-width w p h.1)

length-spread : (bs : List Bool) (p : Polynomial) → length (spread_polynomial bs p) ≡ length p
length-spread bs [] = refl
length-spread bs (t ∷ p) = ap suc (length-spread bs p)

pub spread-count : (bs : List Bool) (p : Polynomial) → HasWidth (trues bs) p
    → term_count (spread_polynomial bs p) ≡ term_count p
spread-count bs p w =
    let j : Polynomial = joined p in let v : HasWidth (trues bs) j = joined-width (trues bs) p w in
    sym (term_count-rising (spread_polynomial bs j) (spread_polynomial bs p)
    (spread-rising bs j v (joined-rising p)) (renamed-equal (spread bs) j p (joined-equal p)))
    ∙ length-spread bs j ∙ term_count-rising j p (joined-rising p) (joined-equal p)

-- ---- atoms and constants
pub spread-zero : (bs : List Bool) → spread bs (zero_row (trues bs)) ≡ []
spread-zero [] = refl
spread-zero (true ∷ bs) = ap (with_power 0) (spread-zero bs)
spread-zero (false ∷ bs) = ap (with_power 0) (spread-zero bs)

with_power-atom : (i : ℕ) → with_power 0 (atom_monomial i) ≡ atom_monomial (suc i)
with_power-atom zero = refl
with_power-atom (suc i) = refl

pub spread-atom : (bs : List Bool) (i : ℕ) → slice_index_or bs i false ≡ true
    → spread bs (unit_row (trues bs) (trues (take i bs))) ≡ atom_monomial i
spread-atom [] i h = absurd (let e : false ≡ true = h in cc)
spread-atom (true ∷ bs) zero h = ap (with_power 1) (spread-zero bs)
spread-atom (true ∷ bs) (suc i) h = ap (with_power 0) (spread-atom bs i h) ∙ with_power-atom i
spread-atom (false ∷ bs) zero h = absurd (let e : false ≡ true = h in cc)
spread-atom (false ∷ bs) (suc i) h = ap (with_power 0) (spread-atom bs i h) ∙ with_power-atom i

-- ---- widths
pub width-append : (w : ℕ) (p q : Polynomial) → HasWidth w p → HasWidth w q → HasWidth w (p ++ q)
width-append w [] q v u = u
width-append w (t ∷ p) q v u = (v.0, width-append w p q v.1 u)

pub width-negation : (w : ℕ) (p : Polynomial) → HasWidth w p → HasWidth w (negation p)
width-negation w [] v = v
width-negation w (t ∷ p) v = (v.0, width-negation w p v.1)

width-row : (w : ℕ) (t : Term) (q : Polynomial) → length t.monomial ≡ w → HasWidth w q
    → HasWidth w (map (term_product t) q)
width-row w t [] e u = u
width-row w t (s ∷ q) e u =
    (length-product t.monomial s.monomial (e ∙ sym u.0) ∙ e, width-row w t q e u.1)

pub width-product : (w : ℕ) (p q : Polynomial) → HasWidth w p → HasWidth w q
    → HasWidth w (product p q)
width-product w [] q v u = tt
width-product w (t ∷ p) q v u = width-append w (map (term_product t) q) (product p q)
    (width-row w t q v.0 u) (width-product w p q v.1 u)

-- ---- spreading goes through sums, negations and products
pub spread-append : (bs : List Bool) (p q : Polynomial)
    → spread_polynomial bs (p ++ q) ≡ spread_polynomial bs p ++ spread_polynomial bs q
spread-append bs [] q = refl
spread-append bs (t ∷ p) q =
    ap (λ r. record { coefficient = t.coefficient; monomial = spread bs t.monomial } ∷ r)
    (spread-append bs p q)

pub spread-negation : (bs : List Bool) (p : Polynomial)
    → spread_polynomial bs (negation p) ≡ negation (spread_polynomial bs p)
spread-negation bs [] = refl
spread-negation bs (t ∷ p) =
    ap (λ r. record { coefficient = neg_ℤ t.coefficient; monomial = spread bs t.monomial } ∷ r)
    (spread-negation bs p)

spread-row : (bs : List Bool) (t : Term) (q : Polynomial)
    → length t.monomial ≡ trues bs → HasWidth (trues bs) q
    → spread_polynomial bs (map (term_product t) q)
    ≡ map (term_product (record { coefficient = t.coefficient; monomial = spread bs t.monomial }))
    (spread_polynomial bs q)
spread-row bs t [] e u = refl
spread-row bs t (s ∷ q) e u =
    ap (λ m. record { coefficient = t.coefficient *ℤ s.coefficient; monomial = m }
    ∷ spread_polynomial bs (map (term_product t) q)) (spread-product bs t.monomial s.monomial e u.0)
    ∙ ap (λ r. record {
      coefficient = t.coefficient *ℤ s.coefficient;
      monomial = monomial_product (spread bs t.monomial) (spread bs s.monomial);
    } ∷ r) (spread-row bs t q e u.1)

pub spread-times : (bs : List Bool) (p q : Polynomial)
    → HasWidth (trues bs) p → HasWidth (trues bs) q
    → spread_polynomial bs (product p q) ≡ product (spread_polynomial bs p) (spread_polynomial bs q)
spread-times bs [] q v u = refl
spread-times bs (t ∷ p) q v u = spread-append bs (map (term_product t) q) (product p q)
    ∙ ap (λ r. r ++ spread_polynomial bs (product p q)) (spread-row bs t q v.0 u)
    ∙ ap (λ r. map (term_product (record {
      coefficient = t.coefficient;
      monomial = spread bs t.monomial;
    })) (spread_polynomial bs q) ++ r) (spread-times bs p q v.1 u)

-- equal once spread, equal before
pub spread_back : (bs : List Bool) (p q : Polynomial)
    → HasWidth (trues bs) p → HasWidth (trues bs) q
    → IsEqual (spread_polynomial bs p) (spread_polynomial bs q) → IsEqual p q
spread_back bs p q v w e m = sym (joined-equal p m)
    ∙ (spread_equal bs (joined p) (joined q) (joined-width (trues bs) p v)
    (joined-width (trues bs) q w) (joined-rising p) (joined-rising q)).1
    (λ k. renamed-equal (spread bs) (joined p) p (joined-equal p) k ∙ e k
    ∙ sym (renamed-equal (spread bs) (joined q) q (joined-equal q) k)) m
    ∙ joined-equal q m
