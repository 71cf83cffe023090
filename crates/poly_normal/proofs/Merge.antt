-- Two joined polynomials as one: term by term, by rising monomial.
use Rattle.std.specs.Prelude.{◌≡◌, ◌⊎◌, ℕ, ℤ, pos, negsuc, ◌+ℤ◌, ◌+◌, ◌≤◌, Bool, true, false}
use Rattle.std.specs.Prelude.{if◌then◌else◌, ◌<◌, [], ◌∷◌, ◌++◌, drop, length, slice_index_or}
use Rattle.std.specs.Prelude.{unsigned_abs, refl}
use Rattle.std.specs.List.{AllByRecursion}
use Rattle.std.specs.Cmp.Lexicographic.{slice_cmp}
use Rattle.std.specs.Ordering.{nat_cmp, ordering_reverse, is_eq}
use Rattle.std.specs.declared.cmp.Ordering.{Ordering}
use Rattle.std.specs.declared.cmp.Ordering.TheVariants.{Less, Equal, Greater}
use Rattle.std.proofs.Common.{arith, sym, ap, ◌∙◌, zero, suc, subst, append_assoc, drop-cons, inl}
use Rattle.std.proofs.Common.{inr}
use Rattle.std.proofs.lemmas.List.{drop_all, append-nil}
use Rattle.std.proofs.lemmas.Cmp.{nat_list_cmp_total}
use Rattle.std.proofs.lemmas.Int.{ints}
use Rattle.std.proofs.lemmas.Map.Text.{is_eq-slice_cmp}
use Rattle.std.proofs.lemmas.Slice.Eq.{bytes_eq-Decides}
use Rattle.std.proofs.Math.IntN.{+ℤ_idl, +ℤ_idr}
use Rattle.poly_normal.specs.Polynomial.{Monomial, same_monomial, Term, Polynomial, coefficient_of}
use Rattle.poly_normal.specs.Rows.{with_term, IsBefore, IsRising, size_of, no_term, IsRow, IsSumOf}

abbrev pub order : Monomial → Monomial → Ordering
order l m = slice_cmp nat_cmp l m

pub same_from_order : (l m : Monomial) → order l m ≡ Equal → l ≡ m
same_from_order l m e = (bytes_eq-Decides l m).0 (sym (is_eq-slice_cmp l m) ∙ ap is_eq e)

abbrev pub choose : Ordering → Polynomial → Polynomial → Polynomial → Polynomial
choose Less below equal above = below
choose Equal below equal above = equal
choose Greater below equal above = above

-- the term t among q, where `rest` merges what comes after t
abbrev pub merge_term : Term → (Polynomial → Polynomial) → Polynomial → Polynomial
merge_term t rest [] = t ∷ rest []
merge_term t rest (s ∷ q) = choose (order t.monomial s.monomial) (t ∷ rest (s ∷ q))
    (with_term (t.coefficient +ℤ s.coefficient) t.monomial (rest q)) (s ∷ merge_term t rest q)

abbrev pub merge : Polynomial → Polynomial → Polynomial
merge [] q = q
merge (t ∷ p) q = merge_term t (merge p) q

pub merge-empty : (p : Polynomial) → merge p [] ≡ p
merge-empty [] = refl
merge-empty (t ∷ p) = ap (λ q. t ∷ q) (merge-empty p)

-- ---- coefficients add up

pub with_term-coefficient : (c : ℤ) (m : Monomial) (p : Polynomial) (k : Monomial)
    → coefficient_of (with_term c m p) k
    ≡ (if same_monomial m k then c else pos 0) +ℤ coefficient_of p k
with_term-coefficient (pos zero) m p k = none (same_monomial m k)
  where
    none : (b : Bool) → coefficient_of p k ≡ (if b then pos zero else pos 0) +ℤ coefficient_of p k
    none true = sym (+ℤ_idl (coefficient_of p k))
    none false = sym (+ℤ_idl (coefficient_of p k))
with_term-coefficient (pos (suc c)) m p k = refl
with_term-coefficient (negsuc c) m p k = refl

AddsUp : Polynomial → Polynomial → Polynomial → Monomial → Type 0
AddsUp r p q m = coefficient_of r m ≡ coefficient_of p m +ℤ coefficient_of q m

joined_part : (b : Bool) (c d x y : ℤ) → (if b then c +ℤ d else pos 0) +ℤ (x +ℤ y)
    ≡ ((if b then c else pos 0) +ℤ x) +ℤ ((if b then d else pos 0) +ℤ y)
joined_part true c d x y = omega (arith, ints)
joined_part false c d x y = omega (arith, ints)

plus_left : (a x y : ℤ) → a +ℤ (x +ℤ y) ≡ (a +ℤ x) +ℤ y
plus_left a x y = omega (arith, ints)

plus_right : (b x y : ℤ) → b +ℤ (x +ℤ y) ≡ x +ℤ (b +ℤ y)
plus_right b x y = omega (arith, ints)

coefficient_of-merge_term : (m : Monomial) (t : Term) (p : Polynomial) → ((q : Polynomial)
    → AddsUp (merge p q) p q m) → (q : Polynomial) → AddsUp (merge_term t (merge p) q) (t ∷ p) q m
unfolding AddsUp
coefficient_of-merge_term m t p h [] =
    ap (λ x. (if same_monomial t.monomial m then t.coefficient else pos 0) +ℤ x)
    (ap (λ r. coefficient_of r m) (merge-empty p)) ∙ sym (+ℤ_idr (coefficient_of (t ∷ p) m))
coefficient_of-merge_term m t p h (s ∷ q) =
    by (order t.monomial s.monomial) refl (coefficient_of-merge_term m t p h q)
  where
    by : (o : Ordering) → order t.monomial s.monomial ≡ o
        → coefficient_of (merge_term t (merge p) q) m
        ≡ coefficient_of (t ∷ p) m +ℤ coefficient_of q m
        → coefficient_of (choose o (t ∷ merge p (s ∷ q))
        (with_term (t.coefficient +ℤ s.coefficient) t.monomial (merge p q))
        (s ∷ merge_term t (merge p) q)) m ≡ coefficient_of (t ∷ p) m +ℤ coefficient_of (s ∷ q) m
    by Less e rest = ap (λ x. (if same_monomial t.monomial m then t.coefficient else pos 0) +ℤ x)
        (h (s ∷ q)) ∙ plus_left (if same_monomial t.monomial m then t.coefficient
        else pos 0) (coefficient_of p m) (coefficient_of (s ∷ q) m)
    by Equal e rest =
        with_term-coefficient (t.coefficient +ℤ s.coefficient) t.monomial (merge p q) m
        ∙ ap (λ x. (if same_monomial t.monomial m
        then t.coefficient +ℤ s.coefficient else pos 0) +ℤ x) (h q)
        ∙ joined_part (same_monomial t.monomial m) t.coefficient s.coefficient
        (coefficient_of p m) (coefficient_of q m)
        ∙ ap (λ l. ((if same_monomial t.monomial m then t.coefficient else pos 0)
        +ℤ coefficient_of p m) +ℤ ((if same_monomial l m then s.coefficient else pos 0)
        +ℤ coefficient_of q m)) (same_from_order t.monomial s.monomial e)
    by Greater e rest =
        ap (λ x. (if same_monomial s.monomial m then s.coefficient else pos 0) +ℤ x) rest
        ∙ plus_right (if same_monomial s.monomial m then s.coefficient
        else pos 0) (coefficient_of (t ∷ p) m) (coefficient_of q m)

coefficient_of-merge_by : (p q : Polynomial) (m : Monomial) → AddsUp (merge p q) p q m
unfolding AddsUp
coefficient_of-merge_by [] q m = sym (+ℤ_idl (coefficient_of q m))
coefficient_of-merge_by (t ∷ p) q m =
    coefficient_of-merge_term m t p (λ r. coefficient_of-merge_by p r m) q

pub coefficient_of-merge : (p q : Polynomial) (m : Monomial)
    → coefficient_of (merge p q) m ≡ coefficient_of p m +ℤ coefficient_of q m
unfolding AddsUp
coefficient_of-merge p q m = coefficient_of-merge_by p q m

-- ---- sizes add up at most
pub with_term-size : (c : ℤ) (m : Monomial) (p : Polynomial)
    → size_of (with_term c m p) ≡ unsigned_abs c + size_of p
with_term-size (pos zero) m p = omega arith
with_term-size (pos (suc c)) m p = refl
with_term-size (negsuc c) m p = refl

size-plus : (a b : ℤ) → unsigned_abs (a +ℤ b) ≤ unsigned_abs a + unsigned_abs b
size-plus a b = omega (arith, ints)

size_of-merge_term : (t : Term) (p : Polynomial)
    → ((q : Polynomial) → size_of (merge p q) ≤ size_of p + size_of q) → (q : Polynomial)
    → size_of (merge_term t (merge p) q) ≤ size_of (t ∷ p) + size_of q
size_of-merge_term t p h [] = let e = h [] in omega arith
size_of-merge_term t p h (s ∷ q) =
    by (order t.monomial s.monomial) (size_of-merge_term t p h q) (h (s ∷ q)) (h q)
  where
    by : (o : Ordering) → size_of (merge_term t (merge p) q) ≤ size_of (t ∷ p) + size_of q
        → size_of (merge p (s ∷ q)) ≤ size_of p + size_of (s ∷ q)
        → size_of (merge p q) ≤ size_of p + size_of q
        → size_of (choose o (t ∷ merge p (s ∷ q)) (with_term (t.coefficient +ℤ s.coefficient)
        t.monomial (merge p q)) (s ∷ merge_term t (merge p) q)) ≤ size_of (t ∷ p) + size_of (s ∷ q)
    by Less rest below equal = omega arith
    by Equal rest below equal = omega (
      arith,
      with_term-size (t.coefficient +ℤ s.coefficient) t.monomial (merge p q),
      size-plus t.coefficient s.coefficient,
    )
    by Greater rest below equal = omega arith

pub size_of-merge : (p q : Polynomial) → size_of (merge p q) ≤ size_of p + size_of q
size_of-merge [] q = omega arith
size_of-merge (t ∷ p) q = size_of-merge_term t p (size_of-merge p) q

-- ---- what holds of all monomials stays
module _ (P : Monomial → Type 0) where
  abbrev AllOf : Polynomial → Type 0
  AllOf p = AllByRecursion (λ t. P t.monomial) p

  pub with_term-all : (c : ℤ) (m : Monomial) (p : Polynomial) → P m → AllOf p
      → AllOf (with_term c m p)
  with_term-all (pos zero) m p h k = k
  with_term-all (pos (suc c)) m p h k = (h, k)
  with_term-all (negsuc c) m p h k = (h, k)

  all-merge_term : (t : Term) (p : Polynomial) → P t.monomial → ((q : Polynomial) → AllOf q
      → AllOf (merge p q)) → (q : Polynomial) → AllOf q → AllOf (merge_term t (merge p) q)
  all-merge_term t p k h [] a = (k, h [] a)
  all-merge_term t p k h (s ∷ q) a = by (order t.monomial s.monomial) (all-merge_term t p k h q a.1)
    where
      by : (o : Ordering) → AllOf (merge_term t (merge p) q)
          → AllOf (choose o (t ∷ merge p (s ∷ q)) (with_term
          (t.coefficient +ℤ s.coefficient) t.monomial (merge p q)) (s ∷ merge_term t (merge p) q))
      by Less rest = (k, h (s ∷ q) a)
      by Equal rest =
          with_term-all (t.coefficient +ℤ s.coefficient) t.monomial (merge p q) k (h q a.1)
      by Greater rest = (a.0, rest)

  pub all-merge : (p q : Polynomial) → AllOf p → AllOf q → AllOf (merge p q)
  all-merge [] q a b = b
  all-merge (t ∷ p) q a b = all-merge_term t p a.0 (λ r c. all-merge p r a.1 c) q b

-- ---- monomials rise
pub before-weaker : (l m : Monomial) → order l m ≡ Less → (p : Polynomial)
    → IsBefore m p → IsBefore l p
before-weaker l m h [] b = b
before-weaker l m h (t ∷ p) b =
    (nat_list_cmp_total.trans l m t.monomial h b.0, before-weaker l m h p b.1)

pub with_term-rising : (c : ℤ) (m : Monomial) (p : Polynomial) → IsBefore m p → IsRising p
    → IsRising (with_term c m p)
with_term-rising (pos zero) m p b r = r
with_term-rising (pos (suc c)) m p b r =
    ((λ e. let k : pos (suc c) ≡ pos 0 = e in absurd (omega (arith, ints))), b, r)
with_term-rising (negsuc c) m p b r =
    ((λ e. let k : negsuc c ≡ pos 0 = e in absurd (omega (arith, ints))), b, r)

pub turned : (l m : Monomial) → order l m ≡ Greater → order m l ≡ Less
turned l m e = nat_list_cmp_total.antisymm m l ∙ ap ordering_reverse e

rising-merge_term : (t : Term) (p : Polynomial) → IsRising (t ∷ p)
    → ((q : Polynomial) → IsRising q → IsRising (merge p q)) → (q : Polynomial) → IsRising q
    → IsRising (merge_term t (merge p) q)
rising-merge_term t p r h [] k =
    (r.0, subst (IsBefore t.monomial) (sym (merge-empty p)) r.1, h [] k)
rising-merge_term t p r h (s ∷ q) k =
    by (order t.monomial s.monomial) refl (rising-merge_term t p r h q k.2)
  where
    by : (o : Ordering) → order t.monomial s.monomial ≡ o → IsRising (merge_term t (merge p) q)
        → IsRising (choose o (t ∷ merge p (s ∷ q)) (with_term
        (t.coefficient +ℤ s.coefficient) t.monomial (merge p q)) (s ∷ merge_term t (merge p) q))
    by Less e rest = (
      r.0,
      all-merge (λ m. order t.monomial m ≡ Less) p (s ∷ q) r.1
          (e, before-weaker t.monomial s.monomial e q k.1),
      h (s ∷ q) k,
    )
    by Equal e rest = with_term-rising (t.coefficient +ℤ s.coefficient) t.monomial (merge p q)
        (all-merge (λ m. order t.monomial m ≡ Less) p q r.1
        (subst (λ m. IsBefore m q) (sym (same_from_order t.monomial s.monomial e)) k.1)) (h q k.2)
    by Greater e rest = (
      k.0,
      all-merge (λ m. order s.monomial m ≡ Less) (t ∷ p) q (
        turned t.monomial s.monomial e,
        before-weaker s.monomial t.monomial (turned t.monomial s.monomial e) p r.1,
      ) k.1,
      rest,
    )

pub rising-merge : (p q : Polynomial) → IsRising p → IsRising q → IsRising (merge p q)
rising-merge [] q r k = k
rising-merge (t ∷ p) q r k = rising-merge_term t p r (λ s c. rising-merge p s r.2 c) q k

-- The merged list is a sum.
pub merge_sums : (p q r : Polynomial) → r ≡ merge p q → IsSumOf p q r
merge_sums p q r e = subst (IsSumOf p q) (sym e) (record {
  coefficients = coefficient_of-merge p q;
  size = size_of-merge p q;
  rising = rising-merge p q;
  rows = λ w d. all-merge (IsRow w d) p q;
})

-- ---- the steps of the loop that merges: what is done, and what is left
first : (p : Polynomial) (i : ℕ) → i < length p
    → drop i p ≡ slice_index_or p i no_term ∷ drop (i + 1) p
first p i h = drop-cons p i no_term h
    ∙ ap (λ k. slice_index_or p i no_term ∷ drop k p) (let e : suc i ≡ i + 1 = omega arith in e)

term_at : (p : Polynomial) (i : ℕ) (c : ℤ) (m : Monomial)
    → c ≡ (slice_index_or p i no_term).coefficient → m ≡ (slice_index_or p i no_term).monomial
    → let t : Term = record { coefficient = c; monomial = m } in t ≡ slice_index_or p i no_term
term_at p i c m e f = ap (λ x. record { coefficient = x; monomial = m }) e
    ∙ ap (λ x. record { coefficient = (slice_index_or p i no_term).coefficient; monomial = x }) f

pub step_less : (p q done next whole : Polynomial) (i j : ℕ) (c : ℤ) (m : Monomial)
    → i < length p → j < length q → c ≡ (slice_index_or p i no_term).coefficient
    → m ≡ (slice_index_or p i no_term).monomial
    → order m (slice_index_or q j no_term).monomial ≡ Less
    → next ≡ done ++ (record { coefficient = c; monomial = m } ∷ [])
    → done ++ merge (drop i p) (drop j q) ≡ whole
    → next ++ merge (drop (i + 1) p) (drop j q) ≡ whole
step_less p q done next whole i j c m h k e f o n w =
    ap (λ x. x ++ merge (drop (i + 1) p) (drop j q)) (n
    ∙ ap (λ t. done ++ (t ∷ [])) (term_at p i c m e f))
    ∙ append_assoc done (slice_index_or p i no_term ∷ []) (merge (drop (i + 1) p) (drop j q))
    ∙ ap (λ x. done ++ x) (sym (ap (λ x. merge x (drop j q)) (first p i h)
    ∙ ap (λ y. merge (slice_index_or p i no_term ∷ drop (i + 1) p) y) (first q j k)
    ∙ ap (λ v. choose v (slice_index_or p i no_term
    ∷ merge (drop (i + 1) p) (slice_index_or q j no_term ∷ drop (j + 1) q))
    (with_term ((slice_index_or p i no_term).coefficient
    +ℤ (slice_index_or q j no_term).coefficient)
    (slice_index_or p i no_term).monomial (merge (drop (i + 1) p) (drop (j + 1) q)))
    (slice_index_or q j no_term ∷ merge (slice_index_or p i no_term ∷ drop (i + 1) p)
    (drop (j + 1) q))) (ap (λ x. order x (slice_index_or q j no_term).monomial) (sym f) ∙ o)
    ∙ ap (λ y. slice_index_or p i no_term ∷ merge (drop (i + 1) p) y) (sym (first q j k)))) ∙ w

pub step_greater : (p q done next whole : Polynomial) (i j : ℕ) (c : ℤ) (m : Monomial)
    → i < length p → j < length q → c ≡ (slice_index_or q j no_term).coefficient
    → m ≡ (slice_index_or q j no_term).monomial
    → order (slice_index_or p i no_term).monomial m ≡ Greater
    → next ≡ done ++ (record { coefficient = c; monomial = m } ∷ [])
    → done ++ merge (drop i p) (drop j q) ≡ whole
    → next ++ merge (drop i p) (drop (j + 1) q) ≡ whole
step_greater p q done next whole i j c m h k e f o n w =
    ap (λ x. x ++ merge (drop i p) (drop (j + 1) q)) (n
    ∙ ap (λ t. done ++ (t ∷ [])) (term_at q j c m e f))
    ∙ append_assoc done (slice_index_or q j no_term ∷ []) (merge (drop i p) (drop (j + 1) q))
    ∙ ap (λ x. done ++ x) (ap (λ x. slice_index_or q j no_term ∷ merge x (drop (j + 1) q))
    (first p i h) ∙ sym (ap (λ x. merge x (drop j q)) (first p i h)
    ∙ ap (λ y. merge (slice_index_or p i no_term ∷ drop (i + 1) p) y) (first q j k)
    ∙ ap (λ v. choose v (slice_index_or p i no_term
    ∷ merge (drop (i + 1) p) (slice_index_or q j no_term ∷ drop (j + 1) q))
    (with_term ((slice_index_or p i no_term).coefficient
    +ℤ (slice_index_or q j no_term).coefficient)
    (slice_index_or p i no_term).monomial (merge (drop (i + 1) p) (drop (j + 1) q)))
    (slice_index_or q j no_term ∷ merge (slice_index_or p i no_term ∷ drop (i + 1) p)
    (drop (j + 1) q))) (ap (λ x. order (slice_index_or p i no_term).monomial x) (sym f) ∙ o))) ∙ w

with_term-append : (c : ℤ) (m : Monomial) (p : Polynomial) → with_term c m [] ++ p ≡ with_term c m p
with_term-append (pos zero) m p = refl
with_term-append (pos (suc c)) m p = refl
with_term-append (negsuc c) m p = refl

pub step_equal : (p q done next whole : Polynomial) (i j : ℕ) (c : ℤ) (m : Monomial)
    → i < length p → j < length q
    → c ≡ (slice_index_or p i no_term).coefficient +ℤ (slice_index_or q j no_term).coefficient
    → m ≡ (slice_index_or p i no_term).monomial
    → order m (slice_index_or q j no_term).monomial ≡ Equal
    → next ≡ done ++ with_term c m [] → done ++ merge (drop i p) (drop j q) ≡ whole
    → next ++ merge (drop (i + 1) p) (drop (j + 1) q) ≡ whole
step_equal p q done next whole i j c m h k e f o n w =
    ap (λ x. x ++ merge (drop (i + 1) p) (drop (j + 1) q)) n
    ∙ append_assoc done (with_term c m []) (merge (drop (i + 1) p) (drop (j + 1) q))
    ∙ ap (λ x. done ++ x) (with_term-append c m (merge (drop (i + 1) p) (drop (j + 1) q))
    ∙ ap (λ x. with_term x m (merge (drop (i + 1) p) (drop (j + 1) q))) e
    ∙ ap (λ x. with_term ((slice_index_or p i no_term).coefficient
    +ℤ (slice_index_or q j no_term).coefficient) x (merge (drop (i + 1) p) (drop (j + 1) q))) f
    ∙ sym (ap (λ x. merge x (drop j q)) (first p i h)
    ∙ ap (λ y. merge (slice_index_or p i no_term ∷ drop (i + 1) p) y) (first q j k)
    ∙ ap (λ v. choose v (slice_index_or p i no_term
    ∷ merge (drop (i + 1) p) (slice_index_or q j no_term ∷ drop (j + 1) q))
    (with_term ((slice_index_or p i no_term).coefficient
    +ℤ (slice_index_or q j no_term).coefficient)
    (slice_index_or p i no_term).monomial (merge (drop (i + 1) p) (drop (j + 1) q)))
    (slice_index_or q j no_term ∷ merge (slice_index_or p i no_term ∷ drop (i + 1) p)
    (drop (j + 1) q))) (ap (λ x. order x (slice_index_or q j no_term).monomial) (sym f) ∙ o))) ∙ w

-- one term is copied
pub step_copy : (p done next whole : Polynomial) (i : ℕ) (c : ℤ) (m : Monomial) → i < length p
    → c ≡ (slice_index_or p i no_term).coefficient → m ≡ (slice_index_or p i no_term).monomial
    → next ≡ done ++ (record { coefficient = c; monomial = m } ∷ []) → done ++ drop i p ≡ whole
    → next ++ drop (i + 1) p ≡ whole
step_copy p done next whole i c m h e f n w =
    ap (λ x. x ++ drop (i + 1) p) (n ∙ ap (λ t. done ++ (t ∷ [])) (term_at p i c m e f))
    ∙ append_assoc done (slice_index_or p i no_term ∷ []) (drop (i + 1) p)
    ∙ ap (λ x. done ++ x) (sym (first p i h)) ∙ w

-- at the end one of the two is used up
pub merge_done : (p q done with_p next whole : Polynomial) (i j : ℕ)
    → (length p ≤ i) ⊎ (length q ≤ j) → with_p ≡ done ++ drop i p → next ≡ with_p ++ drop j q
    → done ++ merge (drop i p) (drop j q) ≡ whole → next ≡ whole
merge_done p q done with_p next whole i j (inl h) e f w =
    f ∙ ap (λ x. x ++ drop j q) (e ∙ ap (λ x. done ++ x) (drop_all i p h) ∙ append-nil done)
    ∙ sym (ap (λ x. done ++ merge x (drop j q)) (drop_all i p h)) ∙ w
merge_done p q done with_p next whole i j (inr h) e f w = f ∙ ap (λ x. with_p ++ x) (drop_all j q h)
    ∙ append-nil with_p ∙ e ∙ sym (ap (λ x. done ++ merge (drop i p) x) (drop_all j q h)
    ∙ ap (λ x. done ++ x) (merge-empty (drop i p))) ∙ w

-- a coefficient is at most the size
pub coefficient-size : (p : Polynomial) (i : ℕ)
    → unsigned_abs (slice_index_or p i no_term).coefficient ≤ size_of p
coefficient-size [] i = omega arith
coefficient-size (t ∷ p) zero = omega arith
coefficient-size (t ∷ p) (suc i) = let e = coefficient-size p i in omega arith
