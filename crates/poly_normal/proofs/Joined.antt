-- A polynomial whose monomials rise has each monomial once, so its list of terms says what it is.
use Rattle.std.specs.Prelude.{◌≡◌, ◌≢◌, ◌↔◌, ℕ, ℤ, pos, ◌+ℤ◌, ◌+◌, ◌*◌, Bool, true, false, not}
use Rattle.std.specs.Prelude.{◌||◌, ◌&&◌, ◌==◌, if◌then◌else◌, List, [], ◌∷◌, map, filter, length}
use Rattle.std.specs.Prelude.{unsigned_abs, refl}
use Rattle.std.specs.List.{IsDistinct, AllByRecursion}
use Rattle.std.specs.Cmp.{IsEquivalence}
use Rattle.std.specs.Set.{is_member}
use Rattle.std.specs.Ordering.{ordering_reverse}
use Rattle.std.specs.declared.cmp.Ordering.{Ordering}
use Rattle.std.specs.declared.cmp.Ordering.TheVariants.{Less, Equal, Greater}
use Rattle.std.proofs.Common.{arith, sym, ap, ◌∙◌, suc, subst}
use Rattle.std.proofs.lemmas.Bool.{eqb-true, false≢true}
use Rattle.std.proofs.lemmas.Cmp.{nat_list_cmp_total}
use Rattle.std.proofs.lemmas.Int.{ints}
use Rattle.std.proofs.lemmas.Map.Made.{length-from_keys, is_member-filter}
use Rattle.std.specs.Bool.{Decides}
use Rattle.std.proofs.Math.IntN.{+ℤ_idl, +ℤ_idr}
use Rattle.poly_normal.specs.Polynomial.{Monomial, same_monomial, Term, Polynomial, coefficient_of}
use Rattle.poly_normal.specs.Polynomial.{IsEqual, occurs, term_count}
use Rattle.poly_normal.specs.Rows.{rows, IsBefore, IsRising}
use Rattle.poly_normal.proofs.FlatRows.{rows_same}
use Rattle.poly_normal.proofs.Values.{same_monomial-self, same_monomial-true}
use Rattle.poly_normal.proofs.Merge.{order, same_from_order, before-weaker, turned}

-- ---- the test of monomials

same_of : (l m : Monomial) → l ≡ m → same_monomial l m ≡ true
same_of l m e = subst (λ x. same_monomial l x ≡ true) e (same_monomial-self l)

apart_of : (l m : Monomial) → ¬ (l ≡ m) → same_monomial l m ≡ false
apart_of l m h = by (same_monomial l m) refl
  where
    by : (b : Bool) → same_monomial l m ≡ b → b ≡ false
    by true e = absurd (h (same_monomial-true l m e))
    by false e = refl

pub not_before_itself : (m : Monomial) → ¬ (order m m ≡ Less)
not_before_itself m e = let turn : Less ≡ Greater =
    sym e ∙ nat_list_cmp_total.antisymm m m ∙ ap ordering_reverse e in cc

apart_from_order : (l m : Monomial) → order l m ≡ Less → ¬ (m ≡ l)
apart_from_order l m h e = not_before_itself l (ap (order l) (sym e) ∙ h)

same_monomial_laws : IsEquivalence same_monomial
same_monomial_laws = record {
  refl = same_monomial-self;
  symm = symmetric;
  congr = λ x y z e. ap (λ l. same_monomial l z) (same_monomial-true x y e);
}
  where
    symmetric : (x y : Monomial) → same_monomial x y ≡ same_monomial y x
    symmetric x y = by (same_monomial x y) refl
      where
        by : (b : Bool) → same_monomial x y ≡ b → b ≡ same_monomial y x
        by true e = sym (same_of y x (sym (same_monomial-true x y e)))
        by false e = sym (apart_of y x (λ k. false≢true (sym e ∙ same_of x y (sym k))))

-- ---- coefficients of a rising polynomial

coefficient-other : (t : Term) (p : Polynomial) (m : Monomial) → ¬ (t.monomial ≡ m)
    → coefficient_of (t ∷ p) m ≡ coefficient_of p m
coefficient-other t p m h =
    ap (λ b. (if b then t.coefficient else pos 0) +ℤ coefficient_of p m) (apart_of t.monomial m h)
    ∙ +ℤ_idl (coefficient_of p m)

coefficient-before : (m : Monomial) (p : Polynomial) → IsBefore m p → coefficient_of p m ≡ pos 0
coefficient-before m [] b = refl
coefficient-before m (t ∷ p) b = coefficient-other t p m (apart_from_order m t.monomial b.0)
    ∙ coefficient-before m p b.1

coefficient-first : (t : Term) (p : Polynomial) → IsBefore t.monomial p
    → coefficient_of (t ∷ p) t.monomial ≡ t.coefficient
coefficient-first t p b = ap (λ x. (if x then t.coefficient else pos 0)
    +ℤ coefficient_of p t.monomial) (same_monomial-self t.monomial)
    ∙ ap (λ z. t.coefficient +ℤ z) (coefficient-before t.monomial p b) ∙ +ℤ_idr t.coefficient

-- ---- two rising polynomials are equal only where their terms are
pub same_term : (s t : Term) → s.coefficient ≡ t.coefficient → s.monomial ≡ t.monomial → s ≡ t
same_term s t e f = let g : Term = record { coefficient = t.coefficient; monomial = s.monomial } in
    let one : s ≡ g =
    ap (λ x. let r : Term = record { coefficient = x; monomial = s.monomial } in r) e in
    let two : g ≡ t = ap (λ x.
    let r : Term = record { coefficient = t.coefficient; monomial = x } in r) f in one ∙ two

rest_equal : (s t : Term) (p q : Polynomial) → IsBefore s.monomial p → IsBefore t.monomial q
    → s.monomial ≡ t.monomial → IsEqual (s ∷ p) (t ∷ q) → IsEqual p q
rest_equal s t p q b c f e m = by (same_monomial s.monomial m) refl
  where
    by : (x : Bool) → same_monomial s.monomial m ≡ x → coefficient_of p m ≡ coefficient_of q m
    by true h = let g : s.monomial ≡ m = same_monomial-true s.monomial m h in
        coefficient-before m p (subst (λ l. IsBefore l p) g b)
        ∙ sym (coefficient-before m q (subst (λ l. IsBefore l q) (sym f ∙ g) c))
    by false h =
        let n : ¬ (s.monomial ≡ m) = (λ g. false≢true (sym h ∙ same_of s.monomial m g)) in
        sym (coefficient-other s p m n) ∙ e m ∙ coefficient-other t q m (λ g. n (f ∙ g))

pub same_from_equal : (p q : Polynomial) → IsRising p → IsRising q → IsEqual p q → p ≡ q
same_from_equal [] [] a b e = refl
same_from_equal [] (t ∷ q) a b e =
    absurd (b.0 (sym (coefficient-first t q b.1) ∙ sym (e t.monomial)))
same_from_equal (s ∷ p) [] a b e = absurd (a.0 (sym (coefficient-first s p a.1) ∙ e s.monomial))
same_from_equal (s ∷ p) (t ∷ q) a b e =
    by (order s.monomial t.monomial) refl (same_from_equal p q a.2 b.2)
  where
    by : (o : Ordering) → order s.monomial t.monomial ≡ o
        → (IsEqual p q → p ≡ q) → (s ∷ p) ≡ (t ∷ q)
    by Less h rest = absurd (a.0 (sym (coefficient-first s p a.1) ∙ e s.monomial
        ∙ coefficient-before s.monomial (t ∷ q) (h, before-weaker s.monomial t.monomial h q b.1)))
    by Greater h rest =
        let k : order t.monomial s.monomial ≡ Less = turned s.monomial t.monomial h in
        absurd (b.0 (sym (coefficient-first t q b.1) ∙ sym (e t.monomial)
        ∙ coefficient-before t.monomial (s ∷ p) (k, before-weaker t.monomial s.monomial k p a.1)))
    by Equal h rest =
        let m : s.monomial ≡ t.monomial = same_from_order s.monomial t.monomial h in
        let c : s.coefficient ≡ t.coefficient = sym (coefficient-first s p a.1) ∙ e s.monomial
        ∙ ap (coefficient_of (t ∷ q)) m ∙ coefficient-first t q b.1 in
        ap (λ x. x ∷ p) (same_term s t c m)
        ∙ ap (λ x. t ∷ x) (rest (rest_equal s t p q a.1 b.1 m e))

-- ---- the number of terms
occurs_of : (p : Polynomial) (m : Monomial) (z : ℤ) → coefficient_of p m ≡ z
    → occurs p m ≡ not (unsigned_abs z == 0)
occurs_of p m z e = ap (λ x. not (unsigned_abs x == 0)) e

not_zero_occurs : (z : ℤ) → z ≢ pos 0 → not (unsigned_abs z == 0) ≡ true
not_zero_occurs z h = by (unsigned_abs z == 0) refl
  where
    by : (b : Bool) → (unsigned_abs z == 0) ≡ b → not b ≡ true
    by true e = absurd (h (let k : unsigned_abs z ≡ 0 = eqb-true (unsigned_abs z) 0 e in
        omega (arith, ints)))
    by false e = refl

absent : (m : Monomial) (p : Polynomial) → IsBefore m p
    → AllByRecursion (λ y. same_monomial m y ≡ false) (map (λ t. t.monomial) p)
absent m [] b = tt
absent m (t ∷ p) b =
    (apart_of m t.monomial (λ e. apart_from_order m t.monomial b.0 (sym e)), absent m p b.1)

distinct : (p : Polynomial) → IsRising p → IsDistinct same_monomial (map (λ t. t.monomial) p)
unfolding IsDistinct
distinct [] r = tt
distinct (t ∷ p) r = (absent t.monomial p r.1, distinct p r.2)

-- a rising polynomial has exactly the monomials that occur in it
member_is_occurs : (p : Polynomial) → IsRising p → (m : Monomial)
    → is_member same_monomial (map (λ t. t.monomial) p) m ≡ occurs p m
member_is_occurs [] r m = refl
member_is_occurs (t ∷ p) r m = by (same_monomial m t.monomial) refl (member_is_occurs p r.2 m)
  where
    by : (b : Bool) → same_monomial m t.monomial ≡ b
        → is_member same_monomial (map (λ t. t.monomial) p) m ≡ occurs p m
        → (b || is_member same_monomial (map (λ t. t.monomial) p) m) ≡ occurs (t ∷ p) m
    by true e rest = let g : m ≡ t.monomial = same_monomial-true m t.monomial e in
        sym (occurs_of (t ∷ p) m t.coefficient (ap (coefficient_of (t ∷ p)) g
        ∙ coefficient-first t p r.1) ∙ not_zero_occurs t.coefficient r.0)
    by false e rest = rest ∙ sym (occurs_of (t ∷ p) m (coefficient_of p m)
        (coefficient-other t p m (λ g. false≢true (sym e ∙ same_of m t.monomial (sym g)))))

-- what occurs is a monomial of some term
occurs-absent : (p : Polynomial) (m : Monomial)
    → is_member same_monomial (map (λ t. t.monomial) p) m ≡ false → coefficient_of p m ≡ pos 0
occurs-absent [] m h = refl
occurs-absent (t ∷ p) m h = coefficient-other t p m (λ g.
    false≢true (sym (or_left (same_monomial m t.monomial) _ h) ∙ same_of m t.monomial (sym g)))
    ∙ occurs-absent p m (or_right (same_monomial m t.monomial) _ h)
  where
    or_left : (b c : Bool) → (b || c) ≡ false → b ≡ false
    or_left true c h = absurd (false≢true (sym h))
    or_left false c h = refl

    or_right : (b c : Bool) → (b || c) ≡ false → c ≡ false
    or_right true c h = absurd (false≢true (sym h))
    or_right false c h = h

filtered : (p : Polynomial) (m : Monomial)
    → is_member same_monomial (filter (occurs p) (map (λ t. t.monomial) p)) m ≡ occurs p m
filtered p m = is_member-filter same_monomial_laws
    (occurs p) m (λ x e. ap (occurs p) (same_monomial-true m x e)) (map (λ t. t.monomial) p)
    ∙ by (is_member same_monomial (map (λ t. t.monomial) p) m) refl
  where
    by : (b : Bool) → is_member same_monomial (map (λ t. t.monomial) p) m ≡ b
        → (b && occurs p m) ≡ occurs p m
    by true e = refl
    by false e = sym (occurs_of p m (pos 0) (occurs-absent p m e))

-- Like terms are joined: the number of terms of what a rising polynomial is equal to is its length.
pub term_count-rising : (p s : Polynomial) → IsRising p → IsEqual p s → length p ≡ term_count s
term_count-rising p s r e = sym (length-map-here (λ t. t.monomial) p)
    ∙ length-from_keys same_monomial_laws (map (λ t. t.monomial) p)
    (filter (occurs s) (map (λ t. t.monomial) s)) (distinct p r)
    (λ m. member_is_occurs p r m ∙ ap (λ z. not (unsigned_abs z == 0)) (e m) ∙ sym (filtered s m))
  where
    length-map-here : (f : Term → Monomial) (p : Polynomial) → length (map f p) ≡ length p
    length-map-here f [] = refl
    length-map-here f (t ∷ p) = ap suc (length-map-here f p)

-- ---- the flat lists of two rising polynomials are equal exactly where the polynomials are
module _ (v w : ℕ) (cs ds : List ℤ) (ps qs : List ℕ)
    (widths : v ≡ w) (left : length ps ≡ length cs * v) (right : length qs ≡ length ds * w)
    (p : IsRising (rows v cs ps)) (q : IsRising (rows w ds qs)) where
  flat_same : IsEqual (rows v cs ps) (rows w ds qs) → (cs ≡ ds) × (ps ≡ qs)
  flat_same e = rows_same v cs ds ps qs left (right ∙ ap (λ n. length ds * n) (sym widths))
      (same_from_equal _ _ p q e ∙ ap (λ n. rows n ds qs) (sym widths))

  pub equal_powers : cs ≡ ds → (b : Bool) → Decides b (ps ≡ qs)
      → b ≡ true ↔ IsEqual (rows v cs ps) (rows w ds qs)
  equal_powers c b d = (
    (λ t m. ap (λ r. coefficient_of r m)
        (ap (λ x. rows v x ps) c ∙ ap (rows v ds) (d.0 t) ∙ ap (λ n. rows n ds qs) widths)),
    (λ e. d.1 (flat_same e).1),
  )

  pub other_coefficients : (b : Bool) → b ≡ false → Decides b (cs ≡ ds)
      → b ≡ true ↔ IsEqual (rows v cs ps) (rows w ds qs)
  other_coefficients b f d =
      ((λ t. absurd (false≢true (sym f ∙ t))), (λ e. d.1 (flat_same e).0))
