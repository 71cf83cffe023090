-- Joined polynomials with their weights and degrees: sums, negations, products, whole numbers and
-- atoms; the limits.
use Rattle.std.specs.Prelude.{◌≡◌, ℕ, ℤ, pos, negsuc, neg_ℤ, ◌+ℤ◌, ◌+◌, ◌*◌, ◌≤◌, ◌<◌, max}
use Rattle.std.specs.Prelude.{unsigned_abs, Option, Some, None, [], ◌∷◌, ◌++◌, length, replicate}
use Rattle.std.specs.Prelude.{slice_set, refl}
use Rattle.std.specs.List.{AllByRecursion}
use Rattle.std.proofs.Common.{arith, sym, ap, ◌∙◌, zero, suc, subst, inr}
use Rattle.std.proofs.lemmas.Int.{ints}
use Rattle.std.proofs.Math.Nat.{mul-le-mul}
use Rattle.poly_normal.specs.Polynomial.{Monomial, Polynomial, coefficient_of, IsEqual, negation}
use Rattle.poly_normal.specs.Polynomial.{product}
use Rattle.poly_normal.specs.Rows.{with_term, IsBefore, IsRising, size_of, IsRow, AllRows, IsJoined}
use Rattle.poly_normal.specs.Rows.{IsSumOf, IsProductOf}
use Rattle.poly_normal.specs.Form.{Side}
use Rattle.poly_normal.specs.TermsOf.{polynomial_of}
use Rattle.poly_normal.specs.Places.{zero_row, unit_row}
use Rattle.poly_normal.specs.Limited.{IsLimited, IsWithin}
use Rattle.poly_normal.specs.declared.terms.Terms.{Terms}
use Rattle.poly_normal.specs.declared.limited.Limited.{Limited}
use Rattle.poly_normal.proofs.Merge.{with_term-rising, with_term-all, with_term-size}
use Rattle.poly_normal.proofs.Merge.{with_term-coefficient}
use Rattle.poly_normal.proofs.Joined.{term_count-rising}
use Rattle.poly_normal.proofs.Likes.{coefficient_of-append}

-- ---- rows with smaller powers
powers_weaker : (d e : ℕ) → d ≤ e → (m : Monomial) → AllByRecursion (λ k. k ≤ d) m
    → AllByRecursion (λ k. k ≤ e) m
powers_weaker d e h [] a = a
powers_weaker d e h (k ∷ m) a = (le_trans_here k d e a.0 h, powers_weaker d e h m a.1)
  where
    le_trans_here : (a b c : ℕ) → a ≤ b → b ≤ c → a ≤ c
    le_trans_here a b c h k = omega arith

pub rows_weaker : (v w d e : ℕ) → v ≡ w → d ≤ e → (p : Polynomial) → AllRows v d p → AllRows w e p
rows_weaker v w d e s h [] a = a
rows_weaker v w d e s h (t ∷ p) a =
    ((a.0.0 ∙ s, powers_weaker d e h t.monomial a.0.1), rows_weaker v w d e s h p a.1)

pub weights_room : (a b x y l : ℕ) → a ≤ x → b ≤ y → x * y < l → a * b < l
weights_room a b x y l h k r = let m = mul-le-mul h k in omega arith

-- ---- products, sums, negations
pub product_joined : (w v d e x y : ℕ) (p q r : Polynomial) → v ≡ w → IsJoined w d x p
    → IsJoined v e y q → IsProductOf w p q r → IsJoined w (d + e) (x * y) r
product_joined w v d e x y p q r s a b h = record {
  rising = h.rising a.rising b.rising;
  rows = h.rows d e a.rows (rows_weaker v w e e s (omega arith) q b.rows);
  size = size_within (size_of r) (size_of p) (size_of q) x y h.size a.size b.size;
}
  where
    size_within : (c a b x y : ℕ) → c ≤ a * b → a ≤ x → b ≤ y → c ≤ x * y
    size_within c a b x y h k l = let m = mul-le-mul k l in omega arith

pub sum_joined : (w v d e x y : ℕ) (p q r : Polynomial) → v ≡ w → IsJoined w d x p
    → IsJoined v e y q → IsSumOf p q r → IsJoined w (max d e) (x + y) r
sum_joined w v d e x y p q r s a b h = record {
  rising = h.rising a.rising b.rising;
  rows = h.rows w (max d e) (rows_weaker w w d (max d e) refl (omega arith) p a.rows)
      (rows_weaker v w e (max d e) s (omega arith) q b.rows);
  size = let k = h.size in let l = a.size in let m = b.size in omega arith;
}

-- the same with equal numbers
pub joined_as : (v w c d x y : ℕ) (p : Polynomial) → v ≡ w → c ≡ d → x ≡ y
    → IsJoined w d y p → IsJoined v c x p
joined_as v w c d x y p e f g j = subst (λ u. IsJoined u c x p) (sym e)
    (subst (λ u. IsJoined w u x p) (sym f) (subst (λ u. IsJoined w d u p) (sym g) j))

-- two products within their weights
pub products_room : (a b x y c p q r s u v : ℕ) → x ≤ p * q → p ≤ a → q ≤ b → y ≤ r * s → r ≤ u
    → s ≤ v → a * b + u * v < c → x + y < c
products_room a b x y c p q r s u v h i j k l m n = let e = mul-le-mul i j in
    let f = mul-le-mul l m in omega arith

negation-before : (m : Monomial) (p : Polynomial) → IsBefore m p → IsBefore m (negation p)
negation-before m [] b = b
negation-before m (t ∷ p) b = (b.0, negation-before m p b.1)

negation-rising : (p : Polynomial) → IsRising p → IsRising (negation p)
negation-rising [] r = r
negation-rising (t ∷ p) r = (
  (λ e. r.0 (from_opposite t.coefficient e)),
  negation-before t.monomial p r.1,
  negation-rising p r.2,
)
  where
    from_opposite : (z : ℤ) → neg_ℤ z ≡ pos 0 → z ≡ pos 0
    from_opposite z e = omega (arith, ints)

negation-rows : (w d : ℕ) (p : Polynomial) → AllRows w d p → AllRows w d (negation p)
negation-rows w d [] a = a
negation-rows w d (t ∷ p) a = (a.0, negation-rows w d p a.1)

negation-size : (p : Polynomial) → size_of (negation p) ≡ size_of p
negation-size [] = refl
negation-size (t ∷ p) =
    let e : unsigned_abs (neg_ℤ t.coefficient) ≡ unsigned_abs t.coefficient = omega (arith, ints) in
    ap (λ n. n + size_of (negation p)) e
    ∙ ap (λ n. unsigned_abs t.coefficient + n) (negation-size p)

pub negation-length : (p : Polynomial) → length (negation p) ≡ length p
negation-length [] = refl
negation-length (t ∷ p) = ap suc (negation-length p)

pub negation_joined : (v w d x : ℕ) (p q : Polynomial) → v ≡ w → q ≡ negation p
    → IsJoined w d x p → IsJoined v d x q
negation_joined v w d x p q e f j = subst (λ r. IsJoined v d x r) (sym f)
    (subst (λ u. IsJoined u d x (negation p)) (sym e) (record {
      rising = negation-rising p j.rising;
      rows = negation-rows w d p j.rows;
      size = subst (λ n. n ≤ x) (sym (negation-size p)) j.size;
    }))

pub same_joined : (v w d x : ℕ) (p q : Polynomial) → v ≡ w → q ≡ p
    → IsJoined w d x p → IsJoined v d x q
same_joined v w d x p q e f j =
    subst (λ r. IsJoined v d x r) (sym f) (subst (λ u. IsJoined u d x p) (sym e) j)

-- ---- whole numbers and atoms
zeros_small : (w d : ℕ) → AllByRecursion (λ k. k ≤ d) (replicate w 0)
zeros_small zero d = tt
zeros_small (suc w) d = (omega arith, zeros_small w d)

pub length-zeros : (w : ℕ) → length {A = ℕ} (replicate w 0) ≡ w
length-zeros zero = refl
length-zeros (suc w) = ap suc (length-zeros w)

pub constant_joined : (w v n : ℕ) (z : ℤ) (row : Monomial) (p : Polynomial) → v ≡ w → z ≡ pos n
    → row ≡ zero_row w → p ≡ with_term z row [] → IsJoined v 0 n p
constant_joined w v n z row p s e f g = subst (λ u. IsJoined u 0 n p) (sym s)
    (subst (λ q. IsJoined w 0 n q) (sym (g ∙ ap (λ r. with_term z r []) f)) (record {
      rising = with_term-rising z (zero_row w) [] tt tt;
      rows = with_term-all (IsRow w 0) z (zero_row w) [] (length-zeros w, zeros_small w 0) tt;
      size = let k = with_term-size z (zero_row w) [] in omega (arith, ints);
    }))

pub constant_equal : (z : ℤ) (n : ℕ) (row : Monomial) (w : ℕ) (p : Polynomial)
    → z ≡ pos n → row ≡ zero_row w → p ≡ with_term z row []
    → IsEqual p (record { coefficient = pos n; monomial = zero_row w } ∷ [])
constant_equal z n row w p e f g m =
    ap (λ q. coefficient_of q m) (g ∙ ap (λ x. with_term x row []) e
    ∙ ap (λ r. with_term (pos n) r []) f) ∙ with_term-coefficient (pos n) (zero_row w) [] m

pub constant_few : (z : ℤ) (row : Monomial) (p : Polynomial)
    → p ≡ with_term z row [] → length p ≤ 256
constant_few z row p e = subst (λ q. length q ≤ 256) (sym e) (by z)
  where
    by : (z : ℤ) → length (with_term z row []) ≤ 256
    by (pos zero) = omega arith
    by (pos (suc n)) = omega arith
    by (negsuc n) = omega arith

units_small : (w place : ℕ) → AllByRecursion (λ k. k ≤ 1) (slice_set (replicate w 0) place 1)
units_small zero place = tt
units_small (suc w) zero = (omega arith, zeros_small w 1)
units_small (suc w) (suc place) = (omega arith, units_small w place)

pub length-unit : (w place : ℕ) → length {A = ℕ} (slice_set (replicate w 0) place 1) ≡ w
length-unit zero place = refl
length-unit (suc w) zero = ap suc (length-zeros w)
length-unit (suc w) (suc place) = ap suc (length-unit w place)

pub atom_joined : (w v place : ℕ) (row : Monomial) (p : Polynomial) → v ≡ w → row ≡ unit_row w place
    → p ≡ record { coefficient = pos 1; monomial = row } ∷ [] → IsJoined v 1 1 p
atom_joined w v place row p s f g =
    subst (λ u. IsJoined u 1 1 p) (sym s) (subst (λ q. IsJoined w 1 1 q)
    (sym (g ∙ ap (λ r. record { coefficient = pos 1; monomial = r } ∷ []) f)) (record {
      rising = ((λ e. let k : pos 1 ≡ pos 0 = e in absurd (omega (arith, ints))), tt, tt);
      rows = ((length-unit w place, units_small w place), tt);
      size = omega arith;
    }))

pub atom_equal : (w place : ℕ) (row : Monomial) (p : Polynomial)
    → row ≡ unit_row w place → p ≡ record { coefficient = pos 1; monomial = row } ∷ []
    → IsEqual p (record { coefficient = pos 1; monomial = unit_row w place } ∷ [])
atom_equal w place row p f g m =
    ap (λ q. coefficient_of q m) (g ∙ ap (λ r. record { coefficient = pos 1; monomial = r } ∷ []) f)

-- ---- the limits
pub limited : (w degree weight : ℕ) (terms : Terms) (s : Side) (o : Option Limited)
    → terms.width ≡ w → IsRising (polynomial_of terms) → IsEqual (polynomial_of terms) s.polynomial
    → weight ≡ s.weight → degree ≡ s.degree → IsWithin terms weight degree o → IsLimited w s o
limited w degree weight terms s None v r e f g h =
    inr (inr (subst (λ n. 256 < n) (term_count-rising (polynomial_of terms) s.polynomial r e) h))
limited w degree weight terms s (Some l) v r e f g h = (
  h.0 ∙ v,
  record {
    equal = λ m. ap (λ p. coefficient_of p m) h.1 ∙ e m;
    weight = h.2 ∙ f;
    degree = h.3 ∙ g;
  },
)

pub sum_of_products : (p q r s left right whole : Polynomial)
    → ((m : Monomial) → coefficient_of left m ≡ coefficient_of (product p q) m)
    → ((m : Monomial) → coefficient_of right m ≡ coefficient_of (product r s) m)
    → ((m : Monomial) → coefficient_of whole m ≡ coefficient_of left m +ℤ coefficient_of right m)
    → IsEqual whole (product p q ++ product r s)
sum_of_products p q r s left right whole a b c m = c m ∙ ap (λ z. z +ℤ coefficient_of right m) (a m)
    ∙ ap (λ z. coefficient_of (product p q) m +ℤ z) (b m)
    ∙ sym (coefficient_of-append (product p q) (product r s) m)
