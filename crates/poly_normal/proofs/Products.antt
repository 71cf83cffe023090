-- A product, row by row and half by half.
use mir.Syntax.{w128}
use Rattle.std.specs.Prelude.{◌≡◌, ◌≢◌, ℕ, ℤ, pos, negsuc, neg_ℤ, ◌+ℤ◌, ◌*ℤ◌, ◌+◌, ◌-◌, ◌*◌, ◌≤◌}
use Rattle.std.specs.Prelude.{◌<◌, [], ◌∷◌, ◌++◌, map, take, drop, length, slice_index_or}
use Rattle.std.specs.Prelude.{slice_range, FitsSigned, ◌^◌, unsigned_abs, refl}
use Rattle.std.specs.List.{AllByRecursion}
use Rattle.std.specs.Cmp.{ranks, nat_cmp_is}
use Rattle.std.specs.Ordering.{nat_cmp, ordering_then, MatchOrdering}
use Rattle.std.specs.declared.cmp.Ordering.{Ordering}
use Rattle.std.specs.declared.cmp.Ordering.TheVariants.{Less, Equal, Greater}
use Rattle.std.proofs.Common.{arith, sym, ap, ◌∙◌, zero, suc, subst, append_assoc, drop-cons}
use Rattle.std.proofs.lemmas.List.{append-nil, drop-drop, take-append-drop}
use Rattle.std.proofs.Math.Seq.{take-add}
use Rattle.std.proofs.lemmas.Int.{unsigned_abs-mul, fits_signed_from_abs}
use Rattle.std.proofs.Math.Nat.{mul-pos, mul-le-mul_right, mul-le-mul}
use Rattle.poly_normal.specs.Polynomial.{Monomial, monomial_product, Term, Polynomial}
use Rattle.poly_normal.specs.Polynomial.{coefficient_of, term_product, product}
use Rattle.poly_normal.specs.Rows.{IsBefore, IsRising, size_of, no_term, IsRow, AllRows, IsSumOf}
use Rattle.poly_normal.specs.Rows.{IsProductOf}
use Rattle.poly_normal.proofs.Likes.{coefficient_of-append}
use Rattle.poly_normal.proofs.Merge.{order, coefficient-size}

-- one more term of a list that is mapped
pub step_map : (f : Term → Term) (p done next whole : Polynomial) (i : ℕ) (t : Term)
    → i < length p → t ≡ f (slice_index_or p i no_term) → next ≡ done ++ (t ∷ [])
    → done ++ map f (drop i p) ≡ whole → next ++ map f (drop (i + 1) p) ≡ whole
step_map f p done next whole i t h e n w = let after : suc i ≡ i + 1 = omega arith in
    ap (λ x. x ++ map f (drop (i + 1) p)) (n ∙ ap (λ x. done ++ (x ∷ [])) e)
    ∙ append_assoc done (f (slice_index_or p i no_term) ∷ []) (map f (drop (i + 1) p))
    ∙ ap (λ x. done ++ x) (ap (λ k. f (slice_index_or p i no_term) ∷ map f (drop k p)) (sym after)
    ∙ sym (ap (map f) (drop-cons p i no_term h))) ∙ w

-- ---- a common factor keeps the order of monomials
shifted : (j x y : ℕ) (o : Ordering) → MatchOrdering o (x < y) (x ≡ y) (y < x)
    → MatchOrdering o (j + x < j + y) (j + x ≡ j + y) (j + y < j + x)
shifted j x y Less h = omega arith
shifted j x y Equal h = omega arith
shifted j x y Greater h = omega arith

order-product : (l a b : Monomial) → length a ≡ length l → length b ≡ length l
    → order (monomial_product l a) (monomial_product l b) ≡ order a b
order-product [] a b e f = refl
order-product (j ∷ l) [] b e f = absurd (omega arith)
order-product (j ∷ l) (x ∷ a) [] e f = absurd (omega arith)
order-product (j ∷ l) (x ∷ a) (y ∷ b) e f =
    ap (λ o. ordering_then o (order (monomial_product l a) (monomial_product l b)))
    (sym (nat_cmp_is (j + x) (j + y) (nat_cmp x y) (shifted j x y (nat_cmp x y) (ranks x y))))
    ∙ ap (ordering_then (nat_cmp x y)) (order-product l a b (omega arith) (omega arith))

row-product : (w d e : ℕ) (l m : Monomial) → IsRow w d l → IsRow w e m
    → IsRow w (d + e) (monomial_product l m)
row-product w d e [] m h k = (k.0, larger m k.1)
  where
    larger : (m : Monomial) → AllByRecursion (λ k. k ≤ e) m → AllByRecursion (λ k. k ≤ d + e) m
    larger [] a = a
    larger (x ∷ m) a = (let b : x ≤ e = a.0 in omega arith, larger m a.1)
row-product w d e (j ∷ l) [] h k = let a : length (j ∷ l) ≡ w = h.0 in
    let b : 0 ≡ w = k.0 in absurd (omega arith)
row-product w d e (j ∷ l) (x ∷ m) h k =
    let a : suc (length l) ≡ w = h.0 in let b : suc (length m) ≡ w = k.0 in
    let r = row-product (length l) d e l m (refl, h.1.1) (omega arith, k.1.1) in
    let n : length (monomial_product l m) ≡ length l = r.0 in
    let first : j ≤ d = h.1.0 in let other : x ≤ e = k.1.0 in (omega arith, (omega arith, r.1))

-- ---- one term times a polynomial
size_of-row : (t : Term) (q : Polynomial)
    → size_of (map (term_product t) q) ≡ unsigned_abs t.coefficient * size_of q
size_of-row t [] = omega arith
size_of-row t (s ∷ q) = let h = size_of-row t q in
    let e = unsigned_abs-mul t.coefficient s.coefficient in omega arith

not_zero : (c : ℤ) → c ≢ pos 0 → 0 < unsigned_abs c
not_zero (pos zero) h = absurd (h refl)
not_zero (pos (suc n)) h = omega arith
not_zero (negsuc n) h = omega arith

product_not_zero : (c d : ℤ) → c ≢ pos 0 → d ≢ pos 0 → (c *ℤ d) ≢ pos 0
product_not_zero c d h k e = let a = mul-pos (not_zero c h) (not_zero d k) in
    let b = unsigned_abs-mul c d in
    let z : unsigned_abs (c *ℤ d) ≡ 0 = ap unsigned_abs e in absurd (omega arith)

before-row : (w d e : ℕ) (t s : Term) (q : Polynomial)
    → IsRow w d t.monomial → IsRow w e s.monomial → AllRows w e q → IsBefore s.monomial q
    → IsBefore (monomial_product t.monomial s.monomial) (map (term_product t) q)
before-row w d e t s [] a b c h = h
before-row w d e t s (u ∷ q) a b c h = (
  order-product t.monomial s.monomial u.monomial (b.0 ∙ sym a.0) (c.0.0 ∙ sym a.0) ∙ h.0,
  before-row w d e t s q a b c.1 h.1,
)

rising-row : (w d e : ℕ) (t : Term) (q : Polynomial) → t.coefficient ≢ pos 0 → IsRow w d t.monomial
    → AllRows w e q → IsRising q → IsRising (map (term_product t) q)
rising-row w d e t [] n a b h = h
rising-row w d e t (s ∷ q) n a b h = (
  product_not_zero t.coefficient s.coefficient n h.0,
  before-row w d e t s q a b.0 b.1 h.1,
  rising-row w d e t q n a b.1 h.2,
)

rows-row : (w d e : ℕ) (t : Term) (q : Polynomial) → IsRow w d t.monomial → AllRows w e q
    → AllRows w (d + e) (map (term_product t) q)
rows-row w d e t [] a b = b
rows-row w d e t (s ∷ q) a b =
    (row-product w d e t.monomial s.monomial a b.0, rows-row w d e t q a b.1)

pub row_is_product : (w d e : ℕ) (t : Term) (q : Polynomial) → IsRow w d t.monomial → AllRows w e q
    → IsProductOf w (t ∷ []) q (map (term_product t) q)
row_is_product w d e t q a b = record {
  coefficients = λ m. ap (λ p. coefficient_of p m) (sym (append-nil (map (term_product t) q)));
  size = let s = size_of-row t q in omega arith;
  rising = λ h k. rising-row w d e t q h.0 a b k;
  rows = λ x y h k. rows-row w x y t q h.0 k;
}

pub empty_is_product : (w : ℕ) (q : Polynomial) → IsProductOf w [] q []
empty_is_product w q =
    record { coefficients = λ m. refl; size = omega arith; rising = λ h k. h; rows = λ x y h k. h }

-- ---- two parts of one factor
product-append : (a b q : Polynomial) → product (a ++ b) q ≡ product a q ++ product b q
product-append [] b q = refl
product-append (t ∷ a) b q = ap (λ x. map (term_product t) q ++ x) (product-append a b q)
    ∙ sym (append_assoc (map (term_product t) q) (product a q) (product b q))

pub size_of-append : (a b : Polynomial) → size_of (a ++ b) ≡ size_of a + size_of b
size_of-append [] b = omega arith
size_of-append (t ∷ a) b = let h = size_of-append a b in omega arith

all-append : (P : Term → Type 0) (a b : Polynomial) → AllByRecursion P (a ++ b)
    → AllByRecursion P a × AllByRecursion P b
all-append P [] b h = (tt, h)
all-append P (t ∷ a) b h = let r = all-append P a b h.1 in ((h.0, r.0), r.1)

rising-append : (a b : Polynomial) → IsRising (a ++ b) → IsRising a × IsRising b
rising-append [] b h = (tt, h)
rising-append (t ∷ a) b h = let r = rising-append a b h.2 in let before = all-append _ a b h.1 in
    ((h.0, before.0, r.0), r.1)

pub sum_of_products : (w : ℕ) (a b q x y r : Polynomial) → IsProductOf w a q x → IsProductOf w b q y
    → IsSumOf x y r → IsProductOf w (a ++ b) q r
sum_of_products w a b q x y r f g s = record {
  coefficients = λ m. s.coefficients m ∙ ap (λ z. z +ℤ coefficient_of y m) (f.coefficients m)
      ∙ ap (λ z. coefficient_of (product a q) m +ℤ z) (g.coefficients m)
      ∙ sym (coefficient_of-append (product a q) (product b q) m)
      ∙ sym (ap (λ p. coefficient_of p m) (product-append a b q));
  size = let e = f.size in let k = g.size in let n = s.size in
      let u = ap (λ z. z * size_of q) (size_of-append a b) in omega arith;
  rising = λ h k. let c = rising-append a b h in s.rising (f.rising c.0 k) (g.rising c.1 k);
  rows = λ d e h k. let c = all-append _ a b h in
      s.rows w (d + e) (f.rows d e c.0 k) (g.rows d e c.1 k);
}

-- ---- parts of a list
size_of-take : (n : ℕ) (p : Polynomial) → size_of (take n p) ≤ size_of p
size_of-take n p = let whole = size_of-append (take n p) (drop n p) in
    let same = ap size_of (take-append-drop n p) in omega arith

size_of-drop : (n : ℕ) (p : Polynomial) → size_of (drop n p) ≤ size_of p
size_of-drop n p = let whole = size_of-append (take n p) (drop n p) in
    let same = ap size_of (take-append-drop n p) in omega arith

pub range-split : (p : Polynomial) (low middle high : ℕ) → low ≤ middle → middle ≤ high
    → slice_range p low high ≡ slice_range p low middle ++ slice_range p middle high
range-split p low middle high h k =
    let whole : high - low ≡ (middle - low) + (high - middle) = omega arith in
    let at : low + (middle - low) ≡ middle = omega arith in
    ap (λ n. take n (drop low p)) whole ∙ take-add (middle - low) (high - middle) (drop low p)
    ∙ ap (λ x. take (middle - low) (drop low p) ++ take (high - middle) x)
    (drop-drop (middle - low) low p ∙ ap (λ n. drop n p) at)

pub range-one : (p : Polynomial) (low high : ℕ) → high - low ≡ 1 → low < length p
    → slice_range p low high ≡ slice_index_or p low no_term ∷ []
range-one p low high e h = ap (λ n. take n (drop low p)) e ∙ ap (take 1) (drop-cons p low no_term h)

pub range-size : (p : Polynomial) (low middle high : ℕ) → low ≤ middle → middle ≤ high
    → size_of (slice_range p low middle) + size_of (slice_range p middle high) ≤ size_of p
range-size p low middle high h k =
    let both = size_of-append (slice_range p low middle) (slice_range p middle high) in
    let whole = ap size_of (range-split p low middle high h k) in
    let inside = size_of-take (high - low) (drop low p) in
    let rest = size_of-drop low p in omega arith

pub half_room : (a b s q x y k : ℕ) → a + b ≤ s → x ≤ a * q → y ≤ b * q → s * q < k → x + y < k
half_room a b s q x y k h e f g = let m : (a + b) * q ≤ s * q = mul-le-mul_right q h in omega arith

-- ---- what one term fits
pub row_at : (P : Term → Type 0) (p : Polynomial) (i : ℕ) → i < length p → AllByRecursion P p
    → P (slice_index_or p i no_term)
row_at P [] i h a = absurd (omega arith)
row_at P (t ∷ p) zero h a = a.0
row_at P (t ∷ p) (suc i) h a = row_at P p i (omega arith) a.1

pub product_fits : (p q : Polynomial) (i j : ℕ) (a b : ℤ) → size_of p * size_of q < 2 ^ 127
    → a ≡ (slice_index_or p i no_term).coefficient → b ≡ (slice_index_or q j no_term).coefficient
    → FitsSigned w128 (a *ℤ b)
product_fits p q i j a b h e f =
    let left : unsigned_abs a ≤ size_of p =
    subst (λ z. unsigned_abs z ≤ size_of p) (sym e) (coefficient-size p i) in
    let right : unsigned_abs b ≤ size_of q =
    subst (λ z. unsigned_abs z ≤ size_of q) (sym f) (coefficient-size q j) in
    fits_signed_from_abs w128 (a *ℤ b) (let m = mul-le-mul left right in
    let u = unsigned_abs-mul a b in omega arith)

pub length-product : (l m : Monomial) → length l ≡ length m
    → length (monomial_product l m) ≡ length l
length-product [] m e = sym e
length-product (j ∷ l) [] e = refl
length-product (j ∷ l) (k ∷ m) e = ap suc (length-product l m (omega arith))

pub term_is : (s u : Term) (c : ℤ) (m : Monomial)
    → c ≡ s.coefficient *ℤ u.coefficient → m ≡ monomial_product s.monomial u.monomial
    → let t : Term = record { coefficient = c; monomial = m } in t ≡ term_product s u
term_is s u c m e f = ap (λ x. record { coefficient = x; monomial = m }) e
    ∙ ap (λ x. record { coefficient = s.coefficient *ℤ u.coefficient; monomial = x }) f

pub term_opposite : (u : Term) (c : ℤ) (m : Monomial) → c ≡ neg_ℤ u.coefficient
    → m ≡ u.monomial → let t : Term = record { coefficient = c; monomial = m } in
    let o : Term = record { coefficient = neg_ℤ u.coefficient; monomial = u.monomial } in t ≡ o
term_opposite u c m e f = ap (λ x. record { coefficient = x; monomial = m }) e
    ∙ ap (λ x. record { coefficient = neg_ℤ u.coefficient; monomial = x }) f
