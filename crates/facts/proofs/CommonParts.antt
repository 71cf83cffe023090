-- What two sizes, two relative errors or two places have in common.
use Rattle.std.specs.Prelude.{◌≡◌, ◌⊎◌, ◌&&◌, ◌≤ℤ◌, Bool, true, false, Option, Some, None}
use Rattle.std.specs.Prelude.{if◌then◌else◌, refl, ◌<◌, ℕ, zero, suc, List, [], ◌∷◌, ◌++◌, length}
use Rattle.std.specs.Prelude.{slice_get}
use Rattle.std.specs.Int.RustNames.{int_lt}
use Rattle.std.proofs.Common.{sym, ◌∙◌, ap, subst, arith, inl, inr}
use Rattle.std.proofs.lemmas.Int.{ints}
use Rattle.std.proofs.lemmas.Bool.{eqb-true, eq-eqb}
use Rattle.std.specs.List.{AllByRecursion}
use Rattle.fx_model.specs.declared.ExprId.{ExprId}
use Rattle.fx_model.specs.Fraction.{zero_ℚ, one_ℚ, neg_ℚ}
use Rattle.fx_model.specs.Grid.{At}
use Rattle.fx_model.specs.Enclosure.{BoundLe}
use Rattle.dyadic.proofs.Extremes.{BoundLe-trans}
use Rattle.interval.specs.declared.interval.Interval.{Interval}
use Rattle.interval.specs.Intervals.{range_of}
use Rattle.interval.specs.Meets.{common_of}
use Rattle.interval.proofs.Meets.{common-within, within-common}
use Rattle.facts.specs.declared.size.Size.{Size}
use Rattle.facts.specs.declared.relative.RelativeError.{RelativeError}
use Rattle.facts.specs.declared.place.FixPlace.{FixPlace}
use Rattle.facts.specs.Ranges.{IsBelow}
use Rattle.facts.proofs.Ranges.{IsBelow-mono}
use Rattle.facts.specs.Parts.{size_from-some, size_from_out, error_from-some, error_from_out}
use Rattle.facts.specs.Parts.{common_size, common_error, greater_place, size_of_part, error_of_part}
use Rattle.facts.specs.Order.{IsWithin, IsWithinError, is_same, slot_of}
use Rattle.facts.specs.declared.fact.Fact.{Fact}
use Rattle.facts.specs.declared.fact.Fact.TheVariants as fact
use Rattle.facts.specs.declared.fact.Slot.TheVariants as slot

pub at_option : {X : Type 0} (o : Option X) (P : Option X → Type 0) → (o ≡ None → P None)
    → ((c : X) → o ≡ Some c → P (Some c)) → P o
at_option None P n y = n refl
at_option (Some c) P n y = y c refl

pub some-inj : {X : Type 0} (a b : X) → Some a ≡ Some b → a ≡ b
some-inj a b e = cc

pub if-some : {X : Type 0} (b : Bool) (v f : X)
    → (if b then Some v else None) ≡ Some f → (b ≡ true) × (v ≡ f)
if-some true v f e = (refl, cc)
if-some false v f e = cc

-- a conjunction holds where its second part follows
pub and_rises : (a b c : Bool) → (b ≡ true → c ≡ true) → (a && b) ≡ true → (a && c) ≡ true
and_rises true b c h e = h e
and_rises false b c h e = cc

pub expr_same : (x y : ExprId) → is_same x y ≡ true → x ≡ y
expr_same x y e = ap (λ n. record { 0 = n }) (eqb-true x.0 y.0 e)

pub same_expr : (x y : ExprId) → x ≡ y → is_same x y ≡ true
same_expr x y e = eq-eqb x.0 y.0 (ap (λ (z : ExprId). z.0) e)

size_low : (s : Size) (c : Interval) → IsWithin c s.interval → BoundLe (At zero_ℚ) (range_of c).low
size_low s c w =
    BoundLe-trans (At zero_ℚ) (range_of s.interval).low (range_of c).low s.from_zero w.0

error_low : (d : RelativeError) (c : Interval) → IsWithin c d.interval
    → IsBelow (neg_ℚ one_ℚ) (range_of c).low
error_low d c w =
    IsBelow-mono (neg_ℚ one_ℚ) (range_of d.interval).low (range_of c).low d.above_minus_one w.0

-- the common size of two lies within both
pub common_size-within : (s t c : Size) → common_size s t ≡ Some c
    → IsWithin c.interval s.interval × IsWithin c.interval t.interval
common_size-within s t c e = at_option (common_of s.interval t.interval)
    (λ o. size_of_part o ≡ Some c → common_of s.interval t.interval ≡ o
    → IsWithin c.interval s.interval × IsWithin c.interval t.interval)
    (λ _ n q. cc)
    (λ i h n q. let v = size_from_out i c n in
    subst (λ k. IsWithin k s.interval × IsWithin k t.interval) (sym v)
    (common-within s.interval t.interval i h)) e refl

-- a size within two shows that they have a common size, and lies within it
pub within-common_size : (k s t : Size)
    → IsWithin k.interval s.interval → IsWithin k.interval t.interval
    → (c : Size) × (common_size s t ≡ Some c) × IsWithin k.interval c.interval
within-common_size k s t p q =
    let h = within-common k.interval s.interval t.interval p q in
    let z : BoundLe (At zero_ℚ) (range_of h.0).low =
    size_low s h.0 (common-within s.interval t.interval h.0 h.1).0 in
    (record { interval = h.0; from_zero = z }, ap size_of_part h.1 ∙ size_from-some h.0 z, h.2)

-- where the intervals of two sizes have a common part, it is a size
pub common_size-some : (s t : Size) (i : Interval) → common_of s.interval t.interval ≡ Some i
    → (c : Size) × (common_size s t ≡ Some c) × (c.interval ≡ i)
common_size-some s t i e = let z : BoundLe (At zero_ℚ) (range_of i).low =
    size_low s i (common-within s.interval t.interval i e).0 in
    (record { interval = i; from_zero = z }, ap size_of_part e ∙ size_from-some i z, refl)

pub common_error-within : (d e c : RelativeError) → common_error (Some d) (Some e) ≡ Some c
    → IsWithin c.interval d.interval × IsWithin c.interval e.interval
common_error-within d e c p = at_option (common_of d.interval e.interval)
    (λ o. error_of_part o ≡ Some c → common_of d.interval e.interval ≡ o
    → IsWithin c.interval d.interval × IsWithin c.interval e.interval)
    (λ _ n q. cc)
    (λ i h n q. let v = error_from_out i c n in
    subst (λ k. IsWithin k d.interval × IsWithin k e.interval) (sym v)
    (common-within d.interval e.interval i h)) p refl

pub within-common_error : (k d e : RelativeError)
    → IsWithin k.interval d.interval → IsWithin k.interval e.interval → (c : RelativeError)
    × (common_error (Some d) (Some e) ≡ Some c) × IsWithin k.interval c.interval
within-common_error k d e p q =
    let h = within-common k.interval d.interval e.interval p q in
    let z : IsBelow (neg_ℚ one_ℚ) (range_of h.0).low =
    error_low d h.0 (common-within d.interval e.interval h.0 h.1).0 in (
      record { interval = h.0; above_minus_one = z },
      ap error_of_part h.1 ∙ error_from-some h.0 z,
      h.2,
    )

pub common_error-some : (d e : RelativeError) (i : Interval)
    → common_of d.interval e.interval ≡ Some i
    → (c : RelativeError) × (common_error (Some d) (Some e) ≡ Some c) × (c.interval ≡ i)
common_error-some d e i p = let z : IsBelow (neg_ℚ one_ℚ) (range_of i).low =
    error_low d i (common-within d.interval e.interval i p).0 in
    (record { interval = i; above_minus_one = z }, ap error_of_part p ∙ error_from-some i z, refl)

-- what lies within two relative errors lies within their common one
pub meet_error : (c d e : Option RelativeError) → IsWithinError c d → IsWithinError c e
    → IsWithinError c (common_error d e)
meet_error None d e p q = tt
meet_error (Some c) None e p q = absurd p
meet_error (Some c) (Some d) None p q = absurd q
meet_error (Some c) (Some d) (Some e) p q = let h = within-common_error c d e p q in
    subst (IsWithinError (Some c)) (sym h.1) h.2

pub error_meet_left : (d e : Option RelativeError) → IsWithinError (common_error d e) d
error_meet_left None e = tt
error_meet_left (Some d) None = tt
error_meet_left (Some d) (Some e) = at_option (common_error (Some d) (Some e))
    (λ o. IsWithinError o (Some d)) (λ _. tt) (λ c p. (common_error-within d e c p).0)

pub error_meet_right : (d e : Option RelativeError) → IsWithinError (common_error d e) e
error_meet_right None e = tt
error_meet_right (Some d) None = tt
error_meet_right (Some d) (Some e) = at_option (common_error (Some d) (Some e))
    (λ o. IsWithinError o (Some e)) (λ _. tt) (λ c p. (common_error-within d e c p).1)

pub place_left : (k n : FixPlace) → k.exponent ≤ℤ (greater_place k n).exponent
place_left k n = by_test (int_lt k.exponent n.exponent) refl
  where
    by_test : (b : Bool) → int_lt k.exponent n.exponent ≡ b
        → k.exponent ≤ℤ (if b then n else k).exponent
    by_test true e = grind (arith, ints)
    by_test false e = omega (arith, ints)

pub place_right : (k n : FixPlace) → n.exponent ≤ℤ (greater_place k n).exponent
place_right k n = by_test (int_lt k.exponent n.exponent) refl
  where
    by_test : (b : Bool) → int_lt k.exponent n.exponent ≡ b
        → n.exponent ≤ℤ (if b then n else k).exponent
    by_test true e = omega (arith, ints)
    by_test false e = grind (arith, ints)

pub place_most : (g k n : FixPlace) → k.exponent ≤ℤ g.exponent → n.exponent ≤ℤ g.exponent
    → (greater_place k n).exponent ≤ℤ g.exponent
place_most g k n p q = by_test (int_lt k.exponent n.exponent)
  where
    by_test : (b : Bool) → (if b then n else k).exponent ≤ℤ g.exponent
    by_test true = q
    by_test false = p

pub id_of : (y : ExprId) (j : ℕ) → y.0 ≡ j → y ≡ record { 0 = j }
id_of y j e = (λ i. record { 0 = e i })

pub same_itself : (x : ExprId) → is_same x x ≡ true
same_itself x = grind (arith)

-- ---- VOID
pub void_is : (f : Fact) → slot_of f ≡ slot.Void → f ≡ fact.Void
void_is fact.Void e = refl
void_is (fact.Bnd x i) e = cc
void_is (fact.Abs x i) e = cc
void_is (fact.Rel x y t) e = cc
void_is (fact.Fix x k) e = cc
void_is (fact.Nzr x) e = cc

pub void_cases : (f : Fact) → (f ≡ fact.Void) ⊎ ¬ (f ≡ fact.Void)
void_cases fact.Void = inl refl
void_cases (fact.Bnd x i) = inr (λ e. cc)
void_cases (fact.Abs x i) = inr (λ e. cc)
void_cases (fact.Rel x y e) = inr (λ q. cc)
void_cases (fact.Fix x k) = inr (λ e. cc)
void_cases (fact.Nzr x) = inr (λ e. cc)

-- ---- lists
pub stands : {A : Type 0} (xs : List A) (k : ℕ) → k < length xs
    → (x : A) × (slice_get xs k ≡ Some x)
stands [] k l = absurd (omega arith)
stands (x ∷ xs) zero l = (x, refl)
stands (x ∷ xs) (suc k) l = stands xs k (omega arith)

pub all_from : {A : Type 0} (P : A → Type 0) (xs : List A)
    → ((k : ℕ) (x : A) → slice_get xs k ≡ Some x → P x) → AllByRecursion P xs
all_from P [] h = tt
all_from P (x ∷ xs) h = (h 0 x refl, all_from P xs (λ k y e. h (suc k) y e))

pub all_at : {A : Type 0} (P : A → Type 0) (xs : List A) (k : ℕ) (x : A) → AllByRecursion P xs
    → slice_get xs k ≡ Some x → P x
all_at P [] k x h e = cc
all_at P (y ∷ xs) zero x h e = let q : y ≡ x = cc in subst P q h.0
all_at P (y ∷ xs) (suc k) x h e = all_at P xs k x h.1 e

pub all_as : {A : Type 0} (P Q : A → Type 0) → ((x : A) → P x → Q x) → (xs : List A)
    → AllByRecursion P xs → AllByRecursion Q xs
all_as P Q f [] h = tt
all_as P Q f (x ∷ xs) h = (f x h.0, all_as P Q f xs h.1)

pub all_last : {A : Type 0} (P : A → Type 0) (xs : List A) (x : A) → AllByRecursion P xs → P x
    → AllByRecursion P (xs ++ (x ∷ []))
all_last P [] x h p = (p, tt)
all_last P (y ∷ xs) x h p = (h.0, all_last P xs x h.1 p)
