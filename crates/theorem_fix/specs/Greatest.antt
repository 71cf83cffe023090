-- The greatest power of two of which a fraction is a multiple.
use Rattle.std.specs.Prelude.{◌≡◌, ℕ, ℤ, pos, negsuc, ◌+ℤ◌, ◌≤ℤ◌, ◌<ℤ◌, ◌≤◌, Bool, true, false}
use Rattle.std.specs.Prelude.{Option, Some, None, if◌then◌else◌, refl}
use Rattle.std.proofs.Common.{zero, suc, sym, ap, subst, ◌∙◌, arith}
use Rattle.std.proofs.lemmas.Int.{ints, by_lt_z}
use Rattle.fx_model.specs.Fraction.{Fraction, ◌≤ℚ◌, le_ℚ, le_refl, le_antisymm}
use Rattle.fx_model.specs.Powers.{IsMultiple}
use Rattle.fx_model.specs.Rounded.{rounded}
use Rattle.fx_model.specs.declared.Direction.TheVariants.{Dn}
use Rattle.rounding.specs.Rounded.{rounded_multiple, rounded-multiple}
use Rattle.facts.specs.declared.place.FixPlace.{FixPlace}
use Rattle.facts.specs.Places.{place_from, place_from_out, place_from_self}
use Rattle.theorem_fix.specs.Beside.{rounded_below}

-- rounding it down to a multiple of 2^k changes nothing
abbrev pub is_multiple : ℤ → Fraction → Bool
is_multiple k x = le_ℚ x (rounded Dn k x)

-- of the n places from -1024 up, the greatest of which x is a multiple; none where there is none
pub greatest_of : ℕ → Fraction → Option FixPlace
greatest_of zero x = None
greatest_of (suc n) x = if is_multiple (pos n +ℤ negsuc 1023) x
    then place_from (pos n +ℤ negsuc 1023) else greatest_of n x

-- the greatest place of which x is a multiple; none where it is of no place
abbrev pub greatest_place : Fraction → Option FixPlace
greatest_place x = greatest_of 1537 x

-- ---- the test
is_multiple_in : (k : ℤ) (x : Fraction) → is_multiple k x ≡ true → IsMultiple k x
is_multiple_in k x e = subst (IsMultiple k) (le_antisymm (rounded Dn k x) x (rounded_below k x)
    (record { le = e })) (rounded_multiple Dn k x)

is_multiple_out : (k : ℤ) (x : Fraction) → IsMultiple k x → is_multiple k x ≡ true
is_multiple_out k x m = let l : x ≤ℚ rounded Dn k x =
    subst (λ y. x ≤ℚ y) (sym (rounded-multiple Dn k x m)) (le_refl x) in l.le

-- ---- it is a multiple
step_out : (b : Bool) (k : ℤ) (x : Fraction) (o : Option FixPlace) (p : FixPlace)
    → is_multiple k x ≡ b
    → (o ≡ Some p → IsMultiple p.exponent x) → (if b then place_from k else o) ≡ Some p
    → IsMultiple p.exponent x
step_out true k x o p t h e =
    subst (λ n. IsMultiple n x) (sym (place_from_out k p e)) (is_multiple_in k x t)
step_out false k x o p t h e = h e

pub greatest_of_out : (n : ℕ) (x : Fraction) (p : FixPlace) → greatest_of n x ≡ Some p
    → IsMultiple p.exponent x
unfolding greatest_of
greatest_of_out zero x p e = cc
greatest_of_out (suc n) x p e = step_out (is_multiple (pos n +ℤ negsuc 1023) x)
    (pos n +ℤ negsuc 1023) x (greatest_of n x) p refl (greatest_of_out n x p) e

-- ---- it is the greatest
-- no greater place is one
abbrev pub IsMost : Fraction → FixPlace → Type 0
IsMost x p = (j : ℤ) → j ≤ℤ pos 512 → IsMultiple j x → j ≤ℤ p.exponent

step_is : (b : Bool) (k : ℤ) (x : Fraction) (o : Option FixPlace) (p : FixPlace)
    → is_multiple k x ≡ b
    → k ≤ℤ pos 512 → p.exponent <ℤ (k +ℤ pos 1) → IsMultiple p.exponent x → IsMost x p
    → (p.exponent <ℤ k → o ≡ Some p) → (if b then place_from k else o) ≡ Some p
step_is true k x o p t h l m g rest = let a : k ≤ℤ p.exponent = g k h (is_multiple_in k x t) in
    let e : k ≡ p.exponent = omega (arith, ints) in ap place_from e ∙ sym (place_from_self p)
step_is false k x o p t h l m g rest = by_lt_z p.exponent k rest
    (λ a. let e : p.exponent ≡ k = omega (arith, ints) in
    let f : true ≡ false = sym (is_multiple_out k x (subst (λ n. IsMultiple n x) e m)) ∙ t in cc)

pub greatest_of-is : (n : ℕ) (x : Fraction) (p : FixPlace)
    → n ≤ 1537 → p.exponent <ℤ (pos n +ℤ negsuc 1023) → IsMultiple p.exponent x → IsMost x p
    → greatest_of n x ≡ Some p
unfolding greatest_of
greatest_of-is zero x p h l m g = let a = p.lowest in absurd (omega (arith, ints))
greatest_of-is (suc n) x p h l m g =
    step_is (is_multiple (pos n +ℤ negsuc 1023) x) (pos n +ℤ negsuc 1023) x (greatest_of n x) p refl
    (omega (arith, ints)) (omega (arith, ints)) m g
    (λ a. greatest_of-is n x p (omega arith) a m g)

-- ---- there is none
step_none : (b : Bool) (k : ℤ) (x : Fraction) (o : Option FixPlace) → is_multiple k x ≡ b
    → ¬ IsMultiple k x → o ≡ None → (if b then place_from k else o) ≡ None
step_none true k x o t n e = absurd (n (is_multiple_in k x t))
step_none false k x o t n e = e

pub greatest_of-none : (n : ℕ) (x : Fraction) → ((k : ℤ) → negsuc 1023 ≤ℤ k → ¬ IsMultiple k x)
    → greatest_of n x ≡ None
unfolding greatest_of
greatest_of-none zero x h = refl
greatest_of-none (suc n) x h =
    step_none (is_multiple (pos n +ℤ negsuc 1023) x) (pos n +ℤ negsuc 1023) x (greatest_of n x) refl
    (h (pos n +ℤ negsuc 1023) (omega (arith, ints))) (greatest_of-none n x h)
