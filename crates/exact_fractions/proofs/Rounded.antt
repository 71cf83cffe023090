-- What a rounding answers, from what its steps do.
use lib.IntN.{neg_ℤ}
use Rattle.std.specs.Prelude.{◌≡◌, ℤ, List, [], ◌∷◌, ◌++◌, ◌&&◌, Bool, true, false, Option, Some}
use Rattle.std.specs.Prelude.{None, refl}
use Rattle.std.proofs.Common.{sym, ap, ◌∙◌, subst}
use Rattle.fx_model.specs.Fraction.{Fraction, ◌*ℚ◌}
use Rattle.fx_model.specs.Powers.{whole, two_to}
use Rattle.fx_model.specs.Rounded.{rounded, whole_for}
use Rattle.fx_model.specs.declared.Direction.{Direction}
use Rattle.rounding.specs.Rounded.{rounded-is}
use Rattle.exact_fractions.specs.declared.exact.Exact.{Exact}
use Rattle.exact_fractions.specs.Exact.{Gives}
use Rattle.exact_fractions.specs.Narrow.{is_narrow}
use Rattle.exact_fractions.specs.Wide.{are_narrow, numbers_of, rounding_numbers}

and_true : (a b c : Bool) → (a && b) ≡ true → (b ≡ true → c ≡ true) → (a && c) ≡ true
and_true true b c e f = f e
and_true false b c e f = absurd (cc)

-- numbers behind narrow ones
pub narrow_append : (xs ys : List ℤ) → are_narrow xs ≡ true → are_narrow (xs ++ ys) ≡ are_narrow ys
narrow_append [] ys e = refl
narrow_append (x ∷ xs) ys e = by (is_narrow x) (are_narrow xs) e (narrow_append xs ys)
  where
    by : (a b : Bool) → (a && b) ≡ true → (b ≡ true → are_narrow (xs ++ ys) ≡ are_narrow ys)
        → (a && are_narrow (xs ++ ys)) ≡ are_narrow ys
    by true b e f = f e
    by false b e f = absurd (cc)

-- and a wide one among the first
pub wide_append : (xs ys : List ℤ) → are_narrow xs ≡ false → are_narrow (xs ++ ys) ≡ false
wide_append [] ys e = absurd (cc)
wide_append (x ∷ xs) ys e = by (is_narrow x) (are_narrow xs) e (wide_append xs ys)
  where
    by : (a b : Bool) → (a && b) ≡ false → (b ≡ false → are_narrow (xs ++ ys) ≡ false)
        → (a && are_narrow (xs ++ ys)) ≡ false
    by true b e f = f e
    by false b e f = refl

pub gives_after : (xs ys : List ℤ) (x : Fraction) (r : Option Exact) → are_narrow xs ≡ true
    → Gives ys x r → Gives (xs ++ ys) x r
gives_after xs ys x None e g = narrow_append xs ys e ∙ g
gives_after xs ys x (Some v) e g = (narrow_append xs ys e ∙ g.0, g.1)

pub rounded_given : (d : Direction) (l k m w : ℤ) (x y v : Fraction) (r : Option Exact)
    → k ≡ neg_ℤ l → m ≡ l → are_narrow (numbers_of (x *ℚ two_to k)) ≡ true → y ≡ x *ℚ two_to k
    → w ≡ whole_for d y → v ≡ whole w
    → Gives (numbers_of (v *ℚ two_to m)) (v *ℚ two_to m) r
    → Gives (rounding_numbers d l x) (rounded d l x) r
rounded_given d l k m w x y v r e f n h i j g =
    let same : v *ℚ two_to m ≡ rounded d l x =
    ap (λ v. v *ℚ two_to m) (j
    ∙ ap whole (i ∙ ap (whole_for d) (h ∙ ap (λ k. x *ℚ two_to k) e)))
    ∙ ap (λ m. whole (whole_for d (x *ℚ two_to (neg_ℤ l))) *ℚ two_to m) f
    ∙ sym (rounded-is d l x) in
    gives_after (numbers_of (x *ℚ two_to (neg_ℤ l))) (numbers_of (rounded d l x)) (rounded d l x) r
    (subst (λ k. are_narrow (numbers_of (x *ℚ two_to k)) ≡ true) e n)
    (subst (λ y. Gives (numbers_of y) y r) same g)
