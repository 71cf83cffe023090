-- The tests of an evaluation tell what the definitions say.
use lib.IntN.{neg_ℤ}
use Rattle.std.specs.Prelude.{◌≡◌, ◌≢◌, ◌==◌, ◌&&◌, ◌||◌, not, ℕ, ℤ, List, [], ◌∷◌, Option, Some}
use Rattle.std.specs.Prelude.{None, Bool, true, false, if◌then◌else◌, refl}
use Rattle.std.specs.Option.{IsSomeAnd}
use Rattle.std.specs.List.{list_all, AllByRecursion}
use Rattle.std.specs.Int.RustNames.{unsigned_abs}
use Rattle.std.proofs.Common.{sym, ap, ◌∙◌, subst, inl, inr, ⊎_elim, lit<}
use Rattle.std.proofs.lemmas.Bool.{eqb-true}
use Rattle.std.proofs.lemmas.Nat.Gcd.{dvd_refl}
use Rattle.std.proofs.Math.Nat.{one-dvd}
use Rattle.fx_model.specs.Fraction.{Fraction, ◌-ℚ◌, ◌*ℚ◌, ◌/ℚ◌, le_ℚ, ◌≤ℚ◌, ◌<ℚ◌, is_zero_ℚ}
use Rattle.fx_model.specs.Fraction.{is_zero-zero, is_zero_out, zero_ℚ, one_ℚ, le_refl, le_antisymm}
use Rattle.fx_model.proofs.Fraction.{is_zero_not}
use Rattle.fx_model.specs.Powers.{whole, two_to, whole-mk, IsMultiple}
use Rattle.fx_model.specs.Enclosure.{Lies}
use Rattle.fx_model.specs.Expression.{Assignment, value}
use Rattle.fx_model.specs.declared.Node.{Node}
use Rattle.literal_order.specs.declared.written.Written.{Written}
use Rattle.literal_order.specs.Values.{written_value}
use Rattle.rounding.specs.Rounded.{units-times, units-scaled}
use Rattle.exact_fractions.specs.Divisors.{gcd}
use Rattle.exact_fractions.proofs.Divisors.{gcd_of}
use Rattle.exact_fractions.specs.Reduced.{numerator, denominator, over}
use Rattle.exact_fractions.proofs.Lowest.{over-mk, over_parts, denominator-over}
use Rattle.exact_fractions.specs.Exact.{are_equal}
use Rattle.script_bounds.specs.Bounds.{written_range}
use Rattle.script_bounds.specs.Sides.{IsUnderWritten, IsOverWritten}
use Rattle.script_claims.specs.Meets.{IsTrueAt, IsRelatedWithin}
use Rattle.script_claims.specs.declared.claim.Claim.{Claim}
use Rattle.script_claims.specs.declared.claim.Claim.TheVariants as claim
use Rattle.script_hints.specs.Meets.{HoldsAt, MeetsHint}
use Rattle.script_hints.specs.declared.hint.Constraint.{Constraint}
use Rattle.script_hints.specs.declared.hint.Constraint.TheVariants as constraint
use Rattle.script_hints.specs.declared.hint.Hint.{Hint}
use Rattle.point_values.specs.Numbers.{error_of}
use Rattle.point_values.specs.Truth.{with_value, is_from, is_to, lies_within, are_zero, is_multiple}
use Rattle.point_values.specs.Truth.{claim_holds, is_below, is_above, constraint_holds, agree}
use Rattle.point_values.specs.Truth.{hint_holds}
use Rattle.point_values.specs.Told.{ClaimsAreTold, HintsAreTold}

-- the test is true exactly where P holds
pub record Tells (b : Bool) (P : Type 0) : Type 0 where
  pub out : b ≡ true → P
  pub back : P → b ≡ true

-- ---- parts
tells_and : (a b : Bool) (P Q : Type 0) → Tells a P → Tells b Q → Tells (a && b) (P × Q)
tells_and true b P Q p q = record { out = λ e. (p.out refl, q.out e); back = λ h. q.back h.1 }
tells_and false b P Q p q = record { out = λ e. absurd (cc); back = λ h. p.back h.0 }

tells_all : {A : Type 0} (f : A → Bool) (P : A → Type 0) → ((x : A) → Tells (f x) (P x))
    → (xs : List A) → Tells (list_all f xs) (AllByRecursion P xs)
tells_all f P t [] = record { out = λ e. tt; back = λ h. refl }
tells_all f P t (x ∷ xs) = tells_and (f x) (list_all f xs) (P x) (AllByRecursion P xs) (t x)
    (tells_all f P t xs)

tells_value : (f : Fraction → Bool) (P : Fraction → Type 0) → ((x : Fraction) → Tells (f x) (P x))
    → (o : Option Fraction) → Tells (with_value f o) (IsSomeAnd o P)
tells_value f P t None = record { out = λ e. absurd (cc); back = λ h. absurd h }
tells_value f P t (Some x) = t x

tells_le : (x y : Fraction) → Tells (le_ℚ x y) (x ≤ℚ y)
tells_le x y = record { out = λ e. record { le = e }; back = λ h. h.le }

not_out : (b : Bool) → not b ≡ true → b ≡ false
not_out true e = cc
not_out false e = refl

not_back : (b : Bool) → b ≡ false → not b ≡ true
not_back true e = cc
not_back false e = refl

tells_lt : (x y : Fraction) → Tells (not (le_ℚ y x)) (x <ℚ y)
tells_lt x y = record {
  out = λ e. record { lt = not_out (le_ℚ y x) e };
  back =
      λ h. not_back (le_ℚ y x) h.lt;
}

zero_is : (x : Fraction) → x ≡ zero_ℚ → is_zero_ℚ x ≡ true
zero_is x e = ap is_zero_ℚ e ∙ is_zero-zero

tells_nonzero : (x : Fraction) → Tells (not (is_zero_ℚ x)) (x ≢ zero_ℚ)
tells_nonzero x = record {
  out = λ e. is_zero_not x (not_out (is_zero_ℚ x) e);
  back =
      λ h. not_back (is_zero_ℚ x) (by (is_zero_ℚ x) refl h);
}
  where
    by : (b : Bool) → is_zero_ℚ x ≡ b → x ≢ zero_ℚ → is_zero_ℚ x ≡ false
    by true e h = absurd (h (is_zero_out x e))
    by false e h = e

-- ---- claims
tells_from : (w : Option Written) (u : Option Written) (x : Fraction)
    → Tells (is_from w x && is_to u x) (Lies (written_range w u) x)
tells_from None None x = record { out = λ e. (tt, tt); back = λ h. refl }
tells_from None (Some u) x = record {
  out = λ e. (tt, (tells_le x (written_value u)).out e);
  back =
      λ h. (tells_le x (written_value u)).back h.1;
}
tells_from (Some w) None x =
    tells_and (le_ℚ (written_value w) x) true _ _ (tells_le (written_value w) x)
    (record { out = λ e. tt; back = λ h. refl })
tells_from (Some w) (Some u) x = tells_and (le_ℚ (written_value w) x) (le_ℚ x (written_value u)) _ _
    (tells_le (written_value w) x) (tells_le x (written_value u))

tells_lies : (l u : Option Written) (o : Option Fraction)
    → Tells (lies_within l u o) (IsSomeAnd o (Lies (written_range l u)))
tells_lies l u None = record { out = λ e. absurd (cc); back = λ h. absurd h }
tells_lies l u (Some x) = tells_from l u x

tells_related : (l u : Written) (x y : Fraction)
    → Tells (are_zero (Some x) (Some y)
    || lies_within (Some l) (Some u) (error_of (Some x) (Some y)))
    (IsRelatedWithin (written_range (Some l) (Some u)) x y)
tells_related l u x y = by (is_zero_ℚ y) refl (is_zero_ℚ x) refl
  where
    by : (b : Bool) → is_zero_ℚ y ≡ b → (d : Bool) → is_zero_ℚ x ≡ d
        → Tells ((d && b)
        || lies_within (Some l) (Some u) (if b then None else Some ((x /ℚ y) -ℚ one_ℚ)))
        (IsRelatedWithin (written_range (Some l) (Some u)) x y)
    by true e true f = record {
      out = λ t. inl (is_zero_out x f, is_zero_out y e);
      back =
          λ h. refl;
    }
    by true e false f =
        record {
          out = λ t. absurd (cc);
          back =
              λ h. ⊎_elim (λ z. absurd (let k = zero_is x z.0 in cc))
              (λ n. absurd (n.0 (is_zero_out y e))) h;
        }
    by false e true f = unequal e
      where
        unequal : is_zero_ℚ y ≡ false
            → Tells (lies_within (Some l) (Some u) (Some ((x /ℚ y) -ℚ one_ℚ)))
            (IsRelatedWithin (written_range (Some l) (Some u)) x y)
        unequal e = let t = tells_from (Some l) (Some u) ((x /ℚ y) -ℚ one_ℚ) in
            record {
              out = λ h. inr (is_zero_not y e, t.out h);
              back =
                  λ h. ⊎_elim (λ z. absurd (is_zero_not y e z.1)) (λ n. t.back n.1) h;
            }
    by false e false f = unequal e
      where
        unequal : is_zero_ℚ y ≡ false
            → Tells (lies_within (Some l) (Some u) (Some ((x /ℚ y) -ℚ one_ℚ)))
            (IsRelatedWithin (written_range (Some l) (Some u)) x y)
        unequal e = let t = tells_from (Some l) (Some u) ((x /ℚ y) -ℚ one_ℚ) in
            record {
              out = λ h. inr (is_zero_not y e, t.out h);
              back =
                  λ h. ⊎_elim (λ z. absurd (is_zero_not y e z.1)) (λ n. t.back n.1) h;
            }

tells_relative : (l u : Written) (o p : Option Fraction)
    → Tells (are_zero o p || lies_within (Some l) (Some u) (error_of o p))
    (IsSomeAnd o (λ x. IsSomeAnd p (IsRelatedWithin (written_range (Some l) (Some u)) x)))
tells_relative l u None p = record { out = λ e. absurd (cc); back = λ h. absurd h }
tells_relative l u (Some x) None = record { out = λ e. absurd (cc); back = λ h. absurd h }
tells_relative l u (Some x) (Some y) = tells_related l u x y

one_coprime : (n : ℕ) → gcd n 1 ≡ 1
one_coprime n = gcd_of n 1 1 (one-dvd n, dvd_refl 1, (λ d i j. j))

whole_over : (m : ℤ) → over m 1 ≡ whole m
whole_over m = over-mk m 1 (lit< tt) ∙ sym (whole-mk m)

tells_multiple : (k : ℤ) (x : Fraction) → Tells (is_multiple k x) (IsMultiple k x)
tells_multiple k x =
    let y : Fraction = x *ℚ two_to (neg_ℤ k) in
    record {
      out = λ e. (
        numerator y,
        sym (units-times k x)
            ∙ ap (λ z. z *ℚ two_to k) (sym (over_parts y)
            ∙ ap (over (numerator y)) (eqb-true (denominator y) 1 e) ∙ whole_over (numerator y)),
      );
      back = λ h.
          ap (λ d. d == 1) (ap denominator (ap (λ z. z *ℚ two_to (neg_ℤ k)) h.1 ∙ units-scaled k h.0
          ∙ sym (whole_over h.0))
          ∙ denominator-over h.0 1
          (record { positive = lit< tt; coprime = one_coprime (unsigned_abs h.0) }));
    }

tells_below : (w : Written) (strict : Bool) (x : Fraction)
    → Tells (is_below w strict x) (IsUnderWritten w strict x)
tells_below w true x = tells_lt x (written_value w)
tells_below w false x = tells_le x (written_value w)

tells_above : (w : Written) (strict : Bool) (x : Fraction)
    → Tells (is_above w strict x) (IsOverWritten w strict x)
tells_above w true x = tells_lt (written_value w) x
tells_above w false x = tells_le (written_value w) x

tells_claim : (nodes : List Node) (a : Assignment) (c : Claim)
    → Tells (claim_holds (value nodes a) c) (IsTrueAt nodes a c)
tells_claim nodes a (claim.Bounded x l u) = tells_lies l u (value nodes a x)
tells_claim nodes a (claim.Asked x) = record { out = λ e. tt; back = λ h. refl }
tells_claim nodes a (claim.Relative x y l u) =
    tells_relative l u (value nodes a x) (value nodes a y)
tells_claim nodes a (claim.RelativeAsked x y) = record { out = λ e. tt; back = λ h. refl }
tells_claim nodes a (claim.Above x w) = tells_value (is_above w true) (λ v. written_value w <ℚ v)
    (tells_above w true) (value nodes a x)
tells_claim nodes a (claim.Below x w) = tells_value (is_below w true) (λ v. v <ℚ written_value w)
    (tells_below w true) (value nodes a x)
tells_claim nodes a (claim.Multiple x k) =
    tells_value (is_multiple k) (IsMultiple k) (tells_multiple k) (value nodes a x)

-- ---- hints
tells_constraint : (nodes : List Node) (a : Assignment) (c : Constraint)
    → Tells (constraint_holds (value nodes a) c) (HoldsAt nodes a c)
tells_constraint nodes a (constraint.NotZero x) =
    tells_value (λ r. not (is_zero_ℚ r)) (λ r. r ≢ zero_ℚ) tells_nonzero (value nodes a x)
tells_constraint nodes a (constraint.Below x w strict) =
    tells_value (is_below w strict) (IsUnderWritten w strict) (tells_below w strict)
    (value nodes a x)
tells_constraint nodes a (constraint.Above x w strict) =
    tells_value (is_above w strict) (IsOverWritten w strict) (tells_above w strict)
    (value nodes a x)

equal_back : (x y : Fraction) → x ≡ y → are_equal x y ≡ true
equal_back x y e = subst (λ z. (le_ℚ x z && le_ℚ z x) ≡ true) e (ap (λ b. b && b) (le_refl x).le)

tells_equal : (x y : Fraction) → Tells (are_equal x y) (x ≡ y)
tells_equal x y = let t = tells_and (le_ℚ x y) (le_ℚ y x) _ _ (tells_le x y) (tells_le y x) in
    record { out = λ e. le_antisymm x y (t.out e).0 (t.out e).1; back = equal_back x y }

Agree : Option Fraction → Option Fraction → Type 0
Agree o u = (l r : Fraction) → o ≡ Some l → u ≡ Some r → l ≡ r

tells_agree : (o u : Option Fraction) → Tells (agree o u) (Agree o u)
unfolding Agree
tells_agree None u = record { out = λ e l r p q. absurd (cc); back = λ h. refl }
tells_agree (Some x) None = record { out = λ e l r p q. absurd (cc); back = λ h. refl }
tells_agree (Some x) (Some y) =
    record {
      out = λ e l r p q. same x y l r ((tells_equal x y).out e) p q;
      back =
          λ h. equal_back x y (h x y refl refl);
    }
  where
    same : (x y l r : Fraction) → x ≡ y → Some x ≡ Some l → Some y ≡ Some r → l ≡ r
    same x y l r e p q = cc

tells_or : (a b : Bool) (P Q : Type 0) → Tells a P → Tells b Q → Tells (not a || b) (P → Q)
tells_or true b P Q p q = record { out = λ e h. q.out e; back = λ f. q.back (f (p.out refl)) }
tells_or false b P Q p q = record { out = λ e h. absurd (let k = p.back h in cc); back = λ f. refl }

tells_hint : (nodes : List Node) (a : Assignment) (h : Hint)
    → Tells (hint_holds (value nodes a) h) (MeetsHint nodes a h)
unfolding Agree
tells_hint nodes a h = tells_or (list_all (constraint_holds (value nodes a)) h.constraints)
    (agree (value nodes a h.left) (value nodes a h.right))
    (AllByRecursion (HoldsAt nodes a) h.constraints)
    (Agree (value nodes a h.left) (value nodes a h.right))
    (tells_all (constraint_holds (value nodes a)) (HoldsAt nodes a) (tells_constraint nodes a)
    h.constraints) (tells_agree (value nodes a h.left) (value nodes a h.right))

-- ---- the laws
pub claims_told : ClaimsAreTold
claims_told nodes a c = let t = tells_claim nodes a c in ((λ e. t.out e), (λ h. t.back h))

pub hints_told : HintsAreTold
hints_told nodes a h = let t = tells_hint nodes a h in ((λ e. t.out e), (λ m. t.back m))
