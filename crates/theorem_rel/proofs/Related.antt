-- Related values: x is y(1 + t) for a t in the interval.
use Rattle.std.specs.Prelude.{◌≡◌, ◌≢◌, Bool, true, false, refl}
use Rattle.std.proofs.Common.{sym, ap, subst, ◌∙◌, inl, inr, ⊎_elim}
use Rattle.fx_model.specs.Fraction.{Fraction, ◌+ℚ◌, ◌-ℚ◌, ◌*ℚ◌, ◌/ℚ◌, zero_ℚ, one_ℚ, is_zero_ℚ}
use Rattle.fx_model.specs.Fraction.{is_zero_out, zero-mul}
use Rattle.fx_model.proofs.Fraction.{is_zero_not}
use Rattle.fx_model.specs.Enclosure.{Lies, member_of}
use Rattle.interval.specs.declared.interval.Interval.{Interval}
use Rattle.interval.specs.Intervals.{range_of}
use Rattle.facts.specs.Holds.{AreZero, IsRelated}
use Rattle.theorem_rel.proofs.Numbers.{quotient_error, error_of_quotient}

-- x is y(1 + t), and t lies in the interval
pub record HasError (i : Interval) (x y t : Fraction) : Type 0 where
  pub inside : Lies (range_of i) t
  pub is : x ≡ y *ℚ (one_ℚ +ℚ t)

-- related values have such a t
pub related_out : (i : Interval) (x y : Fraction) → IsRelated i x y
    → (t : Fraction) × HasError i x y t
related_out i x y r = ⊎_elim both_zero by_quotient r
  where
    both_zero : AreZero x y → (t : Fraction) × HasError i x y t
    both_zero z = let m = member_of (range_of i).low (range_of i).high i.ordered in (
      m.0,
      record {
        inside = (m.1, m.2);
        is = z.0 ∙ sym (ap (λ u. u *ℚ (one_ℚ +ℚ m.0)) z.1 ∙ zero-mul (one_ℚ +ℚ m.0));
      },
    )

    by_quotient : (y ≢ zero_ℚ) × Lies (range_of i) ((x /ℚ y) -ℚ one_ℚ)
        → (t : Fraction) × HasError i x y t
    by_quotient q = ((x /ℚ y) -ℚ one_ℚ, record { inside = q.1; is = sym (quotient_error x y q.0) })

-- and what has such a t is related
pub related_in : (i : Interval) (x y t : Fraction) → HasError i x y t → IsRelated i x y
related_in i x y t h = by_test (is_zero_ℚ y) refl
  where
    by_test : (b : Bool) → is_zero_ℚ y ≡ b → IsRelated i x y
    by_test true e = let z = is_zero_out y e in
        inl (h.is ∙ ap (λ u. u *ℚ (one_ℚ +ℚ t)) z ∙ zero-mul (one_ℚ +ℚ t), z)
    by_test false e = let n = is_zero_not y e in
        inr (
          n,
          subst (Lies (range_of i))
              (sym (ap (λ u. (u /ℚ y) -ℚ one_ℚ) h.is ∙ error_of_quotient y t n)) h.inside,
        )
