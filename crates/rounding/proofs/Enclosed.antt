-- The best intervals of the possible errors.
use Rattle.std.specs.Prelude.{◌≡◌, ℤ, ◌<ℤ◌, Option, Some, None, true, false, if◌then◌else◌, refl}
use Rattle.std.specs.Int.RustNames.{int_lt}
use Rattle.std.proofs.Common.{arith, sym, ap, ◌∙◌, subst}
use Rattle.std.proofs.lemmas.Int.{ints}
use Rattle.std.proofs.lemmas.Bool.{not-true, not-false}
use Rattle.fx_model.specs.Fraction.{Fraction, ◌-ℚ◌, ◌≤ℚ◌, neg_ℚ, zero_ℚ, lt_le, le_refl, le_trans}
use Rattle.fx_model.specs.Fraction.{neg_down}
use Rattle.fx_model.specs.Powers.{two_to, two_to-positive}
use Rattle.fx_model.specs.Grid.{At, IsUp, IsDown-neg}
use Rattle.fx_model.specs.Enclosure.{Range, Lies, IsEnclosure}
use Rattle.fx_model.specs.declared.Direction.{Direction}
use Rattle.grid_words.specs.Products.{closed}
use Rattle.rounding.specs.declared.sign.Sign.{Sign}
use Rattle.rounding.specs.declared.bounds.Span.{Span}
use Rattle.rounding.specs.declared.bounds.Span.TheVariants.{Nowhere, Leftward, Rightward, Sideward}
use Rattle.rounding.specs.declared.bounds.Span.TheVariants.{Near}
use Rattle.rounding.proofs.Sums.{sub-from}
use Rattle.rounding.proofs.Places.{two_to-le, less}
use Rattle.rounding.specs.Errors.{half_of, largest_error, keeps, error_range, signed_errors}
use Rattle.rounding.specs.Errors.{nowhere, IsPossible}
use Rattle.rounding.specs.Spans.{spanned}
use Rattle.rounding.proofs.Outward.{closed_is, down_grid, up_grid, same_members}
use Rattle.rounding.proofs.Largest.{zero_on_grid}
use Rattle.rounding.proofs.Meet.{possible_by_cases}

-- ---- spans
pub around_zero : (u : Fraction) → zero_ℚ ≤ℚ u → neg_ℚ u ≤ℚ u
around_zero u h = le_trans (neg_ℚ u) zero_ℚ u (neg_down u h) h

pub spanned_is : (s : Span) (u h v k : Fraction) → zero_ℚ ≤ℚ u → zero_ℚ ≤ℚ h → IsUp u (At v)
    → IsUp h (At k) → IsEnclosure (Lies (spanned s u h)) (spanned s v k)
spanned_is Nowhere u h v k a b p q = closed_is zero_ℚ zero_ℚ zero_ℚ zero_ℚ (le_refl zero_ℚ)
    (down_grid zero_ℚ zero_on_grid) (up_grid zero_ℚ zero_on_grid)
spanned_is Leftward u h v k a b p q = closed_is (neg_ℚ u) zero_ℚ (neg_ℚ v) zero_ℚ (neg_down u a)
    (IsDown-neg u (At v) p) (up_grid zero_ℚ zero_on_grid)
spanned_is Rightward u h v k a b p q =
    closed_is zero_ℚ u zero_ℚ v a (down_grid zero_ℚ zero_on_grid) p
spanned_is Sideward u h v k a b p q =
    closed_is (neg_ℚ u) u (neg_ℚ v) v (around_zero u a) (IsDown-neg u (At v) p) p
spanned_is Near u h v k a b p q =
    closed_is (neg_ℚ h) h (neg_ℚ k) k (around_zero h b) (IsDown-neg h (At k) q) q

-- an interval with these ends is the span's
pub spread_by : (s t : Span) (u h a b c d : Fraction) → s ≡ t → a ≡ c → b ≡ d
    → closed c d ≡ spanned t u h → closed a b ≡ spanned s u h
spread_by s t u h a b c d e p q r = (λ i. closed (p i) (q i)) ∙ r ∙ ap (λ s. spanned s u h) (sym e)

-- ---- what is left as it is, and the rest
below_unit : (k l : ℤ) → int_lt k l ≡ true → k <ℤ l
below_unit k l h = grind (arith, ints)

pub not_kept : (l k : ℤ) → keeps l (Some k) ≡ false → k <ℤ l
not_kept l k h = below_unit k l (not-false (int_lt k l) h)

kept_errors : (d : Direction) (l : ℤ) (sign : Sign) (fix : Option ℤ) → keeps l fix ≡ true
    → nowhere ≡ error_range d l sign fix
kept_errors d l sign None h = cc
kept_errors d l sign (Some k) h = ap (λ b. if b then signed_errors sign d (two_to l -ℚ two_to k)
    (half_of l) else nowhere) (sym (not-true (int_lt k l) h))

rest_errors : (d : Direction) (l : ℤ) (sign : Sign) (fix : Option ℤ) → keeps l fix ≡ false
    → signed_errors sign d (largest_error l fix) (half_of l) ≡ error_range d l sign fix
rest_errors d l sign None h = refl
rest_errors d l sign (Some k) h = ap (λ b. if b then signed_errors sign d (two_to l -ℚ two_to k)
    (half_of l) else nowhere) (sym (not-false (int_lt k l) h))

pub largest_from : (l : ℤ) (fix : Option ℤ) → keeps l fix ≡ false → zero_ℚ ≤ℚ largest_error l fix
largest_from l None h = lt_le zero_ℚ (two_to l) (two_to-positive l)
largest_from l (Some k) h =
    sub-from (two_to l) (two_to k) (two_to-le k l (less k l (not-false (int_lt k l) h)))

pub half_from : (l : ℤ) → zero_ℚ ≤ℚ half_of l
half_from l = lt_le zero_ℚ (half_of l) (two_to-positive _)

-- ---- the possible errors
-- by cases and by direction, sign and place at once
pub record IsBestError (d : Direction) (l : ℤ) (sign : Sign) (fix : Option ℤ)
    (r : Range) : Type 0 where
  pub cases : IsEnclosure (Lies (error_range d l sign fix)) r
  pub meet : IsEnclosure (IsPossible d l sign fix) r

both_ways : (d : Direction) (l : ℤ) (sign : Sign) (fix : Option ℤ) (r : Range)
    → IsEnclosure (Lies (error_range d l sign fix)) r → IsBestError d l sign fix r
both_ways d l sign fix r e = record {
  cases = e;
  meet = same_members (Lies (error_range d l sign fix)) (IsPossible d l sign fix)
      (λ x. let p = possible_by_cases d l sign fix x in (p.1, p.0)) r e;
}

pub kept_best : (d : Direction) (l m : ℤ) (sign : Sign) (fix : Option ℤ) (r : Range) → m ≡ l
    → keeps m fix ≡ true → r ≡ nowhere → IsBestError d l sign fix r
kept_best d l m sign fix r e h p =
    both_ways d l sign fix r (subst (IsEnclosure (Lies (error_range d l sign fix)))
    (sym p) (subst (λ a. IsEnclosure (Lies a) nowhere)
    (kept_errors d l sign fix (subst (λ m. keeps m fix ≡ true) e h))
    (closed_is zero_ℚ zero_ℚ zero_ℚ zero_ℚ (le_refl zero_ℚ) (down_grid zero_ℚ zero_on_grid)
    (up_grid zero_ℚ zero_on_grid))))

pub rest_best : (d : Direction) (l m : ℤ) (sign : Sign) (fix : Option ℤ) (s : Span) (v k : Fraction)
    (r : Range) → m ≡ l → keeps m fix ≡ false
    → ((u h : Fraction) → spanned s u h ≡ signed_errors sign d u h)
    → IsUp (largest_error m fix) (At v) → IsUp (half_of m) (At k) → r ≡ spanned s v k
    → IsBestError d l sign fix r
rest_best d l m sign fix s v k r e h t p q is =
    both_ways d l sign fix r (subst (IsEnclosure (Lies (error_range d l sign fix))) (sym is)
    (subst (λ a. IsEnclosure (Lies a) (spanned s v k))
    (t (largest_error l fix) (half_of l) ∙ rest_errors d l sign fix kept)
    (spanned_is s (largest_error l fix) (half_of l) v k (largest_from l fix kept)
    (half_from l) (subst (λ m. IsUp (largest_error m fix) (At v)) e p)
    (subst (λ m. IsUp (half_of m) (At k)) e q))))
  where
    kept : keeps l fix ≡ false
    kept = subst (λ m. keeps m fix ≡ false) e h
