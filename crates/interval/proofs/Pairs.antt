-- What lies in two intervals, in both and in either.
use Rattle.std.specs.Prelude.{◌≡◌, ◌⊎◌}
use Rattle.std.proofs.Common.{sym, subst, ap, ⊎_elim, inl, inr}
use Rattle.fx_model.specs.Fraction.{Fraction}
use Rattle.fx_model.specs.Grid.{Bound, Below, At, Above}
use Rattle.fx_model.specs.Enclosure.{Range, IsFrom, IsUpTo, Lies, IsInfimum, IsSupremum, IsOrdered}
use Rattle.fx_model.specs.Enclosure.{BoundLe, member_of, ordered_by, enclosure_ordered, from-le}
use Rattle.fx_model.specs.Enclosure.{up_to-le}
use Rattle.dyadic.specs.declared.number.End.{End}
use Rattle.dyadic.specs.Ends.{bound_of}
use Rattle.dyadic.specs.Made.{IsGridBound}
use Rattle.interval.specs.Pairs.{AreApart, IsCommon, Union, IsHull}
use Rattle.interval.proofs.Enclosures.{interval_enclosure}

-- an end is one of two, at or outside each
abbrev IsOne : Bound → Bound → Bound → Type 0
IsOne b c d = (b ≡ c) ⊎ (b ≡ d)

pub one_bound : (e f g : End) → (e ≡ f) ⊎ (e ≡ g) → IsOne (bound_of e) (bound_of f) (bound_of g)
one_bound e f g (inl p) = inl (ap bound_of p)
one_bound e f g (inr p) = inr (ap bound_of p)

module _ (r s t : Range) (p : BoundLe r.low t.low) (q : BoundLe s.low t.low)
    (u : BoundLe t.high r.high) (v : BoundLe t.high s.high) (low : IsOne t.low r.low s.low)
    (high : IsOne t.high r.high s.high) where
  pub meet_common : IsCommon r s t
  meet_common x = (
    λ l. (
      (from-le r.low t.low x p l.0, up_to-le t.high r.high x u l.1),
      (from-le s.low t.low x q l.0, up_to-le t.high s.high x v l.1),
    ),
    λ l. (
      ⊎_elim (λ e. subst (λ b. IsFrom b x) (sym e) l.0.0)
          (λ e. subst (λ b. IsFrom b x) (sym e) l.1.0) low,
      ⊎_elim (λ e. subst (λ b. IsUpTo b x) (sym e) l.0.1)
          (λ e. subst (λ b. IsUpTo b x) (sym e) l.1.1) high,
    ),
  )

  pub apart_by : ¬ (IsOrdered t.low t.high) → AreApart r s
  apart_by n x l = let m = (meet_common x).1 l in n (ordered_by t.low t.high x m.0 m.1)

  pub apart_out : AreApart r s → ¬ (IsOrdered t.low t.high)
  apart_out a o = let m = member_of t.low t.high o in a m.0 ((meet_common m.0).0 (m.1, m.2))

-- ---- the hull
infimum_more : (S T : Fraction → Type 0) (b : Bound) → ((x : Fraction) → S x → T x)
    → ((x : Fraction) → T x → IsFrom b x) → IsInfimum S b → IsInfimum T b
infimum_more S T Below f g i = λ h o k. i h o (λ x s. k x (f x s))
infimum_more S T (At a) f g i = (i.0, g, λ h o k. i.2 h o (λ x s. k x (f x s)))
infimum_more S T Above f g i = i

supremum_more : (S T : Fraction → Type 0) (b : Bound) → ((x : Fraction) → S x → T x)
    → ((x : Fraction) → T x → IsUpTo b x) → IsSupremum S b → IsSupremum T b
supremum_more S T Below f g i = i
supremum_more S T (At a) f g i = (i.0, g, λ h o k. i.2 h o (λ x s. k x (f x s)))
supremum_more S T Above f g i = λ h o k. i h o (λ x s. k x (f x s))

-- an interval with ends on the grid
pub record IsKept (r : Range) : Type 0 where
  pub ordered : IsOrdered r.low r.high
  pub low : IsGridBound r.low
  pub high : IsGridBound r.high

lies_low : (r : Range) → IsKept r → IsInfimum (Lies r) r.low
lies_low r k = (interval_enclosure r k.ordered k.low k.high).low

lies_high : (r : Range) → IsKept r → IsSupremum (Lies r) r.high
lies_high r k = (interval_enclosure r k.ordered k.low k.high).high

module _ (r s t : Range) (i : IsKept r) (j : IsKept s) (p : BoundLe t.low r.low)
    (q : BoundLe t.low s.low) (u : BoundLe r.high t.high) (v : BoundLe s.high t.high)
    (low : IsOne t.low r.low s.low) (high : IsOne t.high r.high s.high) where
  above_low : (x : Fraction) → Union r s x → IsFrom t.low x
  above_low x (inl l) = from-le t.low r.low x p l.0
  above_low x (inr l) = from-le t.low s.low x q l.0

  below_high : (x : Fraction) → Union r s x → IsUpTo t.high x
  below_high x (inl l) = up_to-le r.high t.high x u l.1
  below_high x (inr l) = up_to-le s.high t.high x v l.1

  pub hull_is : IsHull r s t
  hull_is = record {
    low = ⊎_elim (λ e. infimum_more (Lies r) (Union r s) t.low (λ x l. inl l) above_low
        (subst (λ b. IsInfimum (Lies r) b) (sym e) (lies_low r i)))
        (λ e. infimum_more (Lies s) (Union r s) t.low (λ x l. inr l) above_low
        (subst (λ b. IsInfimum (Lies s) b) (sym e) (lies_low s j))) low;
    high = ⊎_elim (λ e. supremum_more (Lies r) (Union r s) t.high (λ x l. inl l) below_high
        (subst (λ b. IsSupremum (Lies r) b) (sym e) (lies_high r i)))
        (λ e. supremum_more (Lies s) (Union r s) t.high (λ x l. inr l) below_high
        (subst (λ b. IsSupremum (Lies s) b) (sym e) (lies_high s j))) high;
  }

  pub hull_ordered : IsOrdered t.low t.high
  hull_ordered = let m = member_of r.low r.high i.ordered in
      enclosure_ordered (Union r s) t m.0 (inl (m.1, m.2)) hull_is
