-- The best intervals of products and quotients.
use Rattle.std.specs.Prelude.{◌≡◌, ◌⊎◌, refl}
use Rattle.std.proofs.Common.{sym, subst, ⊎_elim}
use Rattle.fx_model.specs.Fraction.{Fraction, ◌*ℚ◌, ◌/ℚ◌, ◌≤ℚ◌, zero_ℚ, inverse_ℚ, le_refl}
use Rattle.fx_model.specs.Grid.{Bound, At}
use Rattle.fx_model.specs.Enclosure.{Range, Lies, IsEnclosure, IsOrdered, IsFinite, Products}
use Rattle.fx_model.specs.Enclosure.{Quotients, IsProduct, IsQuotient, whole_line, in_enclosure}
use Rattle.fx_model.specs.Enclosure.{product_holds, member_of, ordered_by, from_ends}
use Rattle.fx_model.specs.Enclosure.Unique.{both_or}
use Rattle.grid_words.specs.Signs.{inverse_falls}
use Rattle.grid_words.specs.Corners.{corners, corners_are}

-- The best interval of the products of numbers between the first two ends and between the last two;
-- the whole line where one is infinite.
abbrev pub product_ends : Bound → Bound → Bound → Bound → Range
product_ends (At a) (At b) (At c) (At d) = corners a b c d
product_ends i j k l = whole_line

-- The same of the quotients, for divisors between the last two ends, where 0 doesn't lie.
abbrev pub quotient_ends : Bound → Bound → Bound → Bound → Range
quotient_ends (At a) (At b) (At c) (At d) = corners a b (inverse_ℚ d) (inverse_ℚ c)
quotient_ends i j k l = whole_line

-- The best interval of the products, or the whole line where an end is infinite.
pub product_range : Range → Range → Range
product_range r s = product_ends r.low r.high s.low s.high

-- The same of the quotients, for a divisor that 0 doesn't lie in.
pub quotient_range : Range → Range → Range
quotient_range r s = quotient_ends r.low r.high s.low s.high

-- From a to b.
abbrev pub closed : Fraction → Fraction → Range
closed a b = record { low = At a; high = At b }

module _ (a b c d : Fraction) (i : a ≤ℚ b) (j : c ≤ℚ d) where
  closed_product : IsEnclosure (Products (closed a b) (closed c d)) (corners a b c d)
  closed_product = corners_are (Products (closed a b) (closed c d)) a b c d
      (a, c, (le_refl a, i), (le_refl c, j), refl) (a, d, (le_refl a, i), (j, le_refl d), refl)
      (b, c, (i, le_refl b), (le_refl c, j), refl) (b, d, (i, le_refl b), (j, le_refl d), refl)
      (λ z t. record {
        u = t.0;
        w = t.1;
        from_a = t.2.0;
        to_b = t.2.1;
        from_p = t.3.0;
        to_q = t.3.1;
        is = t.4;
      })

  closed_quotient : ¬ (Lies (closed c d) zero_ℚ)
      → IsEnclosure (Quotients (closed a b) (closed c d)) (corners a b (inverse_ℚ d) (inverse_ℚ c))
  closed_quotient n =
      corners_are (Quotients (closed a b) (closed c d)) a b (inverse_ℚ d) (inverse_ℚ c)
      (a, d, (le_refl a, i), (j, le_refl d), refl) (a, c, (le_refl a, i), (le_refl c, j), refl)
      (b, d, (i, le_refl b), (j, le_refl d), refl) (b, c, (i, le_refl b), (le_refl c, j), refl)
      (λ z t. record {
        u = t.0;
        w = inverse_ℚ t.1;
        from_a = t.2.0;
        to_b = t.2.1;
        from_p = inverse_falls c d n t.1 d t.3.0 t.3.1 (le_refl d);
        to_q = inverse_falls c d n c t.1 (le_refl c) t.3.0 t.3.1;
        is = t.4;
      })

-- ---- any ends
finite_ends : (r : Range) (f : IsFinite r) → r ≡ closed f.0 f.1
finite_ends r f = λ i. record { low = f.2 i; high = f.3 i }

product_infinite : (a b c d : Bound) → ¬ (IsFinite (from_ends a b) × IsFinite (from_ends c d))
    → product_ends a b c d ≡ whole_line
product_infinite (At a) (At b) (At c) (At d) n = absurd (n ((a, b, refl, refl), (c, d, refl, refl)))
product_infinite a b c d n = refl

quotient_infinite : (a b c d : Bound) → ¬ (IsFinite (from_ends a b) × IsFinite (from_ends c d))
    → quotient_ends a b c d ≡ whole_line
quotient_infinite (At a) (At b) (At c) (At d) n =
    absurd (n ((a, b, refl, refl), (c, d, refl, refl)))
quotient_infinite a b c d n = refl

-- a property of two intervals that those with finite ends have
by_ends : (P : Range → Range → Type 0) → ((a b c d : Fraction) → P (closed a b) (closed c d))
    → (r s : Range) → IsFinite r → IsFinite s → P r s
by_ends P h r s f g = subst (λ r. P r s) (sym (finite_ends r f))
    (subst (λ s. P (closed f.0 f.1) s) (sym (finite_ends s g)) (h f.0 f.1 g.0 g.1))

module _ (r s : Range) (i : IsOrdered r.low r.high) (j : IsOrdered s.low s.high) where
  pub product_range_is : IsProduct r s (product_range r s)
  unfolding product_range
  product_range_is = record {
    finite = λ f g. by_ends (λ r s. IsOrdered r.low r.high → IsOrdered s.low s.high → IsEnclosure
        (Products r s) (product_ends r.low r.high s.low s.high)) closed_product r s f g i j;
    infinite = product_infinite r.low r.high s.low s.high;
  }

  pub product_range_ordered : IsOrdered (product_range r s).low (product_range r s).high
  product_range_ordered = let m = member_of r.low r.high i in let n = member_of s.low s.high j in
      let l = product_holds r s (product_range r s) m.0 n.0 product_range_is (m.1, m.2)
      (n.1, n.2) in ordered_by (product_range r s).low (product_range r s).high (m.0 *ℚ n.0) l.0 l.1

-- a quotient holds each quotient of members
pub quotient_holds : (r s t : Range) (x y : Fraction) → IsQuotient r s t → Lies r x
    → Lies s y → Lies t (x /ℚ y)
quotient_holds r s t x y i a b =
    ⊎_elim (λ f. in_enclosure (Quotients r s) t (x /ℚ y) (i.finite f.0 f.1) (x, y, a, b, refl))
    (λ n. subst (λ u. Lies u (x /ℚ y)) (sym (i.infinite n)) (tt, tt)) (both_or r s)

module _ (r s : Range) (i : IsOrdered r.low r.high) (j : IsOrdered s.low s.high)
    (n : ¬ (Lies s zero_ℚ)) where
  pub quotient_range_is : IsQuotient r s (quotient_range r s)
  unfolding quotient_range
  quotient_range_is = record {
    nonzero = n;
    finite = λ f g. by_ends (λ r s. IsOrdered r.low r.high → IsOrdered s.low s.high
        → ¬ (Lies s zero_ℚ) → IsEnclosure (Quotients r s) (quotient_ends r.low r.high s.low s.high))
        closed_quotient r s f g i j n;
    infinite = quotient_infinite r.low r.high s.low s.high;
  }

  pub quotient_range_ordered : IsOrdered (quotient_range r s).low (quotient_range r s).high
  quotient_range_ordered = let x = member_of r.low r.high i in let y = member_of s.low s.high j in
      let l = quotient_holds r s
      (quotient_range r s) x.0 y.0 quotient_range_is (x.1, x.2) (y.1, y.2) in
      ordered_by (quotient_range r s).low (quotient_range r s).high (x.0 /ℚ y.0) l.0 l.1
