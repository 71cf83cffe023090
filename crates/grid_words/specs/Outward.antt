-- The least interval with ends on the grid that holds a given one, and what enclosures have in
-- common.
use Rattle.std.specs.Prelude.{◌≡◌}
use Rattle.std.proofs.Common.{refl, sym, subst}
use Rattle.fx_model.specs.Fraction.{Fraction, ◌-ℚ◌, ◌+ℚ◌, one_ℚ, le_trans, lt_not, minus_one}
use Rattle.fx_model.specs.Fraction.{plus_one}
use Rattle.fx_model.specs.Grid.{Bound, Below, At, Above}
use Rattle.fx_model.specs.Enclosure.{Range, IsFrom, IsUpTo, Lies, IsInfimum, IsSupremum}
use Rattle.fx_model.specs.Enclosure.{IsEnclosure, IsOrdered, infimum_at, supremum_at, member_of}
use Rattle.fx_model.specs.Enclosure.{low_lies, high_lies, deep, far, enclosure_same}
use Rattle.grid_words.specs.Nearest.{down, up, down_is, up_is}

-- The end rounded down, and up.
abbrev pub down_end : Bound → Bound
down_end Below = Below
down_end (At g) = down g
down_end Above = Above

-- The end rounded up to the grid; an infinite one stays.
abbrev pub up_end : Bound → Bound
up_end Below = Below
up_end (At g) = up g
up_end Above = Above

-- The interval with its ends rounded outward.
abbrev pub outward : Range → Range
outward r = record { low = down_end r.low; high = up_end r.high }

module _ (r : Range) (o : IsOrdered r.low r.high) where
  low_is : (b : Bound) → b ≡ r.low → IsInfimum (Lies r) (down_end b)
  low_is Below p = λ h q k. let m = member_of r.low r.high o in
      let d = deep r m.0 (h -ℚ one_ℚ) (sym p) (m.1, m.2) in
      lt_not (h -ℚ one_ℚ) h (minus_one h) (le_trans h d.0 (h -ℚ one_ℚ) (k d.0 d.1) d.2)
  low_is (At g) p = infimum_at (Lies r) g (down g) (low_lies r g o (sym p))
      (λ x l. subst (λ e. IsFrom e x) (sym p) l.0) (down_is g)
  low_is Above p = subst (λ e. IsOrdered e r.high) (sym p) o

  high_is : (b : Bound) → b ≡ r.high → IsSupremum (Lies r) (up_end b)
  high_is Below p = let m = member_of r.low r.high o in subst (λ e. IsUpTo e m.0) (sym p) m.2
  high_is (At g) p = supremum_at (Lies r) g (up g) (high_lies r g o (sym p))
      (λ x l. subst (λ e. IsUpTo e x) (sym p) l.1) (up_is g)
  high_is Above p = λ h q k. let m = member_of r.low r.high o in
      let d = far r m.0 (h +ℚ one_ℚ) (sym p) (m.1, m.2) in
      lt_not h (h +ℚ one_ℚ) (plus_one h) (le_trans (h +ℚ one_ℚ) d.0 h d.2 (k d.0 d.1))

  pub outward_is : IsEnclosure (Lies r) (outward r)
  outward_is = record { low = low_is r.low refl; high = high_is r.high refl }

-- ---- enclosures of sets
-- an interval that has just the members of a set, rounded outward
pub outward_exact : (S : Fraction → Type 0) (r : Range)
    → IsOrdered r.low r.high → ((x : Fraction) → Lies r x → S x) → ((x : Fraction) → S x → Lies r x)
    → IsEnclosure S (outward r)
outward_exact S r o f g = enclosure_same (Lies r) S (outward r) f g (outward_is r o)
