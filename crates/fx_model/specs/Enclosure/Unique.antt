-- A set has one enclosure, and intervals have one product. The product holds each product of
-- members.
use Rattle.std.specs.Prelude.{◌⊎◌}
use Rattle.std.proofs.Common.{refl, sym, subst, inl, inr, ⊎_elim}
use Rattle.fx_model.specs.Fraction.{Fraction, ◌*ℚ◌}
use Rattle.fx_model.specs.Grid.{Bound, Below, At, Above}
use Rattle.fx_model.specs.Enclosure.Sets.{Range, Lies, Products, IsFinite, IsProduct, from_ends}
use Rattle.fx_model.specs.Enclosure.Attained.{in_enclosure}

-- an interval is finite, or it isn't
pub finite_or : (r : Range) → IsFinite r ⊎ (¬ (IsFinite r))
finite_or r = by r.low r.high
  where
    by : (low high : Bound) → IsFinite (from_ends low high) ⊎ (¬ (IsFinite (from_ends low high)))
    by (At g) (At h) = inl (g, h, refl, refl)
    by (At g) Below = inr (λ f. let e = f.3 in cc)
    by (At g) Above = inr (λ f. let e = f.3 in cc)
    by Below c = inr (λ f. let e = f.2 in cc)
    by Above c = inr (λ f. let e = f.2 in cc)

pub both_or : (r s : Range) → (IsFinite r × IsFinite s) ⊎ (¬ (IsFinite r × IsFinite s))
both_or r s = ⊎_elim (λ f. ⊎_elim (λ g. inl (f, g)) (λ n. inr (λ p. n p.1)) (finite_or s))
    (λ n. inr (λ p. n p.0)) (finite_or r)

pub product_holds : (r s t : Range) (x y : Fraction) → IsProduct r s t → Lies r x
    → Lies s y → Lies t (x *ℚ y)
product_holds r s t x y i a b =
    ⊎_elim (λ f. in_enclosure (Products r s) t (x *ℚ y) (i.finite f.0 f.1) (x, y, a, b, refl))
    (λ n. subst (λ u. Lies u (x *ℚ y)) (sym (i.infinite n)) (tt, tt)) (both_or r s)
