-- Laws of what specs/Rising defines.
use Rattle.std.specs.Prelude.{◌≡◌, ◌<◌, ◌-◌, ◌++◌, ℕ, List, length}
use Rattle.std.proofs.Common.{sym, ap, ◌∙◌, arith, subst, ⊎_elim, [], ◌∷◌}
use Rattle.std.proofs.lemmas.List.{length-append}
use Rattle.std.proofs.Math.ListN.{get_or-append}
use Rattle.std.proofs.Math.Seq.{get_or-append_seam}
use Rattle.std.proofs.lemmas.Bool.{cases_lt}
use Rattle.fx_model.specs.Fraction.{◌<ℚ◌, lt_le, le_lt_trans}
use Rattle.dyadic.specs.declared.number.Dyadic.{Dyadic}
use Rattle.dyadic.specs.Values.{value_of, zero_number}
use Rattle.dyadic.specs.Rising.{point_of, IsRising, IsAboveLast}

-- ---- one more point
pub point_kept : (points : List Dyadic) (p : Dyadic) (i : ℕ) → i < length points
    → point_of (points ++ p ∷ []) i ≡ point_of points i
point_kept points p i h = get_or-append points (p ∷ []) zero_number i h

pub point_last : (points : List Dyadic) (p : Dyadic) (j : ℕ) → j ≡ length points
    → point_of (points ++ p ∷ []) j ≡ p
point_last points p j e =
    ap (point_of (points ++ p ∷ [])) e ∙ get_or-append_seam points p [] zero_number

-- the points before the last are below p too
pub below_last : (points : List Dyadic) (p : Dyadic) → IsRising points → IsAboveLast points p
    → (i : ℕ) → i < length points → value_of (point_of points i) <ℚ value_of p
below_last points p r a i h = ⊎_elim
    (λ l. le_lt_trans (value_of (point_of points i))
    (value_of (point_of points (length points - 1))) (value_of p)
    (lt_le (value_of (point_of points i)) (value_of (point_of points (length points - 1)))
    (r i (length points - 1) l (omega arith))) (a (omega arith)))
    (λ l. let e : length points - 1 ≡ i = omega arith in
    subst (λ n. value_of (point_of points n) <ℚ value_of p) e (a (omega arith)))
    (cases_lt i (length points - 1))

pub rising_more : (points : List Dyadic) (p : Dyadic) → IsRising points → IsAboveLast points p
    → IsRising (points ++ p ∷ [])
rising_more points p r a i j h k = ⊎_elim
    (λ l. let f : i < length points = omega arith in
    subst (λ x. value_of x <ℚ value_of (point_of (points ++ p ∷ []) j))
    (sym (point_kept points p i f)) (subst (λ x. value_of (point_of points i) <ℚ value_of x)
    (sym (point_kept points p j l)) (r i j h l)))
    (λ l. let e : j ≡ length points = omega (arith, length-append points (p ∷ [])) in
    let f : i < length points = omega arith in
    subst (λ x. value_of x <ℚ value_of (point_of (points ++ p ∷ []) j))
    (sym (point_kept points p i f)) (subst (λ x. value_of (point_of points i) <ℚ value_of x)
    (sym (point_last points p j e)) (below_last points p r a i f)))
    (cases_lt j (length points))
