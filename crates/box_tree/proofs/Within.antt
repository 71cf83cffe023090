-- Points lie in the ranges that they cut, and rise.
use Rattle.std.specs.Prelude.{◌≡◌, ℕ, zero, suc, ◌+◌, true, ◌&&◌, nat_lt, List, [], ◌∷◌, ◌++◌}
use Rattle.std.specs.Prelude.{length, Option, Some, None, IfSome, if◌then◌else◌, refl, ◌⊎◌}
use Rattle.std.specs.Prelude.{slice_index_or}
use Rattle.std.specs.List.{AllByRecursion}
use Rattle.std.proofs.Common.{sym, subst, arith, inl, inr}
use Rattle.std.proofs.lemmas.Bool.{cases_lt, and_parts}
use Rattle.std.proofs.lemmas.List.{get_or_default}
use Rattle.std.proofs.Math.ListN.{get_or-eq_default}
use Rattle.fx_model.specs.declared.ExprId.{ExprId}
use Rattle.fx_model.specs.Fraction.{◌≤ℚ◌, lt_le, le_refl}
use Rattle.dyadic.specs.declared.number.Dyadic.{Dyadic}
use Rattle.dyadic.specs.Values.{value_of, zero_number}
use Rattle.dyadic.specs.Rising.{point_of, IsRising}
use Rattle.script_hints.specs.declared.hint.Split.{Split}
use Rattle.script_hints.specs.declared.hint.Cutting.{Cutting}
use Rattle.box_tree.specs.declared.next.Next.{Next}
use Rattle.box_tree.specs.declared.next.Next.TheVariants as next
use Rattle.script_claims.specs.declared.range.SplitRange.{SplitRange}
use Rattle.script_claims.specs.Ranges.{IsOrdered, is_inside}
use Rattle.box_tree.specs.Ranges.{IsWithin, range_in}
use Rattle.box_tree.specs.Points.{is_above_last, with_point, with_points, asked_points, middle}
use Rattle.box_tree.specs.Points.{half_point, piece_of}
use Rattle.box_tree.specs.Nexts.{IsWithinNext}
use Rattle.box_tree.specs.Regions.{PlanParts, Region, points_in, forced_or, next_forced, half_in}
use Rattle.box_tree.specs.Regions.{halved_or, next_half, turned, half_of}
use Rattle.box_tree.proofs.InRanges.{at_bool, within_at, append_within, inside_within}

-- ---- each piece's ends are in order
pub piece_ordered : (r : SplitRange) (points : List Dyadic) (i : ℕ) → IsOrdered r
    → AllByRecursion (IsWithin r) points → IsRising points → IsOrdered (piece_of r points i)
piece_ordered r [] zero o w u = o
piece_ordered r (p ∷ ps) zero o w u = w.0.0
piece_ordered r points (suc k) o w u =
    elim (cases_lt (suc k) (length points)) [
      | inl l ↦ (let a = get_or_default points k zero_number r.high (omega (arith, l)) in
          let b = get_or_default points (suc k) zero_number r.high l in
          let m = lt_le (value_of (point_of points k)) (value_of (point_of points (suc k)))
          (u k (suc k) (omega arith) l) in
          let P : Dyadic → Type 0 =
          λ q. value_of q ≤ℚ value_of (slice_index_or points (suc k) r.high) in
          let Q : Dyadic → Type 0 = λ q. value_of (point_of points k) ≤ℚ value_of q in
          subst P a (subst Q b m))
      | inr l ↦ (let b = get_or-eq_default points r.high l in
          let Q : Dyadic → Type 0 = λ q. value_of (slice_index_or points k r.high) ≤ℚ value_of q in
          subst Q (sym b) (elim (cases_lt k (length points)) [
            | inl m ↦ (within_at r points k r.high w m).1
            | inr m ↦ (let a = get_or-eq_default points r.high m in let P : Dyadic → Type 0 =
                λ q. value_of q ≤ℚ value_of r.high in subst P (sym a) (le_refl (value_of r.high)))
          ]))
    ]

-- ---- points that stay lie inside
point_within : (r : SplitRange) (points : List Dyadic) (p : Dyadic)
    → AllByRecursion (IsWithin r) points → AllByRecursion (IsWithin r) (with_point r points p)
point_within r points p w = at_bool (is_inside r p && is_above_last points p)
    (λ b. AllByRecursion (IsWithin r) (if b then points ++ p ∷ [] else points))
    (λ t. append_within r points p w
    (inside_within r p (and_parts (is_inside r p) (is_above_last points p) t).0)) (λ f. w)

pub points_within : (r : SplitRange) (points more : List Dyadic)
    → AllByRecursion (IsWithin r) points → AllByRecursion (IsWithin r) (with_points r points more)
points_within r points [] w = w
points_within r points (p ∷ ps) w =
    points_within r (with_point r points p) ps (point_within r points p w)

-- ---- what is done next
at_option : {X : Type 0} (o : Option X) (P : Option X → Type 0) → P None
    → ((c : X) → P (Some c)) → P o
at_option None P n s = n
at_option (Some c) P n s = s c

within_in : (o : Option SplitRange) (c : Cutting)
    → IfSome o (λ r. AllByRecursion (IsWithin r) (points_in o c))
within_in None c = tt
within_in (Some r) c = points_within r [] (asked_points r c) tt

pub forced_step : (x : ExprId) (points : List Dyadic) (done : ℕ) (later : Option Next) (n : Next)
    → forced_or x points done later ≡ Some n → (later ≡ Some n) ⊎ (n ≡ next.Force x points done)
forced_step x [] done later n e = inl e
forced_step x (p ∷ ps) done later n e = inr cc

pub forced_within : (ranges : List SplitRange) (done : ℕ) (cuts : List Split) (n : Next)
    → next_forced ranges done cuts ≡ Some n → IsWithinNext ranges n
forced_within ranges done [] n e = cc
forced_within ranges done (s ∷ ss) n e =
    elim (forced_step s.var (points_in (range_in s.var ranges) s.cut) (done + 1)
    (next_forced ranges (done + 1) ss) n e) [
      | inl l ↦ forced_within ranges (done + 1) ss n l
      | inr q ↦ subst (IsWithinNext ranges) (sym q) (within_in (range_in s.var ranges) s.cut)
    ]

half_inside : (r : SplitRange) (m : Dyadic) → half_point r ≡ Some m → is_inside r m ≡ true
half_inside r m e = at_bool (is_inside r (middle r)) (λ b. is_inside r (middle r) ≡ b
    → (if b then Some (middle r) else None) ≡ Some m → is_inside r m ≡ true)
    (λ t i f. let s : middle r ≡ m = cc in
    subst (λ p. is_inside r p ≡ true) s i) (λ g i f. cc) refl e

half_in_within : (o : Option SplitRange) (m : Dyadic) → half_in o ≡ Some m
    → IfSome o (λ r. AllByRecursion (IsWithin r) (m ∷ []))
half_in_within None m e = tt
half_in_within (Some r) m e = (inside_within r m (half_inside r m e), tt)

or_within : (ranges : List SplitRange) (x : ExprId) (o : Option Dyadic) (later : Next)
    → half_in (range_in x ranges) ≡ o → IsWithinNext ranges later
    → IsWithinNext ranges (halved_or x o later)
or_within ranges x None later e w = w
or_within ranges x (Some m) later e w = half_in_within (range_in x ranges) m e

halves_within : (ranges : List SplitRange) (xs : List ExprId)
    → IsWithinNext ranges (next_half ranges xs)
halves_within ranges [] = tt
halves_within ranges (x ∷ xs) = or_within ranges x (half_in (range_in x ranges))
    (next_half ranges xs) refl (halves_within ranges xs)

pub half_within : (plan : PlanParts) (g : Region) → IsWithinNext g.ranges (half_of plan g)
half_within plan g = at_bool (nat_lt g.halvings plan.depth) (λ b. IsWithinNext g.ranges (if b
    then next_half g.ranges (turned g.halvings plan.halves) else next.Rest))
    (λ t. halves_within g.ranges (turned g.halvings plan.halves)) (λ f. tt)
