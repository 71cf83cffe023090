-- Points that lie in ranges, ranges in lists, and boxes along paths.
use Rattle.std.specs.Prelude.{◌≡◌, ◌<◌, ◌-◌, ◌==◌, ℕ, zero, suc, Bool, true, false, List, [], ◌∷◌}
use Rattle.std.specs.Prelude.{◌++◌, length, drop, Some, if◌then◌else◌, slice_index_or, refl}
use Rattle.std.specs.List.{AllByRecursion}
use Rattle.std.proofs.Common.{sym, ap, ◌∙◌, arith, ⊎_elim}
use Rattle.std.proofs.lemmas.Bool.{and_parts, or_cases, not-true, eqb-true}
use Rattle.fx_model.specs.declared.ExprId.{ExprId}
use Rattle.fx_model.specs.Fraction.{le_ℚ, ◌<ℚ◌, lt_le}
use Rattle.dyadic.specs.declared.number.Dyadic.{Dyadic}
use Rattle.dyadic.specs.declared.number.End.{End}
use Rattle.dyadic.specs.declared.number.End.TheVariants as end
use Rattle.dyadic.specs.Values.{value_of}
use Rattle.dyadic.specs.Rising.{point_of, IsAboveLast}
use Rattle.facts.specs.Order.{is_same}
use Rattle.facts.proofs.CommonParts.{expr_same}
use Rattle.script_hints.specs.declared.hint.Split.{Split}
use Rattle.script_hints.specs.Few.{HaveFewPieces}
use Rattle.script_claims.specs.declared.range.SplitRange.{SplitRange}
use Rattle.script_claims.specs.Ranges.{is_less, is_inside, finite_range}
use Rattle.box_tree.specs.Ranges.{IsWithin, range_in}
use Rattle.box_tree.specs.Points.{is_above_last}
use Rattle.box_tree.specs.Regions.{PlanParts, Region, piece, region_below}
use Rattle.box_tree.specs.Plans.{pieces_at}

-- by both answers of a test
pub at_bool : (b : Bool) (P : Bool → Type 0) → (b ≡ true → P true) → (b ≡ false → P false) → P b
at_bool true P t f = t refl
at_bool false P t f = f refl

-- ---- points
pub lt_in : (a b : Dyadic) → is_less a b ≡ true → value_of a <ℚ value_of b
lt_in a b e = record { lt = not-true (le_ℚ (value_of b) (value_of a)) e }

pub inside_within : (r : SplitRange) (p : Dyadic) → is_inside r p ≡ true → IsWithin r p
inside_within r p e =
    let q = and_parts (is_less r.low p) (is_less p r.high) e in (
      lt_le (value_of r.low) (value_of p) (lt_in r.low p q.0),
      lt_le (value_of p) (value_of r.high) (lt_in p r.high q.1),
    )

pub above_in : (points : List Dyadic) (p : Dyadic)
    → is_above_last points p ≡ true → IsAboveLast points p
above_in points p e l = ⊎_elim
    (λ z. let n : length points ≡ 0 = eqb-true (length points) 0 z in absurd (omega (arith, n, l)))
    (λ h. lt_in (point_of points (length points - 1)) p h)
    (or_cases (length points == 0) (is_less (point_of points (length points - 1)) p) e)

pub within_at : (r : SplitRange) (points : List Dyadic) (k : ℕ) (d : Dyadic)
    → AllByRecursion (IsWithin r) points → k < length points
    → IsWithin r (slice_index_or points k d)
within_at r [] k d w l = absurd (omega (arith, l))
within_at r (p ∷ ps) zero d w l = w.0
within_at r (p ∷ ps) (suc k) d w l = within_at r ps k d w.1 (omega (arith, l))

pub append_within : (r : SplitRange) (points : List Dyadic) (p : Dyadic)
    → AllByRecursion (IsWithin r) points → IsWithin r p
    → AllByRecursion (IsWithin r) (points ++ p ∷ [])
append_within r [] p w i = (i, tt)
append_within r (q ∷ qs) p w i = (w.0, append_within r qs p w.1 i)

-- cuts that are left have few pieces too
pub few_behind : (n : ℕ) (cuts : List Split) → HaveFewPieces cuts → HaveFewPieces (drop n cuts)
few_behind zero cuts h = h
few_behind (suc n) [] h = tt
few_behind (suc n) (c ∷ cs) h = few_behind n cs h.1

-- ---- ranges
pub range_var : (x : ExprId) (rs : List SplitRange) (r : SplitRange)
    → range_in x rs ≡ Some r → r.var ≡ x
range_var x [] r e = cc
range_var x (q ∷ rs) r e = at_bool (is_same q.var x) (λ b. is_same q.var x ≡ b
    → (if b then Some q else range_in x rs) ≡ Some r → r.var ≡ x)
    (λ t s f. let k : q ≡ r = cc in ap (λ (z : SplitRange). z.var) (sym k) ∙ expr_same q.var x s)
    (λ t s f. range_var x rs r f) refl e

pub finite_out : (x : ExprId) (lo hi : End) (r : SplitRange) → finite_range x lo hi ≡ Some r
    → (lo ≡ end.At r.low) × (hi ≡ end.At r.high) × (r.var ≡ x)
finite_out x end.Low hi r e = cc
finite_out x end.High hi r e = cc
finite_out x (end.At l) end.Low r e = cc
finite_out x (end.At l) end.High r e = cc
finite_out x (end.At l) (end.At h) r e =
    let q : record { var = x; low = l; high = h } ≡ r = some_inj _ r e in (
      ap (λ (s : SplitRange). end.At s.low) q,
      ap (λ (s : SplitRange). end.At s.high) q,
      ap (λ (s : SplitRange). s.var) (sym q),
    )
  where
    some_inj : (a b : SplitRange) → Some a ≡ Some b → a ≡ b
    some_inj a b e = cc

-- ---- boxes along paths
pub below_append : (plan : PlanParts) (g : Region) (path : List ℕ) (i : ℕ)
    → region_below plan g (path ++ i ∷ []) ≡ piece plan (region_below plan g path) i
unfolding region_below
below_append plan g [] i = refl
below_append plan g (j ∷ path) i = below_append plan (piece plan g j) path i

pub root_pieces : (plan : PlanParts) → pieces_at plan [] ≡ []
unfolding pieces_at
root_pieces plan = refl
