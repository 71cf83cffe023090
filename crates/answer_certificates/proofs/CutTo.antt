-- The checker's piece of a cut leaves of a box what the plan's piece does.
use Rattle.std.specs.Prelude.{◌≡◌, ◌≤◌, ◌<◌, ◌-◌, ◌==◌, ℕ, zero, suc, Bool, true, false, List}
use Rattle.std.specs.Prelude.{length, Some, if◌then◌else◌, refl}
use Rattle.std.specs.List.{AllByRecursion}
use Rattle.std.proofs.Common.{sym, ◌∙◌, ap, subst, arith, inl, inr}
use Rattle.std.proofs.Math.ListN.{get_or-eq_default}
use Rattle.std.proofs.lemmas.List.{get_or_default}
use Rattle.std.proofs.lemmas.Bool.{cases_lt, eq-eqb}
use Rattle.fx_model.specs.declared.ExprId.{ExprId}
use Rattle.fx_model.specs.Fraction.{◌≤ℚ◌, lt_le}
use Rattle.fx_model.specs.Grid.{Bound}
use Rattle.fx_model.specs.Enclosure.{BoundLe}
use Rattle.dyadic.specs.declared.number.Dyadic.{Dyadic}
use Rattle.dyadic.specs.declared.number.End.{End}
use Rattle.dyadic.specs.declared.number.End.TheVariants as end
use Rattle.dyadic.specs.Values.{value_of, zero_number}
use Rattle.dyadic.specs.Ends.{bound_of}
use Rattle.dyadic.specs.Rising.{point_of}
use Rattle.interval.specs.declared.interval.Interval.{Interval}
use Rattle.interval.specs.Intervals.{range_of}
use Rattle.interval.specs.Ends.{AreEnds}
use Rattle.interval.specs.Meets.{interval_from-some}
use Rattle.facts.specs.declared.fact.Fact.{Fact}
use Rattle.facts.specs.declared.fact.Fact.TheVariants as fact
use Rattle.facts.specs.declared.fact.Slot.TheVariants as slot
use Rattle.facts.specs.Order.{slot_of, IsStronger}
use Rattle.facts.proofs.Laws.{IsStronger-trans, IsStronger-meet, meet_exists}
use Rattle.facts.specs.Conclusions.{bnd_of}
use Rattle.derivation.specs.Derivations.{At}
use Rattle.script_claims.specs.declared.range.SplitRange.{SplitRange}
use Rattle.box_tree.specs.Ranges.{IsWithin}
use Rattle.box_tree.specs.Points.{piece_of}
use Rattle.box_tree.proofs.InRanges.{within_at}
use Rattle.cert_checker.specs.Contexts.{low_end, high_end, piece_fact}
use Rattle.tree_certificates.specs.Traces.{IsCutTo}
use Rattle.tree_certificates.specs.Trees.{cut_of, ArePoints}
use Rattle.tree_certificates.proofs.Cited.{differs}

-- ---- the ends of pieces
else_is : (b : Bool) (x y : End) → b ≡ false → (if b then x else y) ≡ y
else_is true x y e = cc
else_is false x y e = refl

then_is : (b : Bool) (x y : End) → b ≡ true → (if b then x else y) ≡ x
then_is true x y e = refl
then_is false x y e = cc

other_above : (m n : ℕ) → n < m → (m == n) ≡ false
other_above m n h = grind (arith, h)

module _ (r : SplitRange) (points : List Dyadic) (ok : ArePoints points)
    (inside : AllByRecursion (IsWithin r) points) where
  -- the end of the plan's piece, where it is the range's, and where it is a point
  high_last : (k : ℕ) → length points ≤ k → (piece_of r points k).high ≡ r.high
  high_last k l = get_or-eq_default points r.high l

  high_point : (k : ℕ) → k < length points → (piece_of r points k).high ≡ point_of points k
  high_point k l = get_or_default points k r.high zero_number l

  low_point : (k : ℕ) → k < length points → (piece_of r points (suc k)).low ≡ point_of points k
  low_point k l = get_or_default points k r.high zero_number l

  checker_high : (k : ℕ) → k < length points → high_end points k ≡ end.At (point_of points k)
  checker_high k l = else_is (k == length points) end.High (end.At (point_of points k))
      (differs k (length points) l)

  checker_low : (k : ℕ) → low_end points (suc k) ≡ end.At (point_of points k)
  checker_low k =
      let e : suc k - 1 ≡ k = omega arith in
      else_is (suc k == 0) end.Low (end.At (point_of points (suc k - 1)))
      (other_above (suc k) 0 (omega arith)) ∙ ap (λ n. end.At (point_of points n)) e

  -- what is above the checker's lower end and the range's is above the plan's lower end
  low_above : (k : ℕ) (b : Bound) → k ≤ length points
      → BoundLe (bound_of (low_end points k)) b → BoundLe (bound_of (end.At r.low)) b
      → BoundLe (bound_of (end.At (piece_of r points k).low)) b
  low_above zero b l p q = q
  low_above (suc k) b l p q =
      let P : End → Type 0 = λ e. BoundLe (bound_of e) b in
      let Q : Dyadic → Type 0 = λ d. BoundLe (bound_of (end.At d)) b in
      subst Q (sym (low_point k (omega (arith, l)))) (subst P (checker_low k) p)

  high_below : (k : ℕ) (b : Bound) → k ≤ length points
      → BoundLe b (bound_of (high_end points k)) → BoundLe b (bound_of (end.At r.high))
      → BoundLe b (bound_of (end.At (piece_of r points k).high))
  high_below k b l p q =
      let P : End → Type 0 = λ e. BoundLe b (bound_of e) in
      let Q : Dyadic → Type 0 = λ d. BoundLe b (bound_of (end.At d)) in
      elim (cases_lt k (length points)) [
        | inl m ↦ subst Q (sym (high_point k m)) (subst P (checker_high k m) p)
        | inr m ↦ subst Q (sym (high_last k m)) q
      ]

  -- ---- the pieces have ends in order
  points_rise : (k : ℕ) → suc k < length points
      → value_of (point_of points k) ≤ℚ value_of (point_of points (suc k))
  points_rise k l = lt_le (value_of (point_of points k)) (value_of (point_of points (suc k)))
      (ok.rising k (suc k) (omega arith) l)

  pub piece_ordered : (k : ℕ) → k ≤ length points
      → AreEnds (end.At (piece_of r points k).low) (end.At (piece_of r points k).high)
  piece_ordered zero l = let some = ok.some in
      let Q : Dyadic → Type 0 = λ d. value_of r.low ≤ℚ value_of d in
      subst Q (sym (high_point 0 (omega (arith, some))))
      (within_at r points 0 zero_number inside (omega (arith, some))).0
  piece_ordered (suc k) l =
      let Q : Dyadic → Type 0 = λ d. value_of d ≤ℚ value_of (piece_of r points (suc k)).high in
      let R : Dyadic → Type 0 = λ d. value_of (point_of points k) ≤ℚ value_of d in
      let m : k < length points = omega (arith, l) in
      subst Q (sym (low_point k m))
      (elim (cases_lt (suc k) (length points)) [
        | inl n ↦ subst R (sym (high_point (suc k) n)) (points_rise k n)
        | inr n ↦ subst R (sym (high_last (suc k) n)) (within_at r points k zero_number inside m).1
      ])

  checker_ordered : (k : ℕ) → k ≤ length points → AreEnds (low_end points k) (high_end points k)
  checker_ordered zero l =
      let some = ok.some in
      let P : End → Type 0 = λ e. AreEnds end.Low e in
      subst P (sym (checker_high 0 (omega (arith, some)))) tt
  checker_ordered (suc k) l =
      let P : End → Type 0 = λ e. AreEnds e (high_end points (suc k)) in
      let Q : End → Type 0 = λ e. AreEnds (end.At (point_of points k)) e in
      subst P (sym (checker_low k))
      (elim (cases_lt (suc k) (length points)) [
        | inl n ↦ subst Q (sym (checker_high (suc k) n)) (points_rise k n)
        | inr n ↦ subst Q (sym (then_is (suc k == length points) end.High (end.At
            (point_of points (suc k))) (eq-eqb (suc k) (length points) (omega (arith, l, n))))) tt
      ])

  -- ---- what is left of the box
  -- The checker's piece.
  pub checker_piece : (k : ℕ) → k ≤ length points → Interval
  checker_piece k l =
      record { lo = low_end points k; hi = high_end points k; ordered = checker_ordered k l }

  pub checker_fact : (x : ExprId) (k : ℕ) (l : k ≤ length points)
      → piece_fact (cut_of x points 0 0) k ≡ Some (fact.Bnd x (checker_piece k l))
  unfolding checker_piece
  checker_fact x k l = ap (bnd_of x)
      (interval_from-some (low_end points k) (high_end points k) (checker_ordered k l))

  -- what lies in the checker's piece and in the range lies in the plan's piece
  piece_left : (x : ExprId) (k : ℕ) (l : k ≤ length points) (a : Fact) (range i : Interval)
      → range.lo ≡ end.At r.low → range.hi ≡ end.At r.high
      → i.lo ≡ end.At (piece_of r points k).low → i.hi ≡ end.At (piece_of r points k).high →
      IsStronger a (fact.Bnd x (checker_piece k l)) → IsStronger a (fact.Bnd x range)
      → IsStronger a (fact.Bnd x i)
  unfolding checker_piece
  piece_left x k l fact.Void range i rl rh il ih p q = tt
  piece_left x k l (fact.Bnd y j) range i rl rh il ih p q =
      let L : End → Type 0 = λ e. BoundLe (bound_of e) (range_of j).low in
      let H : End → Type 0 = λ e. BoundLe (range_of j).high (bound_of e) in (
        q.0,
        (
          subst L (sym il) (low_above k (range_of j).low l p.1.0 (subst L rl q.1.0)),
          subst H (sym ih) (high_below k (range_of j).high l p.1.1 (subst H rh q.1.1)),
        ),
      )
  piece_left x k l (fact.Abs y s) range i rl rh il ih p q = absurd p
  piece_left x k l (fact.Rel y z t) range i rl rh il ih p q = absurd p
  piece_left x k l (fact.Fix y n) range i rl rh il ih p q = absurd p
  piece_left x k l (fact.Nzr y) range i rl rh il ih p q = absurd p

  -- Where the table knows that the variable lies in the range, the box is cut to the plan's piece.
  pub cut_to : (at : At) (x : ExprId) (k : ℕ) (l : k ≤ length points) (range i : Interval)
      (g : Fact) → range.lo ≡ end.At r.low → range.hi ≡ end.At r.high
      → i.lo ≡ end.At (piece_of r points k).low → i.hi ≡ end.At (piece_of r points k).high →
      at (slot.Bnd x) ≡ Some g → slot_of g ≡ slot.Bnd x → IsStronger g (fact.Bnd x range)
      → IsCutTo at (fact.Bnd x (checker_piece k l)) (x, i)
  cut_to at x k l range i g rl rh il ih e sg w =
      let p : Fact = fact.Bnd x (checker_piece k l) in
      let c : Fact = fact.Bnd x i in
      let a = meet_exists p g (sym sg) in
      let m = meet_exists g c sg in
      let left : IsStronger a.0 c = piece_left x k l a.0 range i rl rh il ih a.1.left
      (IsStronger-trans a.0 g (fact.Bnd x range) a.1.right w) in
      let both : IsStronger a.0 m.0 = IsStronger-meet a.0 g c m.0 a.1.right left m.1.is in
      rw (e, m.1.is, a.1.is) both
