-- The variables along which boxes are cut have ranges, which come from hypotheses.
use Rattle.std.specs.Prelude.{◌≡◌, ◌<◌, ◌+◌, ℕ, zero, suc, nat_lt, Bool, true, false, if◌then◌else◌}
use Rattle.std.specs.Prelude.{List, [], ◌∷◌, ◌++◌, drop, Option, Some, None, slice_get, ⊤, refl}
use Rattle.std.specs.List.{AllByRecursion}
use Rattle.std.specs.Option.{IsSomeAnd}
use Rattle.std.proofs.Common.{sym, ◌∙◌, ap, subst, arith}
use Rattle.fx_model.specs.declared.ExprId.{ExprId}
use Rattle.dyadic.specs.declared.number.Dyadic.{Dyadic}
use Rattle.dyadic.specs.declared.number.End.{End}
use Rattle.dyadic.specs.declared.number.End.TheVariants as end
use Rattle.interval.specs.declared.interval.Interval.{Interval}
use Rattle.facts.specs.declared.fact.Fact.{Fact}
use Rattle.facts.specs.declared.fact.Fact.TheVariants as fact
use Rattle.facts.specs.Order.{is_same}
use Rattle.facts.proofs.CommonParts.{at_option, expr_same}
use Rattle.script_claims.specs.declared.claim.Claim.{Claim}
use Rattle.script_claims.specs.Facts.{hypothesis_fact}
use Rattle.script_hints.specs.declared.hint.Split.{Split}
use Rattle.script_hints.specs.declared.hint.HintList.{HintList}
use Rattle.box_tree.specs.declared.next.Next.{Next}
use Rattle.box_tree.specs.declared.next.Next.TheVariants as next
use Rattle.script_claims.specs.declared.range.SplitRange.{SplitRange}
use Rattle.script_claims.specs.Ranges.{finite_range, range_by, or_later, split_range}
use Rattle.box_tree.specs.Pieces.{piece_count}
use Rattle.box_tree.specs.Points.{half_point, piece_of}
use Rattle.box_tree.specs.Ranges.{range_in, put_range}
use Rattle.box_tree.specs.Regions.{PlanParts, Region, root, points_in, forced_or, next_forced}
use Rattle.box_tree.specs.Regions.{half_in, halved_or, next_half, turned, half_of, else_next}
use Rattle.box_tree.specs.Regions.{next_of, with_piece, narrowed, piece_by, piece, region_below}
use Rattle.box_tree.specs.Regions.{region_at}
use Rattle.box_tree.specs.Plans.{cut_by, cut_at, last_piece, piece_at}
use Rattle.box_tree.proofs.InRanges.{below_append}
use Rattle.box_tree.specs.Root.{with_range, split_ranges, plan_by, IsBounded}

module _ (K : ExprId → Type 0) where
  -- it is so of each range's variable
  abbrev AreAll : List SplitRange → Type 0
  AreAll rs = AllByRecursion (λ (r : SplitRange). K r.var) rs

  put_all : (p : SplitRange) (rs : List SplitRange) → K p.var → AreAll rs → AreAll (put_range p rs)
  put_all p [] k a = tt
  put_all p (r ∷ rs) k a = by_test (put_all p rs k a.1) (is_same r.var p.var)
    where
      by_test : AreAll (put_range p rs) → (b : Bool)
          → AreAll (if b then p ∷ rs else r ∷ put_range p rs)
      by_test h true = (k, a.1)
      by_test h false = (a.0, h)

  found_var : (x : ExprId) (rs : List SplitRange) (r : SplitRange) → AreAll rs
      → range_in x rs ≡ Some r → K r.var × (r.var ≡ x)
  found_var x [] r a e = cc
  found_var x (s ∷ rs) r a e = by_test (λ q. found_var x rs r a.1 q) (is_same s.var x) refl e
    where
      by_test : (range_in x rs ≡ Some r → K r.var × (r.var ≡ x)) → (b : Bool) → is_same s.var x ≡ b
          → (if b then Some s else range_in x rs) ≡ Some r → K r.var × (r.var ≡ x)
      by_test h true t q = subst (λ (p : SplitRange). K p.var × (p.var ≡ x))
          (let g : s ≡ r = cc in g) (a.0, expr_same s.var x t)
      by_test h false t q = h q

  narrowed_all : (x : ExprId) (points : List Dyadic) (i : ℕ) (rs : List SplitRange) → AreAll rs
      → AreAll (narrowed x points i rs)
  narrowed_all x points i rs a =
      at_option (range_in x rs) (λ o. AreAll (with_piece o points i rs)) (λ e. a)
      (λ r e. put_all (piece_of r points i) rs (found_var x rs r a e).0 a)

  piece_all : (plan : PlanParts) (g : Region) (n : Next) (i : ℕ) → AreAll g.ranges
      → AreAll (piece_by plan n g i).ranges
  piece_all plan g (next.Force x points done) i a = narrowed_all x points i g.ranges a
  piece_all plan g (next.Halve x m) i a = narrowed_all x (m ∷ []) i g.ranges a
  piece_all plan g next.Rest i a = a

  below_all : (plan : PlanParts) (g : Region) (path : List ℕ) → AreAll g.ranges
      → AreAll (region_below plan g path).ranges
  unfolding region_below
  below_all plan g [] a = a
  below_all plan g (i ∷ path) a =
      below_all plan (piece plan g i) path (piece_all plan g (next_of plan g) i a)

  -- ---- what is cut has a range
  abbrev IsOn : List SplitRange → Next → Type 0
  IsOn rs (next.Force x points done) = (r : SplitRange) × (range_in x rs ≡ Some r)
  IsOn rs (next.Halve x m) = (r : SplitRange) × (range_in x rs ≡ Some r)
  IsOn rs next.Rest = ⊤

  forced_on : (rs : List SplitRange) (done : ℕ) (cuts : List Split) (n : Next)
      → next_forced rs done cuts ≡ Some n → IsOn rs n
  forced_on rs done [] n e = cc
  forced_on rs done (s ∷ ss) n e =
      at_option (range_in s.var rs) (λ o. forced_or s.var (points_in o s.cut) (done + 1)
      (next_forced rs (done + 1) ss) ≡ Some n → IsOn rs n)
      (λ f q. forced_on rs (done + 1) ss n q)
      (λ r f q. by_points (λ w. forced_on rs (done + 1) ss n w) r f (points_in (Some r) s.cut) q) e
    where
      by_points : (next_forced rs (done + 1) ss ≡ Some n → IsOn rs n)
          → (r : SplitRange) → range_in s.var rs ≡ Some r → (ps : List Dyadic)
          → forced_or s.var ps (done + 1) (next_forced rs (done + 1) ss) ≡ Some n → IsOn rs n
      by_points h r f [] q = h q
      by_points h r f (p ∷ ps) q =
          subst (IsOn rs) (let g : next.Force s.var (p ∷ ps) (done + 1) ≡ n = cc in g) (r, f)

  half_on : (rs : List SplitRange) (xs : List ExprId) → IsOn rs (next_half rs xs)
  half_on rs [] = tt
  half_on rs (x ∷ xs) =
      at_option (range_in x rs) (λ o. IsOn rs (halved_or x (half_in o) (next_half rs xs)))
      (λ f. half_on rs xs) (λ r f. by_half (half_on rs xs) r f (half_point r))
    where
      by_half : IsOn rs (next_half rs xs) → (r : SplitRange) → range_in x rs ≡ Some r
          → (o : Option Dyadic) → IsOn rs (halved_or x o (next_half rs xs))
      by_half h r f None = h
      by_half h r f (Some m) = (r, f)

  next_on : (plan : PlanParts) (g : Region) → IsOn g.ranges (next_of plan g)
  next_on plan g =
      at_option (next_forced g.ranges g.done (drop g.done plan.cuts))
      (λ o. IsOn g.ranges (else_next o (half_of plan g)))
      (λ e. by_test (nat_lt g.halvings plan.depth))
      (λ n e. forced_on g.ranges g.done (drop g.done plan.cuts) n e)
    where
      by_test : (b : Bool) → IsOn g.ranges (if b
          then next_half g.ranges (turned g.halvings plan.halves) else next.Rest)
      by_test true = half_on g.ranges (turned g.halvings plan.halves)
      by_test false = tt

  piece_is : (plan : PlanParts) (g : Region) (n : Next) (i : ℕ)
      → AreAll g.ranges → IsOn g.ranges n → i < piece_count (cut_by n)
      → IsSomeAnd (last_piece (piece_by plan n g i)) (λ (p : ExprId × Interval). K p.0)
  piece_is plan g (next.Force x points done) i a o l =
      let f = found_var x g.ranges o.0 a o.1 in subst K f.1 f.0
  piece_is plan g (next.Halve x m) i a o l =
      let f = found_var x g.ranges o.0 a o.1 in subst K f.1 f.0
  piece_is plan g next.Rest i a o l = absurd (omega (arith, l))

  fits_at : (plan : PlanParts)
      → AreAll plan.ranges → (path : List ℕ) (i : ℕ) → i < piece_count (cut_at plan path)
      → IsSomeAnd (piece_at plan (path ++ i ∷ [])) (λ (p : ExprId × Interval). K p.0)
  unfolding cut_at piece_at
  fits_at plan a path i l =
      subst (λ (g : Region). IsSomeAnd (last_piece g) (λ (p : ExprId × Interval). K p.0))
      (sym (below_append plan (root plan) path i))
      (piece_is plan (region_at plan path) (next_of plan (region_at plan path)) i
      (below_all plan (root plan) path a) (next_on plan (region_at plan path)) l)

  -- ---- ranges come from hypotheses
  abbrev IsKnown : Option Fact → Type 0
  IsKnown o = (x : ExprId) (i : Interval) → o ≡ Some (fact.Bnd x i) → K x

  abbrev AreKnown : List Claim → Type 0
  AreKnown claims = AllByRecursion (λ c. IsKnown (hypothesis_fact c)) claims

  finite_var : (x : ExprId) (lo hi : End) (r : SplitRange)
      → finite_range x lo hi ≡ Some r → x ≡ r.var
  finite_var x (end.At low) (end.At high) r e =
      let h : (record { var = x; low = low; high = high }) ≡ r = cc in
      ap (λ (s : SplitRange). s.var) h
  finite_var x (end.At low) end.Low r e = cc
  finite_var x (end.At low) end.High r e = cc
  finite_var x end.Low hi r e = cc
  finite_var x end.High hi r e = cc

  range_var : (x : ExprId) (o : Option Fact) (r : SplitRange) → IsKnown o
      → range_by x o ≡ Some r → K r.var
  range_var x (Some (fact.Bnd y i)) r k e = by_test (is_same y x) refl e
    where
      by_test : (b : Bool) → is_same y x ≡ b
          → (if b then finite_range x i.lo i.hi else None) ≡ Some r → K r.var
      by_test true t q = subst K (expr_same y x t ∙ finite_var x i.lo i.hi r q) (k y i refl)
      by_test false t q = cc
  range_var x (Some (fact.Abs y s)) r k e = cc
  range_var x (Some (fact.Rel y z s)) r k e = cc
  range_var x (Some (fact.Fix y s)) r k e = cc
  range_var x (Some (fact.Nzr y)) r k e = cc
  range_var x (Some fact.Void) r k e = cc
  range_var x None r k e = cc

  split_var : (claims : List Claim) (x : ExprId) (r : SplitRange) → AreKnown claims
      → split_range claims x ≡ Some r → K r.var
  split_var [] x r k e = cc
  split_var (c ∷ cs) x r k e =
      by_range (λ q. split_var cs x r k.1 q) (range_by x (hypothesis_fact c)) refl e
    where
      by_range : (split_range cs x ≡ Some r → K r.var) → (o : Option SplitRange)
          → range_by x (hypothesis_fact c) ≡ o → or_later o (split_range cs x) ≡ Some r → K r.var
      by_range h None f q = h q
      by_range h (Some s) f q = range_var x (hypothesis_fact c) r k.0 (f ∙ q)

  ranges_all : (claims : List Claim) (order : List ExprId) → AreKnown claims
      → AreAll (split_ranges claims order)
  ranges_all claims [] k = tt
  ranges_all claims (x ∷ xs) k = by_range (ranges_all claims xs k) (split_range claims x) refl
    where
      by_range : AreAll (split_ranges claims xs) → (o : Option SplitRange)
          → split_range claims x ≡ o → AreAll (with_range o (split_ranges claims xs))
      by_range h None e = h
      by_range h (Some r) e = (split_var claims x r k e, h)

  plan_all : (claims : List Claim) (hints : HintList) (depth : ℕ) → AreKnown claims
      → AreAll (plan_by claims hints depth).ranges
  plan_all claims hints depth k = ranges_all claims hints.order k

  known_from : (claims : List Claim) → ((k : ℕ) (c : Claim) → slice_get claims k ≡ Some c
      → IsKnown (hypothesis_fact c)) → AreKnown claims
  known_from [] h = tt
  known_from (c ∷ cs) h = (h zero c refl, known_from cs (λ k d e. h (suc k) d e))

-- Each piece is of an expression that a hypothesis bounds.
pub pieces_bounded : (claims : List Claim) (hints : HintList) (depth : ℕ) (path : List ℕ) (i : ℕ)
    → i < piece_count (cut_at (plan_by claims hints depth) path)
    → IsSomeAnd (piece_at (plan_by claims hints depth) (path ++ i ∷ []))
    (λ (p : ExprId × Interval). IsBounded claims p.0)
pieces_bounded claims hints depth path i l =
    fits_at (IsBounded claims) (plan_by claims hints depth) (plan_all (IsBounded claims) claims
    hints depth (known_from (IsBounded claims) claims (λ k c e x j q. (k, c, e, j, q)))) path i l
