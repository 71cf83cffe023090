-- What is known of the ranges of a box.
use Rattle.std.specs.Prelude.{◌≡◌, ℕ, zero, suc, true, List, [], ◌∷◌, ◌++◌, Option, Some, None}
use Rattle.std.specs.Prelude.{if◌then◌else◌, Contains, refl}
use Rattle.std.specs.List.{AllByRecursion}
use Rattle.std.proofs.Common.{sym, ◌∙◌, ap, subst, inl, inr}
use Rattle.fx_model.specs.declared.ExprId.{ExprId}
use Rattle.dyadic.specs.declared.number.Dyadic.{Dyadic}
use Rattle.dyadic.specs.declared.number.End.{End}
use Rattle.dyadic.specs.declared.number.End.TheVariants as end
use Rattle.interval.specs.declared.interval.Interval.{Interval}
use Rattle.interval.specs.Meets.{interval_from}
use Rattle.interval.proofs.Meets.{interval_from_self}
use Rattle.pair_closure.specs.Reached.{Has}
use Rattle.pair_closure.proofs.Reached.{has_contains}
use Rattle.facts.specs.declared.fact.Fact.{Fact}
use Rattle.facts.specs.declared.fact.Fact.TheVariants as fact
use Rattle.facts.specs.Order.{is_same}
use Rattle.facts.proofs.CommonParts.{expr_same, same_expr, all_as}
use Rattle.script_claims.specs.declared.claim.Claim.{Claim}
use Rattle.script_claims.specs.Facts.{hypothesis_fact, with_fact, facts_of}
use Rattle.derivation.specs.Derivations.{Setting, given}
use Rattle.derivation.specs.Known.{Piece, Known}
use Rattle.script_claims.specs.declared.range.SplitRange.{SplitRange}
use Rattle.script_claims.specs.Ranges.{finite_range, range_by, or_later, split_range}
use Rattle.box_tree.specs.Ranges.{range_in, put_range}
use Rattle.box_tree.specs.Points.{piece_of}
use Rattle.box_tree.specs.Regions.{PlanParts, Region, root, piece, region_below, region_at}
use Rattle.box_tree.specs.Regions.{narrowed, with_piece}
use Rattle.box_tree.specs.Plans.{or_whole, interval_of, last_piece, with_last, pieces_below}
use Rattle.box_tree.specs.Plans.{pieces_at, piece_at}
use Rattle.box_tree.specs.Root.{with_range}
use Rattle.box_tree.specs.Root.{split_ranges}
use Rattle.box_tree.proofs.InRanges.{at_bool, below_append, range_var, finite_out}
use Rattle.cert_checker.specs.Faults.{IsVariable}

-- ---- boxes along paths
pub region_of_piece : (plan : PlanParts) (path : List ℕ) (i : ℕ)
    → region_at plan (path ++ i ∷ []) ≡ piece plan (region_at plan path) i
region_of_piece plan path i = below_append plan (root plan) path i

pieces_more : (plan : PlanParts) (g : Region) (path : List ℕ) (i : ℕ) (above : List Piece) →
    pieces_below plan g (path ++ i ∷ []) above ≡ with_last
    (last_piece (piece plan (region_below plan g path) i)) (pieces_below plan g path above)
unfolding region_below
pieces_more plan g [] i above = refl
pieces_more plan g (j ∷ path) i above =
    pieces_more plan (piece plan g j) path i (with_last (last_piece (piece plan g j)) above)

pub pieces_of_piece : (plan : PlanParts) (path : List ℕ) (i : ℕ) → pieces_at plan (path ++ i ∷ [])
    ≡ with_last (last_piece (piece plan (region_at plan path) i)) (pieces_at plan path)
unfolding pieces_at
pieces_of_piece plan path i = pieces_more plan (root plan) path i []

pub piece_there : (plan : PlanParts) (path : List ℕ) (i : ℕ)
    → piece_at plan (path ++ i ∷ []) ≡ last_piece (piece plan (region_at plan path) i)
unfolding piece_at
piece_there plan path i = ap last_piece (region_of_piece plan path i)

-- ---- ranges in lists
-- the range that was put is found
put_found : (p r : SplitRange) (rs : List SplitRange) → range_in p.var rs ≡ Some r
    → range_in p.var (put_range p rs) ≡ Some p
put_found p r [] e = cc
put_found p r (q ∷ rs) e = at_bool (is_same q.var p.var) (λ b. is_same q.var p.var ≡ b
    → (if b then Some q else range_in p.var rs) ≡ Some r
    → range_in p.var (if b then p ∷ rs else q ∷ put_range p rs) ≡ Some p)
    (λ t s f. let k : is_same p.var p.var ≡ true = same_expr p.var p.var refl in rw k refl)
    (λ t s f. rw s (put_found p r rs f)) refl e

put_all : (P : SplitRange → Type 0) (p : SplitRange) (rs : List SplitRange) → P p
    → AllByRecursion P rs → AllByRecursion P (put_range p rs)
put_all P p [] h a = tt
put_all P p (r ∷ rs) h a =
    at_bool (is_same r.var p.var) (λ b. AllByRecursion P (if b then p ∷ rs else r ∷ put_range p rs))
    (λ t. (h, a.1)) (λ f. (a.0, put_all P p rs h a.1))

range_all : (P : SplitRange → Type 0) (x : ExprId) (rs : List SplitRange) (r : SplitRange)
    → range_in x rs ≡ Some r → AllByRecursion P rs → P r
range_all P x [] r e a = cc
range_all P x (q ∷ rs) r e a =
    at_bool (is_same q.var x) (λ b. (if b then Some q else range_in x rs) ≡ Some r → P r)
    (λ t f. let s : q ≡ r = cc in subst P s a.0) (λ t f. range_all P x rs r f a.1) e

-- ---- what is known
-- The range is of a variable, and it is known that this lies in it.
pub record IsRangeAt (u : Setting) (height : ℕ) (pieces : List Piece)
    (r : SplitRange) : Type 0 where
  pub variable : IsVariable u.nodes r.var
  pub interval : Interval
  pub low : interval.lo ≡ end.At r.low
  pub high : interval.hi ≡ end.At r.high
  pub known : Known u height pieces (fact.Bnd r.var interval)

abbrev pub AreRangesAt : Setting → ℕ → List Piece → List SplitRange → Type 0
AreRangesAt u height pieces ranges = AllByRecursion (IsRangeAt u height pieces) ranges

pub range_here : (u : Setting) (height : ℕ) (pieces : List Piece) (ranges : List SplitRange)
    (x : ExprId) (r : SplitRange) → range_in x ranges ≡ Some r → AreRangesAt u height pieces ranges
    → IsRangeAt u height pieces r
range_here u height pieces ranges x r e a = range_all (IsRangeAt u height pieces) x ranges r e a

-- the range as an interval
pub interval_is : (r : SplitRange) (i : Interval) → i.lo ≡ end.At r.low → i.hi ≡ end.At r.high
    → interval_of (Some r) ≡ i
interval_is r i l h =
    let P : End → Type 0 = λ e. interval_from e (end.At r.high) ≡ Some i in
    let Q : End → Type 0 = λ e. interval_from i.lo e ≡ Some i in
    ap or_whole (subst P l (subst Q h (sym (interval_from_self i))))

-- ---- the whole box
-- what a hypothesis gives
record IsGivenRange (facts : List Fact) (x : ExprId) (r : SplitRange) : Type 0 where
  interval : Interval
  low : interval.lo ≡ end.At r.low
  high : interval.hi ≡ end.At r.high
  var : r.var ≡ x
  there : Has facts (fact.Bnd x interval)

by_fact : (x : ExprId) (o : Option Fact) (facts : List Fact) (r : SplitRange)
    → range_by x o ≡ Some r → IsGivenRange (with_fact o facts) x r
by_fact x None facts r e = cc
by_fact x (Some (fact.Bnd y i)) facts r e =
    at_bool (is_same y x) (λ b. is_same y x ≡ b → (if b then finite_range x i.lo i.hi else None)
    ≡ Some r → IsGivenRange (fact.Bnd y i ∷ facts) x r)
    (λ t s f. let q = finite_out x i.lo i.hi r f in record {
      interval = i;
      low = q.0;
      high = q.1;
      var = q.2;
      there = (zero, ap (λ z. Some (fact.Bnd z i)) (expr_same y x s));
    })
    (λ t s f. cc) refl e
by_fact x (Some (fact.Abs y s)) facts r e = cc
by_fact x (Some (fact.Rel y z t)) facts r e = cc
by_fact x (Some (fact.Fix y k)) facts r e = cc
by_fact x (Some (fact.Nzr y)) facts r e = cc
by_fact x (Some fact.Void) facts r e = cc

has_more : (o : Option Fact) (facts : List Fact) (f : Fact) → Has facts f
    → Has (with_fact o facts) f
has_more None facts f h = h
has_more (Some g) facts f h = (suc h.0, h.1)

either : (r : SplitRange) (T : Type 0) (o later : Option SplitRange) → or_later o later ≡ Some r
    → (o ≡ Some r → T) → (later ≡ Some r → T) → T
either r T None later e f g = g e
either r T (Some q) later e f g = f e

split_given : (cs : List Claim) (x : ExprId) (r : SplitRange) → split_range cs x ≡ Some r
    → IsGivenRange (facts_of cs) x r
split_given [] x r e = cc
split_given (c ∷ cs) x r e = either r (IsGivenRange (facts_of (c ∷ cs)) x r)
    (range_by x (hypothesis_fact c)) (split_range cs x) e
    (λ q. by_fact x (hypothesis_fact c) (facts_of cs) r q)
    (λ q. let g = split_given cs x r q in record {
      interval = g.interval;
      low = g.low;
      high = g.high;
      var = g.var;
      there = has_more (hypothesis_fact c) (facts_of cs) (fact.Bnd x g.interval) g.there;
    })

module _ (u : Setting) (height : ℕ) (claims : List Claim)
    (given_facts : u.hypotheses ≡ facts_of claims) where
  given_range : (x : ExprId) (r : SplitRange) → IsVariable u.nodes x
      → IsGivenRange (facts_of claims) x r → IsRangeAt u height [] r
  given_range x r v g =
      let f : Fact = fact.Bnd x g.interval in
      let k : Known u height [] f = given (inl (subst (λ fs. Contains fs f) (sym given_facts)
      (has_contains (facts_of claims) f g.there))) in
      record {
        variable = subst (IsVariable u.nodes) (sym g.var) v;
        interval = g.interval;
        low = g.low;
        high = g.high;
        known = subst (λ (z : ExprId). Known u height [] (fact.Bnd z g.interval)) (sym g.var) k;
      }

  one_range : (x : ExprId) (rest : List SplitRange) → IsVariable u.nodes x
      → AreRangesAt u height [] rest → (o : Option SplitRange) → split_range claims x ≡ o
      → AreRangesAt u height [] (with_range o rest)
  one_range x rest v a None e = a
  one_range x rest v a (Some r) e = (given_range x r v (split_given claims x r e), a)

  pub whole_ranges : (xs : List ExprId) → AllByRecursion (IsVariable u.nodes) xs
      → AreRangesAt u height [] (split_ranges claims xs)
  whole_ranges [] v = tt
  whole_ranges (x ∷ xs) v =
      one_range x (split_ranges claims xs) v.0 (whole_ranges xs v.1) (split_range claims x) refl

-- ---- a piece
-- what is known of a range at a box is known at its pieces
range_below : (u : Setting) (height : ℕ) (p : Piece) (pieces : List Piece) (r : SplitRange)
    → IsRangeAt u height pieces r → IsRangeAt u height (p ∷ pieces) r
range_below u height p pieces r a = record {
  variable = a.variable;
  interval = a.interval;
  low = a.low;
  high = a.high;
  known = given (inr (inr a.known));
}

-- The piece of a range with its ends, and the ranges of that piece of the box.
pub ranges_below : (u : Setting) (height : ℕ) (pieces : List Piece) (ranges : List SplitRange)
    (x : ExprId) (points : List Dyadic) (k : ℕ) (r : SplitRange) (i : Interval)
    → range_in x ranges ≡ Some r
    → AreRangesAt u height pieces ranges → i.lo ≡ end.At (piece_of r points k).low
    → i.hi ≡ end.At (piece_of r points k).high
    → (range_in x (narrowed x points k ranges) ≡ Some (piece_of r points k))
    × AreRangesAt u height ((x, i) ∷ pieces) (narrowed x points k ranges)
ranges_below u height pieces ranges x points k r i e a l h =
    let p : SplitRange = piece_of r points k in
    let v : r.var ≡ x = range_var x ranges r e in
    let s : narrowed x points k ranges ≡ put_range p ranges =
    ap (λ o. with_piece o points k ranges) e in
    let found : range_in p.var (put_range p ranges) ≡ Some p =
    put_found p r ranges (ap (λ (z : ExprId). range_in z ranges) v ∙ e) in
    let here = range_here u height pieces ranges x r e a in
    let new : IsRangeAt u height ((x, i) ∷ pieces) p = record {
      variable = here.variable;
      interval = i;
      low = l;
      high = h;
      known = subst (λ (z : ExprId). Known u height ((x, i) ∷ pieces) (fact.Bnd z i)) (sym v)
          (given (inr (inl refl)));
    } in (
      ap (range_in x) s ∙ (ap (λ (z : ExprId). range_in z (put_range p ranges)) (sym v) ∙ found),
      subst (λ rs. AreRangesAt u height ((x, i) ∷ pieces) rs) (sym s)
          (put_all (IsRangeAt u height ((x, i) ∷ pieces)) p ranges new
          (all_as (IsRangeAt u height pieces) (IsRangeAt u height ((x, i) ∷ pieces))
          (λ q b. range_below u height (x, i) pieces q b) ranges a)),
    )
