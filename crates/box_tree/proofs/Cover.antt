-- The pieces of a box cover it, and lie in it.
use Rattle.std.specs.Prelude.{◌≡◌, ℕ, zero, suc, ◌<◌, ◌+◌, ◌-◌, ◌&&◌, nat_lt, true, false, List, []}
use Rattle.std.specs.Prelude.{◌∷◌, ◌++◌, length, drop, Option, Some, None, IfSome, if◌then◌else◌}
use Rattle.std.specs.Prelude.{refl, ◌⊎◌, ⊤, slice_index_or}
use Rattle.std.specs.List.{AllByRecursion}
use Rattle.std.specs.Option.{option_map, IsSomeAnd}
use Rattle.std.proofs.Common.{sym, ap, ◌∙◌, subst, arith, inl, inr}
use Rattle.std.proofs.lemmas.Bool.{and_parts}
use Rattle.fx_model.specs.declared.ExprId.{ExprId}
use Rattle.fx_model.specs.Fraction.{Fraction, ◌≤ℚ◌, lt_le, le_refl, le_trans, le_or_lt}
use Rattle.fx_model.specs.Enclosure.{Lies}
use Rattle.dyadic.specs.declared.number.Dyadic.{Dyadic}
use Rattle.dyadic.specs.declared.number.End.TheVariants as end
use Rattle.dyadic.specs.Values.{value_of}
use Rattle.dyadic.specs.Rising.{IsRising}
use Rattle.dyadic.proofs.Rising.{rising_more}
use Rattle.interval.specs.declared.interval.Interval.{Interval}
use Rattle.interval.specs.Intervals.{range_of}
use Rattle.interval.specs.Meets.{interval_from-some}
use Rattle.facts.specs.Order.{is_same}
use Rattle.facts.proofs.CommonParts.{at_option, expr_same, same_itself}
use Rattle.facts.proofs.Held.{some-and}
use Rattle.script_hints.specs.declared.hint.Split.{Split}
use Rattle.script_hints.specs.declared.hint.Cutting.{Cutting}
use Rattle.box_tree.specs.declared.next.Next.{Next}
use Rattle.box_tree.specs.declared.next.Next.TheVariants as next
use Rattle.script_claims.specs.declared.range.SplitRange.{SplitRange}
use Rattle.script_claims.specs.Ranges.{IsOrdered, is_inside}
use Rattle.box_tree.specs.Ranges.{IsWithin, range_in, put_range}
use Rattle.box_tree.specs.Points.{is_above_last, with_point, with_points, asked_points, cut_points}
use Rattle.box_tree.specs.Points.{half_point, piece_of}
use Rattle.box_tree.specs.Nexts.{IsWithinNext}
use Rattle.box_tree.specs.Pieces.{piece_count}
use Rattle.box_tree.specs.Regions.{PlanParts, Region, root, with_piece, next_of, points_in}
use Rattle.box_tree.specs.Regions.{forced_or, next_forced, half_in, halved_or, next_half, turned}
use Rattle.box_tree.specs.Regions.{half_of, else_next, piece_by, piece, region_below, region_at}
use Rattle.box_tree.specs.Plans.{cut_by, cut_at, or_whole, interval_of, last_piece, with_last}
use Rattle.box_tree.specs.Plans.{pieces_below, pieces_at, piece_at}
use Rattle.box_tree.specs.Covers.{Values, Has, LiesInRange, LieIn, LieInBox, LiesInPiece}
use Rattle.box_tree.proofs.Put.{range_ordered, put_ordered}
use Rattle.box_tree.proofs.Within.{forced_step, piece_ordered, forced_within, half_within}
use Rattle.box_tree.proofs.InRanges.{at_bool, above_in, range_var, below_append}

-- ---- one range
-- some piece of a range has each of its values
cover : (low high : Dyadic) (points : List Dyadic) (v : Fraction)
    → value_of low ≤ℚ v → v ≤ℚ value_of high
    → (i : ℕ) × (i < length points + 1) × (value_of (slice_index_or (low ∷ points) i high) ≤ℚ v)
    × (v ≤ℚ value_of (slice_index_or points i high))
cover low high [] v a b = (0, omega arith, a, b)
cover low high (p ∷ ps) v a b = elim (le_or_lt v (value_of p)) [
  | inl l ↦ (0, omega arith, a, l)
  | inr l ↦ (let c = cover p high ps v (lt_le (value_of p) v l) b in let d = c.1 in
      (suc c.0, omega (arith, d), c.2, c.3))
]

-- ---- the ranges of a box
other : (a b c : ExprId) → is_same a b ≡ false → is_same a c ≡ true → is_same b c ≡ false
other a b c n t =
    let e = expr_same a c t in
    at_bool (is_same b c) (λ d. is_same b c ≡ d → d ≡ false)
    (λ _ u. let f : b ≡ a = expr_same b c u ∙ sym e in
    let g : is_same a b ≡ true = ap (λ (k : ExprId). is_same a k) f ∙ same_itself a in
    let k : true ≡ false = sym g ∙ n in cc)
    (λ _ u. refl) refl

-- where a variable has a range, putting another there changes that alone
put_in : (p r : SplitRange) (rs : List SplitRange) (y : ExprId) → range_in p.var rs ≡ Some r
    → range_in y (put_range p rs) ≡ (if is_same p.var y then Some p else range_in y rs)
put_in p r [] y e = cc
put_in p r (q ∷ rs) y e =
    at_bool (is_same q.var p.var) (λ b. is_same q.var p.var ≡ b
    → (if b then Some q else range_in p.var rs) ≡ Some r → range_in y (if b then p ∷ rs
    else q ∷ put_range p rs) ≡ (if is_same p.var y then Some p else range_in y (q ∷ rs)))
    (λ t s f. let same : q.var ≡ p.var = expr_same q.var p.var s in
    at_bool (is_same p.var y) (λ b. (if b then Some p else range_in y rs)
    ≡ (if b then Some p else (if is_same q.var y then Some q else range_in y rs)))
    (λ u. refl)
    (λ u. let w : is_same q.var y ≡ false = ap (λ (k : ExprId). is_same k y) same ∙ u in rw w refl))
    (λ t s f.
    at_bool (is_same q.var y) (λ b. is_same q.var y ≡ b → (if b then Some q else range_in y
    (put_range p rs)) ≡ (if is_same p.var y then Some p else (if b then Some q else range_in y rs)))
    (λ u w. let z = other q.var p.var y s w in rw z refl)
    (λ u w. put_in p r rs y f) refl)
    refl e

-- ---- a box that is cut
-- one range is replaced
put_all : (v : Values) (p r : SplitRange) (rs : List SplitRange) → range_in p.var rs ≡ Some r
    → IsSomeAnd (v p.var) (Has p) → LieIn v rs → LieIn v (put_range p rs)
put_all v p r rs e h i y =
    let P : Option SplitRange → Type 0 = λ o. LiesInRange o (v y) in
    subst P (sym (put_in p r rs y e))
    (at_bool (is_same p.var y) (λ b. LiesInRange (if b then Some p else range_in y rs) (v y))
    (λ t. let k = expr_same p.var y t in subst (λ (z : ExprId). IsSomeAnd (v z) (Has p)) k h)
    (λ f. i y))

cover_some : (r : SplitRange) (points : List Dyadic) (o : Option Fraction) → IsSomeAnd o (Has r)
    → (i : ℕ) × (i < length points + 1) × IsSomeAnd o (Has (piece_of r points i))
cover_some r points None h = absurd h
cover_some r points (Some w) h =
    let c = cover r.low r.high points w h.0 h.1 in (c.0, c.1, (c.2, c.3))

cover_by : (v : Values) (x : ExprId) (points : List Dyadic) (rs : List SplitRange)
    (o : Option SplitRange) → range_in x rs ≡ o → LieIn v rs
    → (i : ℕ) × (i < length points + 1) × LieIn v (with_piece o points i rs)
cover_by v x points rs None e i = (0, omega arith, i)
cover_by v x points rs (Some r) e i =
    let c = cover_some r points (v x) (subst (λ o. LiesInRange o (v x)) e (i x)) in
    let k = range_var x rs r e in
    let p = piece_of r points c.0 in
    let f : range_in p.var rs ≡ Some r = ap (λ (z : ExprId). range_in z rs) k ∙ e in
    let g : IsSomeAnd (v p.var) (Has p) =
    subst (λ (z : ExprId). IsSomeAnd (v z) (Has p)) (sym k) c.2 in
    (c.0, c.1, put_all v p r rs f g i)

-- some piece of a box that is cut has all values of the box
next_covers : (v : Values) (plan : PlanParts) (g : Region) (n : Next) → LieIn v g.ranges
    → 0 < piece_count (cut_by n)
    → (i : ℕ) × (i < piece_count (cut_by n)) × LieIn v (piece_by plan n g i).ranges
next_covers v plan g (next.Force x points done) h l =
    cover_by v x points g.ranges (range_in x g.ranges) refl h
next_covers v plan g (next.Halve x m) h l =
    let c = cover_by v x (m ∷ []) g.ranges (range_in x g.ranges) refl h in
    (c.0, (let a = c.1 in omega (arith, a)), c.2)
next_covers v plan g next.Rest h l = absurd (omega (arith, l))

-- ---- pieces lie in the box
nth_above : (r : SplitRange) (points : List Dyadic) (i : ℕ)
    → IsOrdered r → AllByRecursion (IsWithin r) points
    → value_of r.low ≤ℚ value_of (slice_index_or points i r.high)
nth_above r [] i o w = o
nth_above r (p ∷ ps) zero o w = w.0.0
nth_above r (p ∷ ps) (suc i) o w = nth_above r ps i o w.1

low_above : (r : SplitRange) (points : List Dyadic) (i : ℕ)
    → IsOrdered r → AllByRecursion (IsWithin r) points
    → value_of r.low ≤ℚ value_of (slice_index_or (r.low ∷ points) i r.high)
low_above r points zero o w = le_refl (value_of r.low)
low_above r points (suc i) o w = nth_above r points i o w

high_below : (r : SplitRange) (points : List Dyadic) (i : ℕ) → AllByRecursion (IsWithin r) points
    → value_of (slice_index_or points i r.high) ≤ℚ value_of r.high
high_below r [] i w = le_refl (value_of r.high)
high_below r (p ∷ ps) zero w = w.0.1
high_below r (p ∷ ps) (suc i) w = high_below r ps i w.1

piece_inside : (r : SplitRange) (points : List Dyadic) (i : ℕ) (v : Fraction) → IsOrdered r
    → AllByRecursion (IsWithin r) points → Has (piece_of r points i) v → Has r v
piece_inside r points i v o w h = (
  le_trans (value_of r.low)
      (value_of (slice_index_or (r.low ∷ points) i r.high)) v (low_above r points i o w) h.0,
  le_trans v (value_of (slice_index_or points i r.high))
      (value_of r.high) h.1 (high_below r points i w),
)

inside_by : (v : Values) (x : ExprId) (points : List Dyadic) (i : ℕ) (rs : List SplitRange)
    (o : Option SplitRange) → range_in x rs ≡ o → AllByRecursion IsOrdered rs
    → IfSome o (λ r. AllByRecursion (IsWithin r) points)
    → LieIn v (with_piece o points i rs) → LieIn v rs
inside_by v x points i rs None e a w h y = h y
inside_by v x points i rs (Some r) e a w h y =
    let k = range_var x rs r e in
    let p = piece_of r points i in
    let f : range_in p.var rs ≡ Some r = ap (λ (z : ExprId). range_in z rs) k ∙ e in
    let q : LiesInRange (if is_same p.var y then Some p else range_in y rs) (v y) =
    subst (λ o. LiesInRange o (v y)) (put_in p r rs y f) (h y) in
    at_bool (is_same p.var y) (λ b. is_same p.var y ≡ b
    → LiesInRange (if b then Some p else range_in y rs) (v y) → LiesInRange (range_in y rs) (v y))
    (λ t s u. let same = expr_same p.var y s in
    let m : range_in y rs ≡ Some r = ap (λ (z : ExprId). range_in z rs) (sym same) ∙ f in
    subst (λ o. LiesInRange o (v y)) (sym m) (some-and (v y) (Has (piece_of r points i)) (Has r)
    (λ k h. piece_inside r points i k (range_ordered x rs r e a) w h) u))
    (λ t s u. u) refl q

pub next_within : (plan : PlanParts) (g : Region) → IsWithinNext g.ranges (next_of plan g)
next_within plan g = at_option (next_forced g.ranges g.done (drop g.done plan.cuts))
    (λ o. IsWithinNext g.ranges (else_next o (half_of plan g)))
    (λ _. half_within plan g) (λ n e. forced_within g.ranges g.done (drop g.done plan.cuts) n e)

next_inside : (v : Values) (plan : PlanParts) (g : Region) (n : Next) (i : ℕ)
    → AllByRecursion IsOrdered g.ranges → IsWithinNext g.ranges n
    → LieIn v (piece_by plan n g i).ranges → LieIn v g.ranges
next_inside v plan g (next.Force x points done) i a w h =
    inside_by v x points i g.ranges (range_in x g.ranges) refl a w h
next_inside v plan g (next.Halve x m) i a w h =
    inside_by v x (m ∷ []) i g.ranges (range_in x g.ranges) refl a w h
next_inside v plan g next.Rest i a w h = h

-- ---- ranges stay in order
point_rising : (r : SplitRange) (points : List Dyadic) (p : Dyadic) → IsRising points
    → IsRising (with_point r points p)
point_rising r points p u = at_bool (is_inside r p && is_above_last points p)
    (λ b. IsRising (if b then points ++ p ∷ [] else points))
    (λ t. rising_more points p u
    (above_in points p (and_parts (is_inside r p) (is_above_last points p) t).1)) (λ f. u)

pub points_rising : (r : SplitRange) (points more : List Dyadic) → IsRising points
    → IsRising (with_points r points more)
points_rising r points [] u = u
points_rising r points (p ∷ ps) u =
    points_rising r (with_point r points p) ps (point_rising r points p u)

pub none_rising : IsRising []
none_rising i j l m = absurd (omega (arith, m))

pub one_rising : (m : Dyadic) → IsRising (m ∷ [])
one_rising m i j l k = absurd (omega (arith, l, k))

in_rising : (o : Option SplitRange) (c : Cutting) → IsRising (points_in o c)
in_rising None c = none_rising
in_rising (Some r) c = points_rising r [] (asked_points r c) none_rising

abbrev RisingNext : Next → Type 0
RisingNext (next.Force x points done) = IsRising points
RisingNext _ = ⊤

forced_rising : (ranges : List SplitRange) (done : ℕ) (cuts : List Split) (n : Next)
    → next_forced ranges done cuts ≡ Some n → RisingNext n
forced_rising ranges done [] n e = cc
forced_rising ranges done (s ∷ ss) n e =
    elim (forced_step s.var (points_in (range_in s.var ranges) s.cut) (done + 1)
    (next_forced ranges (done + 1) ss) n e) [
      | inl l ↦ forced_rising ranges (done + 1) ss n l
      | inr q ↦ subst RisingNext (sym q) (in_rising (range_in s.var ranges) s.cut)
    ]

or_rising : (x : ExprId) (o : Option Dyadic) (later : Next) → RisingNext later
    → RisingNext (halved_or x o later)
or_rising x None later u = u
or_rising x (Some m) later u = tt

halves_rising : (ranges : List SplitRange) (xs : List ExprId) → RisingNext (next_half ranges xs)
halves_rising ranges [] = tt
halves_rising ranges (x ∷ xs) =
    or_rising x (half_in (range_in x ranges)) (next_half ranges xs) (halves_rising ranges xs)

next_rising : (plan : PlanParts) (g : Region) → RisingNext (next_of plan g)
next_rising plan g = at_option (next_forced g.ranges g.done (drop g.done plan.cuts))
    (λ o. RisingNext (else_next o (half_of plan g)))
    (λ _. at_bool (nat_lt g.halvings plan.depth)
    (λ b. RisingNext (if b then next_half g.ranges (turned g.halvings plan.halves) else next.Rest))
    (λ t. halves_rising g.ranges (turned g.halvings plan.halves)) (λ f. tt))
    (λ n e. forced_rising g.ranges g.done (drop g.done plan.cuts) n e)

ordered_by : (x : ExprId) (points : List Dyadic) (i : ℕ) (rs : List SplitRange)
    (o : Option SplitRange) → range_in x rs ≡ o → AllByRecursion IsOrdered rs
    → IfSome o (λ r. AllByRecursion (IsWithin r) points) → IsRising points
    → AllByRecursion IsOrdered (with_piece o points i rs)
ordered_by x points i rs None e a w u = a
ordered_by x points i rs (Some r) e a w u =
    put_ordered (piece_of r points i) rs (piece_ordered r points i (range_ordered x rs r e a) w u) a

next_ordered : (plan : PlanParts) (g : Region) (n : Next) (i : ℕ)
    → AllByRecursion IsOrdered g.ranges → IsWithinNext g.ranges n → RisingNext n
    → AllByRecursion IsOrdered (piece_by plan n g i).ranges
next_ordered plan g (next.Force x points done) i a w u =
    ordered_by x points i g.ranges (range_in x g.ranges) refl a w u
next_ordered plan g (next.Halve x m) i a w u =
    ordered_by x (m ∷ []) i g.ranges (range_in x g.ranges) refl a w (one_rising m)
next_ordered plan g next.Rest i a w u = a

piece_stays : (plan : PlanParts) (g : Region) (i : ℕ) → AllByRecursion IsOrdered g.ranges
    → AllByRecursion IsOrdered (piece plan g i).ranges
piece_stays plan g i a =
    next_ordered plan g (next_of plan g) i a (next_within plan g) (next_rising plan g)

-- ---- along paths
below_ordered : (plan : PlanParts) (g : Region) (path : List ℕ) → AllByRecursion IsOrdered g.ranges
    → AllByRecursion IsOrdered (region_below plan g path).ranges
unfolding region_below
below_ordered plan g [] a = a
below_ordered plan g (i ∷ path) a =
    below_ordered plan (piece plan g i) path (piece_stays plan g i a)

below_inside : (v : Values) (plan : PlanParts) (g : Region) (path : List ℕ)
    → AllByRecursion IsOrdered g.ranges
    → LieIn v (region_below plan g path).ranges → LieIn v g.ranges
unfolding region_below
below_inside v plan g [] a h = h
below_inside v plan g (i ∷ path) a h =
    next_inside v plan g (next_of plan g) i a (next_within plan g)
    (below_inside v plan (piece plan g i) path (piece_stays plan g i a) h)

-- ---- what callers learn
pub box_covers : (plan : PlanParts) (v : Values) (path : List ℕ) → LieInBox plan v path
    → 0 < piece_count (cut_at plan path)
    → (i : ℕ) × (i < piece_count (cut_at plan path)) × LieInBox plan v (path ++ i ∷ [])
unfolding cut_at
box_covers plan v path h l =
    let c = next_covers v plan (region_at plan path) (next_of plan (region_at plan path)) h l in (
      c.0,
      c.1,
      (let P : Region → Type 0 = λ g. LieIn v g.ranges in
          subst P (sym (below_append plan (root plan) path c.0)) c.2),
    )

pub box_inside : (plan : PlanParts) → AllByRecursion IsOrdered plan.ranges
    → (v : Values) (path : List ℕ) (i : ℕ) → LieInBox plan v (path ++ i ∷ []) → LieInBox plan v path
box_inside plan a v path i h =
    let g = region_at plan path in
    let k : LieIn v (piece plan g i).ranges = (let P : Region → Type 0 = λ g. LieIn v g.ranges in
    subst P (below_append plan (root plan) path i) h) in
    next_inside v plan g (next_of plan g) i
    (below_ordered plan (root plan) path a) (next_within plan g) k

-- ---- the variable of a cut has a range
abbrev IsRanged : List SplitRange → Option ExprId → Type 0
IsRanged ranges None = ⊤
IsRanged ranges (Some x) = (r : SplitRange) × (range_in x ranges ≡ Some r)

-- what is done next is done along a variable that has a range
abbrev RangedNext : List SplitRange → Next → Type 0
RangedNext ranges (next.Force x points done) = IsRanged ranges (Some x)
RangedNext ranges (next.Halve x m) = IsRanged ranges (Some x)
RangedNext ranges next.Rest = ⊤

forced_ranged_by : (ranges : List SplitRange) (x : ExprId) (o : Option SplitRange) (c : Cutting)
    (done : ℕ) (later : Option Next) (n : Next) → range_in x ranges ≡ o
    → forced_or x (points_in o c) done later ≡ Some n → (later ≡ Some n) ⊎ RangedNext ranges n
forced_ranged_by ranges x None c done later n e f = inl f
forced_ranged_by ranges x (Some r) c done later n e f = elim (forced_step x (cut_points r c) done
    later n f) [ inl l ↦ inl l | inr q ↦ inr (subst (RangedNext ranges) (sym q) (r, e)) ]

forced_ranged : (ranges : List SplitRange) (done : ℕ) (cuts : List Split) (n : Next)
    → next_forced ranges done cuts ≡ Some n → RangedNext ranges n
forced_ranged ranges done [] n e = cc
forced_ranged ranges done (s ∷ ss) n e =
    elim (forced_ranged_by ranges s.var (range_in s.var ranges) s.cut (done + 1)
    (next_forced ranges (done + 1) ss) n refl e) [
      | inl l ↦ forced_ranged ranges (done + 1) ss n l
      | inr q ↦ q
    ]

half_ranged_by : (ranges : List SplitRange) (x : ExprId) (o : Option SplitRange) (later : Next)
    → range_in x ranges ≡ o → RangedNext ranges later
    → RangedNext ranges (halved_or x (half_in o) later)
half_ranged_by ranges x None later e h = h
half_ranged_by ranges x (Some r) later e h = or_ranged (half_point r)
  where
    or_ranged : (o : Option Dyadic) → RangedNext ranges (halved_or x o later)
    or_ranged None = h
    or_ranged (Some m) = (r, e)

halves_ranged : (ranges : List SplitRange) (xs : List ExprId)
    → RangedNext ranges (next_half ranges xs)
halves_ranged ranges [] = tt
halves_ranged ranges (x ∷ xs) =
    half_ranged_by ranges x (range_in x ranges) (next_half ranges xs) refl (halves_ranged ranges xs)

next_ranged : (plan : PlanParts) (g : Region) → RangedNext g.ranges (next_of plan g)
next_ranged plan g = at_option (next_forced g.ranges g.done (drop g.done plan.cuts))
    (λ o. RangedNext g.ranges (else_next o (half_of plan g)))
    (λ _. at_bool (nat_lt g.halvings plan.depth) (λ b. RangedNext g.ranges (if b
    then next_half g.ranges (turned g.halvings plan.halves) else next.Rest))
    (λ t. halves_ranged g.ranges (turned g.halvings plan.halves)) (λ f. tt))
    (λ n e. forced_ranged g.ranges g.done (drop g.done plan.cuts) n e)

-- the piece's variable goes on to have one
stays_ranged : (x : ExprId) (points : List Dyadic) (i : ℕ)
    (rs : List SplitRange) (o : Option SplitRange) → range_in x rs ≡ o → IsRanged rs (Some x)
    → IsRanged (with_piece o points i rs) (Some x)
stays_ranged x points i rs None e h = h
stays_ranged x points i rs (Some r) e h =
    let k = range_var x rs r e in
    let p = piece_of r points i in
    let f : range_in p.var rs ≡ Some r = ap (λ (z : ExprId). range_in z rs) k ∙ e in
    let s : is_same p.var x ≡ true =
    subst (λ (z : ExprId). is_same p.var z ≡ true) k (same_itself p.var) in
    (p, put_in p r rs x f ∙ rw s refl)

piece_ranged : (plan : PlanParts) (g : Region) (n : Next) (i : ℕ) → RangedNext g.ranges n
    → IsRanged g.ranges g.last → IsRanged (piece_by plan n g i).ranges (piece_by plan n g i).last
piece_ranged plan g (next.Force x points done) i h k =
    stays_ranged x points i g.ranges (range_in x g.ranges) refl h
piece_ranged plan g (next.Halve x m) i h k =
    stays_ranged x (m ∷ []) i g.ranges (range_in x g.ranges) refl h
piece_ranged plan g next.Rest i h k = k

-- ---- pieces
lies_out : (r : SplitRange) (w : Fraction) → IsOrdered r → Has r w
    → Lies (range_of (interval_of (Some r))) w
lies_out r w a h = subst (λ (k : Option Interval). Lies (range_of (or_whole k)) w)
    (sym (interval_from-some (end.At r.low) (end.At r.high) a)) h

one_lies : (v : Values) (ranges : List SplitRange) (x : ExprId) (r : SplitRange)
    → range_in x ranges ≡ Some r → AllByRecursion IsOrdered ranges → LieIn v ranges
    → LiesInPiece v (x, interval_of (range_in x ranges))
one_lies v ranges x r e a h =
    let k : IsSomeAnd (v x) (Has r) = subst (λ o. LiesInRange o (v x)) e (h x) in
    let P : Option SplitRange → Type 0 = λ o. IsSomeAnd (v x) (Lies (range_of (interval_of o))) in
    subst P (sym e) (some-and (v x) (Has r) (Lies (range_of (interval_of (Some r))))
    (λ w l. lies_out r w (range_ordered x ranges r e a) l) k)

last_lies : (v : Values) (ranges : List SplitRange) (o : Option ExprId)
    (above : List (ExprId × Interval)) → IsRanged ranges o → AllByRecursion IsOrdered ranges
    → LieIn v ranges → AllByRecursion (LiesInPiece v) above
    → AllByRecursion (LiesInPiece v)
    (with_last (option_map (λ x. (x, interval_of (range_in x ranges))) o) above)
last_lies v ranges None above s a h k = k
last_lies v ranges (Some x) above s a h k = (one_lies v ranges x s.0 s.1 a h, k)

pieces_lie : (v : Values) (plan : PlanParts) (g : Region)
    (path : List ℕ) (above : List (ExprId × Interval)) → AllByRecursion IsOrdered g.ranges
    → IsRanged g.ranges g.last → LieIn v (region_below plan g path).ranges
    → AllByRecursion (LiesInPiece v) above
    → AllByRecursion (LiesInPiece v) (pieces_below plan g path above)
unfolding region_below
pieces_lie v plan g [] above a s h k = k
pieces_lie v plan g (i ∷ path) above a s h k =
    let b = piece_stays plan g i a in
    let t = piece_ranged plan g (next_of plan g) i (next_ranged plan g) s in
    pieces_lie v plan (piece plan g i) path (with_last (last_piece (piece plan g i)) above) b t h
    (last_lies v (piece plan g i).ranges (piece plan g i).last above t b
    (below_inside v plan (piece plan g i) path b h) k)

pub box_pieces : (plan : PlanParts)
    → AllByRecursion IsOrdered plan.ranges → (v : Values) (path : List ℕ) → LieInBox plan v path
    → AllByRecursion (LiesInPiece v) (pieces_at plan path)
unfolding pieces_at
box_pieces plan a v path h = pieces_lie v plan (root plan) path [] a tt h tt

pieces_append : (plan : PlanParts) (g : Region) (path : List ℕ) (i : ℕ)
    (above : List (ExprId × Interval))
    → pieces_below plan g (path ++ i ∷ []) above ≡ with_last (last_piece
    (piece plan (region_below plan g path) i)) (pieces_below plan g path above)
unfolding region_below
pieces_append plan g [] i above = refl
pieces_append plan g (j ∷ path) i above =
    pieces_append plan (piece plan g j) path i (with_last (last_piece (piece plan g j)) above)

pub one_piece_more : (plan : PlanParts) (path : List ℕ) (i : ℕ) → pieces_at plan (path ++ i ∷ [])
    ≡ with_last (piece_at plan (path ++ i ∷ [])) (pieces_at plan path)
unfolding pieces_at piece_at
one_piece_more plan path i = pieces_append plan (root plan) path i []
    ∙ ap (λ (g : Region). with_last (last_piece g) (pieces_below plan (root plan) path []))
    (sym (below_append plan (root plan) path i))

-- the whole box
pub root_out : (plan : PlanParts) (v : Values) → LieIn v plan.ranges → LieInBox plan v []
unfolding region_below
root_out plan v h = h
