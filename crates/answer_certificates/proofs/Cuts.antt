-- The cuts that a plan makes: of a variable with a range, at a few points that rise and lie in it.
use Rattle.std.specs.Prelude.{◌≡◌, ◌≤◌, ◌+◌, ◌-◌, ◌&&◌, nat_lt, ⊤, ℕ, zero, suc, List, [], ◌∷◌}
use Rattle.std.specs.Prelude.{◌++◌, length, drop, Option, Some, None, if◌then◌else◌, refl}
use Rattle.std.specs.List.{AllByRecursion}
use Rattle.std.proofs.Common.{subst, arith}
use Rattle.std.proofs.lemmas.List.{length-append}
use Rattle.std.proofs.lemmas.Bool.{and_parts}
use Rattle.fx_model.specs.declared.ExprId.{ExprId}
use Rattle.dyadic.specs.declared.number.Dyadic.{Dyadic}
use Rattle.dyadic.specs.Rising.{IsRising}
use Rattle.dyadic.proofs.Rising.{rising_more}
use Rattle.script_hints.specs.declared.hint.Cutting.{Cutting}
use Rattle.script_hints.specs.declared.hint.Cutting.TheVariants as cutting
use Rattle.script_hints.specs.declared.hint.Split.{Split}
use Rattle.script_hints.specs.Few.{HasFewPieces, HaveFewPieces}
use Rattle.box_tree.specs.declared.next.Next.{Next}
use Rattle.box_tree.specs.declared.next.Next.TheVariants as next
use Rattle.script_claims.specs.declared.range.SplitRange.{SplitRange}
use Rattle.script_claims.specs.Ranges.{is_inside}
use Rattle.box_tree.specs.Ranges.{IsWithin, range_in}
use Rattle.box_tree.specs.Points.{is_above_last, with_point, with_points, parts_from, asked_points}
use Rattle.box_tree.specs.Points.{cut_points, middle, half_point}
use Rattle.box_tree.specs.Regions.{PlanParts, Region, points_in, forced_or, next_forced, half_in}
use Rattle.box_tree.specs.Regions.{halved_or, next_half, turned, half_of, else_next, next_of}
use Rattle.box_tree.proofs.InRanges.{at_bool, inside_within, above_in, append_within, few_behind}
use Rattle.tree_certificates.specs.Trees.{ArePoints}

-- The range of x, in which the points lie; and there are 1 to 63 that rise.
pub record IsCutAlong (ranges : List SplitRange) (x : ExprId) (points : List Dyadic) : Type 0 where
  pub range : SplitRange
  pub there : range_in x ranges ≡ Some range
  pub lawful : ArePoints points
  pub within : AllByRecursion (IsWithin range) points

abbrev pub IsCut : List SplitRange → Next → Type 0
IsCut ranges (next.Force x points done) = IsCutAlong ranges x points
IsCut ranges (next.Halve x m) = IsCutAlong ranges x (m ∷ [])
IsCut ranges next.Rest = ⊤

-- ---- points that stay
-- rising points in the range, no more than so many
record AreIn (r : SplitRange) (points : List Dyadic) (most : ℕ) : Type 0 where
  rising : IsRising points
  within : AllByRecursion (IsWithin r) points
  few : length points ≤ most

one_in : (r : SplitRange) (points : List Dyadic) (p : Dyadic) (most : ℕ) → AreIn r points most
    → AreIn r (with_point r points p) (most + 1)
one_in r points p most a = at_bool (is_inside r p && is_above_last points p)
    (λ b. AreIn r (if b then points ++ p ∷ [] else points) (most + 1))
    (λ t. let both = and_parts (is_inside r p) (is_above_last points p) t in
    record {
      rising = rising_more points p a.rising (above_in points p both.1);
      within = append_within r points p a.within (inside_within r p both.0);
      few = let f = a.few in omega (arith, f, length-append points (p ∷ []));
    })
    (λ f. record { rising = a.rising; within = a.within; few = let f = a.few in omega (arith, f) })

all_in : (r : SplitRange) (points more : List Dyadic) (most : ℕ) → AreIn r points most
    → AreIn r (with_points r points more) (most + length more)
all_in r points [] most a =
    record { rising = a.rising; within = a.within; few = let f = a.few in omega (arith, f) }
all_in r points (p ∷ ps) most a =
    let b = all_in r (with_point r points p) ps (most + 1) (one_in r points p most a) in
    record { rising = b.rising; within = b.within; few = let f = b.few in omega (arith, f) }

parts_count : (r : SplitRange) (n i left : ℕ) → length (parts_from r n i left) ≡ left
parts_count r n i zero = refl
parts_count r n i (suc left) = let h = parts_count r n (i + 1) left in omega (arith, h)

asked_few : (r : SplitRange) (c : Cutting) → HasFewPieces c → length (asked_points r c) ≤ 63
asked_few r (cutting.Pieces n) h = let e = parts_count r n 1 (n - 1) in omega (arith, e, h)
asked_few r (cutting.Points points) h = h

none_in : (r : SplitRange) → AreIn r [] 0
none_in r = record { rising = λ i j l m. absurd (omega (arith, m)); within = tt; few = omega arith }

cut_in : (r : SplitRange) (c : Cutting) → HasFewPieces c → AreIn r (cut_points r c) 63
cut_in r c h =
    let a = all_in r [] (asked_points r c) 0 (none_in r) in
    record {
      rising = a.rising;
      within = a.within;
      few = let f = a.few in let m = asked_few r c h in omega (arith, f, m);
    }

-- ---- what is done next
abbrev IsNext : List SplitRange → Option Next → Type 0
IsNext ranges None = ⊤
IsNext ranges (Some n) = IsCut ranges n

forced_cut : (ranges : List SplitRange) (x : ExprId) (r : SplitRange) (points : List Dyadic)
    (done : ℕ) (later : Option Next) → range_in x ranges ≡ Some r → AreIn r points 63
    → IsNext ranges later → IsNext ranges (forced_or x points done later)
forced_cut ranges x r [] done later e a l = l
forced_cut ranges x r (p ∷ ps) done later e a l = record {
  range = r;
  there = e;
  lawful = record { some = omega arith; few = a.few; rising = a.rising };
  within = a.within;
}

forced_in : (ranges : List SplitRange) (x : ExprId) (c : Cutting) (done : ℕ) (later : Option Next)
    → HasFewPieces c → IsNext ranges later → (o : Option SplitRange) → range_in x ranges ≡ o
    → IsNext ranges (forced_or x (points_in o c) done later)
forced_in ranges x c done later h l None e = l
forced_in ranges x c done later h l (Some r) e =
    forced_cut ranges x r (cut_points r c) done later e (cut_in r c h) l

forced_next : (ranges : List SplitRange) (done : ℕ) (cuts : List Split) → HaveFewPieces cuts
    → IsNext ranges (next_forced ranges done cuts)
forced_next ranges done [] h = tt
forced_next ranges done (s ∷ ss) h =
    forced_in ranges s.var s.cut (done + 1) (next_forced ranges (done + 1) ss) h.0
    (forced_next ranges (done + 1) ss h.1) (range_in s.var ranges) refl

half_within : (r : SplitRange) (m : Dyadic) → half_point r ≡ Some m → IsWithin r m
half_within r m e = at_bool (is_inside r (middle r)) (λ b. is_inside r (middle r) ≡ b
    → (if b then Some (middle r) else None) ≡ Some m → IsWithin r m)
    (λ t i f. let q : middle r ≡ m = cc in
    subst (IsWithin r) q (inside_within r (middle r) i)) (λ g i f. cc) refl e

halved_cut : (ranges : List SplitRange) (x : ExprId) (later : Next) (r : SplitRange)
    → range_in x ranges ≡ Some r → IsCut ranges later → (o : Option Dyadic) → half_point r ≡ o
    → IsCut ranges (halved_or x o later)
halved_cut ranges x later r e l None h = l
halved_cut ranges x later r e l (Some m) h = record {
  range = r;
  there = e;
  lawful = record {
    some = omega arith;
    few = omega arith;
    rising = λ i j p q. absurd (omega (arith, p, q));
  };
  within = (half_within r m h, tt);
}

halved_in : (ranges : List SplitRange) (x : ExprId) (later : Next) → IsCut ranges later
    → (o : Option SplitRange) → range_in x ranges ≡ o → IsCut ranges (halved_or x (half_in o) later)
halved_in ranges x later l None e = l
halved_in ranges x later l (Some r) e = halved_cut ranges x later r e l (half_point r) refl

halves_next : (ranges : List SplitRange) (xs : List ExprId) → IsCut ranges (next_half ranges xs)
halves_next ranges [] = tt
halves_next ranges (x ∷ xs) =
    halved_in ranges x (next_half ranges xs) (halves_next ranges xs) (range_in x ranges) refl

half_cut : (plan : PlanParts) (g : Region) → IsCut g.ranges (half_of plan g)
half_cut plan g = at_bool (nat_lt g.halvings plan.depth) (λ b.
    IsCut g.ranges (if b then next_half g.ranges (turned g.halvings plan.halves) else next.Rest))
    (λ t. halves_next g.ranges (turned g.halvings plan.halves)) (λ f. tt)

else_cut : (ranges : List SplitRange) (o : Option Next) (other : Next) → IsNext ranges o
    → IsCut ranges other → IsCut ranges (else_next o other)
else_cut ranges None other n c = c
else_cut ranges (Some m) other n c = n

-- What is done next to a box cuts it so, or leaves it.
pub next_cut : (plan : PlanParts) (g : Region) → HaveFewPieces plan.cuts
    → IsCut g.ranges (next_of plan g)
next_cut plan g h = else_cut g.ranges (next_forced g.ranges g.done (drop g.done plan.cuts))
    (half_of plan g) (forced_next g.ranges g.done (drop g.done plan.cuts)
    (few_behind g.done plan.cuts h)) (half_cut plan g)
