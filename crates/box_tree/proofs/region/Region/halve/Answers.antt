use Rattle.std.proofs.Common.{◌≡◌, List, [], ◌∷◌, take, Option, Some, None, IfSome, sym, ap, subst}
use Rattle.std.proofs.Common.{◌∙◌}
use Rattle.std.specs.List.{AllByRecursion}
use Rattle.dyadic.specs.declared.number.Dyadic.{Dyadic}
use Rattle.script_claims.specs.declared.range.SplitRange.{SplitRange}
use Rattle.box_tree.specs.Ranges.{IsWithin, range_in}
use Rattle.box_tree.specs.Regions.{Region}
use Rattle.box_tree.proofs.Put.{range_ordered}
use Rattle.box_tree.proofs.region.Region.halve.Goals as goal

within_of : (o : Option SplitRange) (r : SplitRange) (points : List Dyadic)
    → IfSome o (λ q. AllByRecursion (IsWithin q) points) → o ≡ Some r
    → AllByRecursion (IsWithin r) points
within_of None r points w e = cc
within_of (Some q) r points w e =
    let s : q ≡ r = cc in subst (λ k. AllByRecursion (IsWithin k) points) s w

pub half_piece-requires-clause-ordered : goal.half_piece-requires-clause-ordered
half_piece-requires-clause-ordered c =
    range_ordered c.args.x c.ranges-2.result.now c.in-Some.range
    (sym c.range_in.ensures ∙ c.in-Some.is) c.ranges-2.ensures.ordered

pub half_piece-requires-clause-within : goal.half_piece-requires-clause-within
half_piece-requires-clause-within c =
    let rs : List SplitRange = take c.self.inside.count c.self.inside.entries in
    let a : c.args.self.now.ranges ≡ rs = ap (λ (g : Region). g.ranges) (sym c.self.view_is) in
    let e : range_in c.args.x rs ≡ Some c.in-Some.range =
    ap (range_in c.args.x) (sym c.ranges-2.ensures.value)
    ∙ (sym c.range_in.ensures ∙ c.in-Some.is) in
    let P : List SplitRange → Type 0 = λ ks. IfSome (range_in c.args.x ks)
    (λ r. AllByRecursion (IsWithin r) (c.args.m ∷ [])) in
    (within_of (range_in c.args.x rs) c.in-Some.range (c.args.m ∷ [])
    (subst P a c.requires.within) e).0
