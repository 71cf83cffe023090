use Rattle.std.proofs.Common.{◌≡◌, ◌+◌, ◌-◌, ◌<◌, [], suc, ℕ, arith, ap, ◌∙◌, List}
use Rattle.dyadic.specs.declared.number.Dyadic.{Dyadic}
use Rattle.script_claims.specs.declared.range.SplitRange.{SplitRange}
use Rattle.box_tree.specs.Points as spec
use Rattle.box_tree.proofs.points.part_points.Goals as goal

step : (r : SplitRange) (n i : ℕ) (points more all : List Dyadic) (p : Dyadic) → i < n
    → p ≡ spec.part_at r i n → more ≡ spec.with_point r points p
    → spec.with_points r points (spec.parts_from r n i (n - i)) ≡ all
    → spec.with_points r more (spec.parts_from r n (i + 1) (n - (i + 1))) ≡ all
step r n i points more all p l e f g =
    let s : n - i ≡ suc (n - (i + 1)) = omega arith in
    let h : more ≡ spec.with_point r points (spec.part_at r i n) =
    f ∙ ap (spec.with_point r points) e in
    ap (λ (q : List Dyadic). spec.with_points r q (spec.parts_from r n (i + 1) (n - (i + 1)))) h
    ∙ (rw s at g)

pub loop-i-preserved : goal.loop-i-preserved
loop-i-preserved c = record {
  few = let m = c.with_point-points.ensures.more in
      let f = c.loop-i.invariant.few in omega (arith, m, f);
  is = step c.args.range c.args.n c.loop-i.i c.loop-i.points c.with_point-points.result
      (spec.with_points c.args.range [] (spec.parts_from c.args.range c.args.n 1 (c.args.n - 1)))
      c.part_at.result c.loop-i-test.true c.part_at.ensures
      c.with_point-points.ensures.is c.loop-i.invariant.is;
}
