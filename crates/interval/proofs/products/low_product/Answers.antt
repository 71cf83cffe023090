use Rattle.std.proofs.Common.{ap, ⊎_elim, inl, inr}
use Rattle.dyadic.specs.Ends.{bound_of}
use Rattle.interval.proofs.Inequalities.{below_by}
use Rattle.interval.proofs.Corners.{corner_ac, corner_ad, corner_bc, corner_bd, corner_up}
use Rattle.interval.proofs.Corners.{corner_down, corner_least}
use Rattle.interval.proofs.products.low_product.Goals as goal

pub returns-then-not_negative-2 : goal.returns-then-not_negative-2
returns-then-not_negative-2 c = corner_ac _ _ _ _ c.args.x.now.ordered c.args.y.now.ordered _
    (c.not_negative.ensures.0 c.if-not_negative.true)
    (c.not_negative-then-not_negative.ensures.0 c.if-not_negative-2.true) c.mul_down.ensures

pub returns-then-not_negative : goal.returns-then-not_negative
returns-then-not_negative c = corner_ad _ _ _ _ c.args.x.now.ordered c.args.y.now.ordered _
    (c.not_negative.ensures.0 c.if-not_negative.true)
    (below_by _ _ _ c.not_negative-then-not_negative.ensures.1 c.if-not_negative-2.false)
    c.mul_down-then-not_negative.ensures

pub returns-then-not_negative-3 : goal.returns-then-not_negative-3
returns-then-not_negative-3 c = corner_bc _ _ _ _ c.args.x.now.ordered c.args.y.now.ordered _
    (c.not_positive.ensures.0 c.if-not_positive.true) (c.not_negative-then-not_positive.ensures.0
    c.if-not_negative-3.true) c.mul_down-then-not_negative-3.ensures

pub returns-then-not_positive : goal.returns-then-not_positive
returns-then-not_positive c = corner_bd _ _ _ _ c.args.x.now.ordered c.args.y.now.ordered _
    (c.not_positive.ensures.0 c.if-not_positive.true)
    (below_by _ _ _ c.not_negative-then-not_positive.ensures.1 c.if-not_negative-3.false)
    c.mul_down-then-not_positive.ensures

pub returns-then-not_negative-4 : goal.returns-then-not_negative-4
returns-then-not_negative-4 c = corner_up _ _ _ _ c.args.x.now.ordered c.args.y.now.ordered _
    (below_by _ _ _ c.not_negative.ensures.1 c.if-not_negative.false)
    (c.not_negative-2.ensures.0 c.if-not_negative-4.true) c.mul_down-then-not_negative-4.ensures

pub returns-then-not_positive-2 : goal.returns-then-not_positive-2
returns-then-not_positive-2 c = corner_down _ _ _ _ c.args.x.now.ordered c.args.y.now.ordered _
    (below_by _ _ _ c.not_positive.ensures.1 c.if-not_positive.false)
    (c.not_positive-2.ensures.0 c.if-not_positive-2.true) c.mul_down-then-not_positive-2.ensures

pub returns : goal.returns
returns c = corner_least _ _ _ _ c.args.x.now.ordered c.args.y.now.ordered _ _ _
    (below_by _ _ _ c.not_negative.ensures.1 c.if-not_negative.false) (below_by _ _ _
    c.not_positive.ensures.1 c.if-not_positive.false) c.mul_down-2.ensures c.mul_down-3.ensures
    c.lesser.ensures.first c.lesser.ensures.second
    (⊎_elim (λ p. inl (ap bound_of p)) (λ p. inr (ap bound_of p)) c.lesser.ensures.one)
