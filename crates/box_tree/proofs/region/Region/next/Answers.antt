use Rattle.std.proofs.Common.{Some, None, sym, subst, arith}
use Rattle.std.proofs.lemmas.List.{nil_from_length}
use Rattle.box_tree.specs.Nexts.{IsWithinNext}
use Rattle.box_tree.proofs.Cover.{next_within}
use Rattle.box_tree.proofs.Turns.{next_force, next_halving}
use Rattle.box_tree.proofs.region.Region.next.Goals as goal

pub returns-in-len1-up-clause-is : goal.returns-in-len1-up-clause-is
returns-in-len1-up-clause-is c =
    next_force c.args.plan.now c.args.self.now c.forced.result.now c.split-item.result
    c.ranges-in-len1-up.result.now c.points_for-points.result c.made_before.result
    c.forced.ensures.is c.in-len1-up.len_at_least c.split-item.is
    c.ranges-in-len1-up.ensures.value c.points_for-points.ensures c.made_before.ensures

pub returns-in-len1-up-clause-within : goal.returns-in-len1-up-clause-within
returns-in-len1-up-clause-within c =
    subst (IsWithinNext c.args.self.now.ranges) (sym (returns-in-len1-up-clause-is c))
    (next_within c.args.plan.now c.args.self.now)

pub returns-in-Some-clause-is : goal.returns-in-Some-clause-is
returns-in-Some-clause-is c =
    next_halving c.args.plan.now c.args.self.now c.forced.result.now
    (Some (c.in-Some.x, c.in-Some.m)) c.forced.ensures.is
    (nil_from_length c.forced.result.now (omega arith)) c.in-Some.ensures.is

pub returns-in-Some-clause-within : goal.returns-in-Some-clause-within
returns-in-Some-clause-within c =
    subst (IsWithinNext c.args.self.now.ranges) (sym (returns-in-Some-clause-is c))
    (next_within c.args.plan.now c.args.self.now)

pub returns-in-None-clause-is : goal.returns-in-None-clause-is
returns-in-None-clause-is c =
    next_halving c.args.plan.now c.args.self.now c.forced.result.now None c.forced.ensures.is
    (nil_from_length c.forced.result.now (omega arith)) c.in-None.ensures.is
