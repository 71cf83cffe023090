use Rattle.std.proofs.Common.{arith}
use Rattle.box_workers.proofs.Taking.{tried_took, tried_more, tried_all}
use Rattle.box_workers.proofs.take.steal_any.Goals as goal

pub returns-in-Some-clause-hand : goal.returns-in-Some-clause-hand
returns-in-Some-clause-hand g c =
    (tried_took g.Q.Naming.capacity c.args.hand.now c.loop-thief.hand c.steal.new.by
    c.args.thieves.now c.loop-thief.thief-index c.thief-item.result (omega arith) c.thief-item.is
    c.requires.passes c.loop-thief.invariant c.in-Some.ensures.passes _ c.in-Some.ensures.first).0

pub returns-in-Some-clause-some : goal.returns-in-Some-clause-some
returns-in-Some-clause-some g c =
    (tried_took g.Q.Naming.capacity c.args.hand.now c.loop-thief.hand c.steal.new.by
    c.args.thieves.now c.loop-thief.thief-index c.thief-item.result (omega arith) c.thief-item.is
    c.requires.passes c.loop-thief.invariant c.in-Some.ensures.passes _ c.in-Some.ensures.first).1

pub loop-thief-preserved : goal.loop-thief-preserved
loop-thief-preserved g c =
    tried_more g.Q.Naming.capacity c.args.hand.now c.loop-thief.hand c.steal.new.by
    c.args.thieves.now c.loop-thief.thief-index c.thief-item.result (omega arith) c.thief-item.is
    c.requires.passes c.loop-thief.invariant c.in_default.ensures.passes c.in_default.ensures.none

pub returns-clause-none : goal.returns-clause-none
returns-clause-none g c = let all = tried_all c.args.hand.now c.loop-thief.hand c.args.thieves.now
    c.loop-thief.thief-index c.loop-thief-test.false c.loop-thief.invariant in (all.1, all.2)
