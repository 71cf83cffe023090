use Rattle.box_deques.proofs.Passes.{still_has, same_itself}
use Rattle.edge_tests.proofs.shared_lanes.steal_often.Goals as goal

pub loop-init : goal.loop-init
loop-init g c = same_itself c.args.hand.now

pub steal-requires-clause-pass : goal.steal-requires-clause-pass
steal-requires-clause-pass g c = still_has c.args.hand.now c.loop.hand c.args.thief.now.number
    c.args.thief.now.name g.Q.Naming.capacity c.loop.invariant c.requires.pass
