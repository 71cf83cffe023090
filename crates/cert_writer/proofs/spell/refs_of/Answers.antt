use Rattle.cert_writer.proofs.Slots.{first_slot}
use Rattle.cert_writer.proofs.spell.refs_of.Goals as goal

pub step-requires : goal.step-requires
step-requires c = first_slot c.args.uni.now c.args.known.now _ c.goal-item.result
    c.in-len1-up.len_at_least c.goal-item.is c.loop-goals.invariant.settled
