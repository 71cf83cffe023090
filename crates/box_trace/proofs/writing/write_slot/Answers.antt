use Rattle.box_trace.proofs.Came.{slot_written}
use Rattle.box_trace.proofs.writing.write_slot.Goals as goal

pub returns : goal.returns
returns c =
    slot_written c.args.uni.now c.args.now.now c.args.place c.args.ends c.args.log.now
    c.come_by.new.log c.come_high.new.log c.in_ok-come_by.ensures c.in_ok-come_high.ensures.wide
    c.in_ok-come_high.ensures.narrow
