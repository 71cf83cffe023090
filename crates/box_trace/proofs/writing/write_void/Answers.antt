use Rattle.box_trace.proofs.Answered.{on_ok_map}
use Rattle.box_trace.proofs.Came.{void_came}
use Rattle.box_trace.proofs.writing.write_void.Goals as goal

pub returns : goal.returns
returns c =
    on_ok_map c.come_by.result c.come_by.ensures
    (λ w. void_came c.args.uni.now c.args.now.now c.args.found c.args.log.now c.come_by.new.log
    c.clear.new.self.items c.requires.conclusion c.requires.void c.requires.rows c.requires.same w)
