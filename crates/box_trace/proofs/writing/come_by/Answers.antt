use Rattle.box_trace.proofs.Answered.{on_ok_map}
use Rattle.box_trace.proofs.Came.{came}
use Rattle.box_trace.proofs.writing.come_by.Goals as goal

pub returns : goal.returns
returns c =
    let w = c.requires.conclusion in
    on_ok_map c.come.result c.come.ensures
    (came c.args.uni.now c.args.now.now c.args.log.now c.come.new.self c.args.found
    c.in_ok-source.source c.requires.rows w (c.in_ok-source.ensures w.0 w.1))
