use Rattle.std.proofs.Common.{Err, ap, rules, subst, ◌∙◌}
use Rattle.fx_edge.proofs.OutsideLaws.{rose_later}
use Rattle.command_line.specs.At.{at_of}
use Rattle.command_runs.proofs.Ends.{IsPutBy}
use Rattle.command_runs.specs.Runs.{Run, run, seen}
use Rattle.script_texts.specs.Texts.{IsScriptText}
use Rattle.at_command.specs.Told.{AtPrints}
use Rattle.at_command.proofs.Ends.{put_is, pointless_is, unread_is}
use Rattle.at_command.proofs.command.run_at.Goals as goal

pub returns-in-Ok-at_answer : goal.returns-in-Ok-at_answer
returns-in-Ok-at_answer g c = record {
  run =
      let f = g.F.Folder in
      let reads = c.in-Ok.ensures.only_reads in
      let o = g.O.Sink in
      let a = at_of c.args.request in
      let here = c.args.folder.now in
      let there = c.at_answer.new.folder in
      let read = c.deref.result.now in
      let s = c.in-Ok-at_answer.status in
      let lines = c.in-Ok-at_answer.lines.items in
      let found = c.in-Ok-at_answer.ensures in
      let r : Run = run (seen f o here c.args.out.now) (seen f o there c.print.new.out)
      c.print.result in
      put_is c.at_answers_are_one.ensures a r
      (λ name. found.only_reads.told name ∙ reads.told name) read
      (subst (IsScriptText (f.told here a.script)) (search rules) c.in-Ok.ensures.text) s lines
      (subst (λ known. AtPrints read known s lines) (reads.told a.point) found.prints)
      (subst (λ text. IsPutBy s text r) (search rules) c.print.ensures);
}

pub returns-in-Ok : goal.returns-in-Ok
returns-in-Ok g c = record {
  run =
      let f = g.F.Folder in
      let reads = c.in-Ok.ensures.only_reads in
      let o = g.O.Sink in
      let a = at_of c.args.request in
      let here = c.args.folder.now in
      let there = c.at_answer.new.folder in
      let stopped = c.in-Err-at_answer.ensures in
      let r : Run = run (seen f o here c.args.out.now) (seen f o there c.print_stop.new.out)
      c.print_stop.result in
      pointless_is c.at_answers_are_one.ensures a r
      (λ name. stopped.only_reads.told name ∙ reads.told name) c.deref.result.now
      (subst (IsScriptText (f.told here a.script)) (search rules) c.in-Ok.ensures.text)
      c.in-Err-at_answer.stop
      (λ e. (
        stopped.script (ap Err e),
        rose_later (f.read_faults here) (f.read_faults c.read_script.new.folder)
            (f.read_faults there) reads.later (stopped.only_reads.cause (ap Err e)),
      ))
      c.print_stop.ensures;
}

pub returns : goal.returns
returns g c = record {
  run =
      let f = g.F.Folder in
      let o = g.O.Sink in
      let here = c.args.folder.now in
      let there = c.read_script.new.folder in
      unread_is c.at_answers_are_one.ensures (at_of c.args.request)
      (run (seen f o here c.args.out.now) (seen f o there c.print_stop-in-Err.new.out)
      c.print_stop-in-Err.result) c.in-Err.ensures.only_reads.told c.in-Err.stop
      (λ e. c.in-Err.ensures.only_reads.cause (ap Err e)) c.print_stop-in-Err.ensures;
}
