use Rattle.std.proofs.Common.{Err, ap, rules, subst, ◌∙◌}
use Rattle.fx_edge.proofs.OutsideLaws.{rose_later}
use Rattle.command_line.specs.Check.{check_of}
use Rattle.command_runs.proofs.Ends.{IsPutBy}
use Rattle.command_runs.specs.Runs.{Run, run, seen}
use Rattle.script_texts.specs.Texts.{IsScriptText}
use Rattle.check_command.specs.Checked.{CheckPrints}
use Rattle.check_command.proofs.Ends.{put_is, script_stop_is, cert_stop_is}
use Rattle.check_command.proofs.command.run_check.Goals as goal

pub returns-in-Ok-check_answer : goal.returns-in-Ok-check_answer
returns-in-Ok-check_answer g c = record {
  run =
      let f = g.F.Folder in
      let reads = c.in-Ok.ensures.only_reads in
      let o = g.O.Sink in
      let a = check_of c.args.request in
      let here = c.args.folder.now in
      let there = c.check_answer.new.folder in
      let read = c.deref.result.now in
      let s = c.in-Ok-check_answer.status in
      let lines = c.in-Ok-check_answer.lines.items in
      let found = c.in-Ok-check_answer.ensures in
      let r : Run = run (seen f o here c.args.out.now) (seen f o there c.print.new.out)
      c.print.result in
      let same = reads.told a.cert in
      put_is c.check_answers_are_one.ensures a r
      (λ name. found.only_reads.told name ∙ reads.told name) read
      (subst (IsScriptText (f.told here a.script)) (search rules) c.in-Ok.ensures.text) s lines
      (subst (λ known. CheckPrints read known s lines) same found.prints)
      (λ all known p. found.accepted all (same ∙ known) p)
      (subst (λ text. IsPutBy s text r) (search rules) c.print.ensures);
}

pub returns-in-Ok : goal.returns-in-Ok
returns-in-Ok g c = record {
  run =
      let f = g.F.Folder in
      let reads = c.in-Ok.ensures.only_reads in
      let o = g.O.Sink in
      let a = check_of c.args.request in
      let here = c.args.folder.now in
      let there = c.check_answer.new.folder in
      let stopped = c.in-Err-check_answer.ensures in
      let r : Run = run (seen f o here c.args.out.now) (seen f o there c.print_stop.new.out)
      c.print_stop.result in
      cert_stop_is c.check_answers_are_one.ensures a r
      (λ name. stopped.only_reads.told name ∙ reads.told name) c.deref.result.now
      (subst (IsScriptText (f.told here a.script)) (search rules) c.in-Ok.ensures.text)
      c.in-Err-check_answer.stop
      (λ e. (
        stopped.script (ap Err e),
        rose_later (f.read_faults here) (f.read_faults c.read_script.new.folder)
            (f.read_faults there) reads.later (stopped.only_reads.cause (ap Err e)),
      ))
      c.print_stop.ensures;
}

pub returns : goal.returns
returns g c = record {
  run =
      let f = g.F.Folder in
      let o = g.O.Sink in
      let here = c.args.folder.now in
      let there = c.read_script.new.folder in
      script_stop_is c.check_answers_are_one.ensures (check_of c.args.request)
      (run (seen f o here c.args.out.now) (seen f o there c.print_stop-in-Err.new.out)
      c.print_stop-in-Err.result) c.in-Err.ensures.only_reads.told c.in-Err.stop
      (λ e. c.in-Err.ensures.only_reads.cause (ap Err e)) c.print_stop-in-Err.ensures;
}
