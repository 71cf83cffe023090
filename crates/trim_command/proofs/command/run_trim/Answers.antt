use Rattle.std.proofs.Common.{ℕ, ◌∙◌, Err, refl, sym, ap, subst, inl}
use Rattle.fx_edge.specs.Outside.{Rose}
use Rattle.fx_edge.proofs.OutsideLaws.{rose_later}
use Rattle.command_line.specs.Trim.{trim_of}
use Rattle.command_runs.proofs.Ends.{kept_same}
use Rattle.script_texts.specs.Texts.{IsScriptText}
use Rattle.trim_command.proofs.Ends.{put_is, starved_is, stop_is, uncertain_is, unwritten_is}
use Rattle.trim_command.proofs.command.run_trim.Goals as goal

pub returns-in-Ok-trim_answer : goal.returns-in-Ok-trim_answer
returns-in-Ok-trim_answer g c = record {
  run = put_is c.trim_answers_are_one.ensures.one c.trim_answers_are_one.ensures.comes
      (trim_of c.args.request) _
      (λ other n. c.in-Ok-trim_answer.ensures.others other n
      ∙ c.in-Ok.ensures.only_reads.told other)
      c.deref.result.now
      (subst (IsScriptText (g.F.Folder.told c.args.folder.now c.args.request.script.now))
      (sym c.deref.ensures.value) c.in-Ok.ensures.text)
      (g.F.Folder.told c.read_script.new.folder) c.in-Ok.ensures.only_reads.told
      c.in-Ok-trim_answer.status c.in-Ok-trim_answer.lines.items
      c.in-Ok-trim_answer.ensures.answers
      (rw c.deref-in-Ok-trim_answer.ensures.value at c.print.ensures);
}

pub returns-in-Err-Unread : goal.returns-in-Err-Unread
returns-in-Err-Unread g c = record {
  run = uncertain_is c.trim_answers_are_one.ensures.one c.trim_answers_are_one.ensures.comes
      (trim_of c.args.request) _
      (λ other n. c.in-Err-Unread.ensures.others other n ∙ c.in-Ok.ensures.only_reads.told other)
      c.deref.result.now
      (subst (IsScriptText (g.F.Folder.told c.args.folder.now c.args.request.script.now))
      (sym c.deref.ensures.value) c.in-Ok.ensures.text)
      (g.F.Folder.told c.read_script.new.folder) c.in-Ok.ensures.only_reads.told
      (c.in-Err-Unread.ensures.unread (ap Err c.in-Err-Unread.field-0-is))
      (rose_later _ (g.F.Folder.read_faults c.read_script.new.folder) _
      c.in-Ok.ensures.only_reads.later
      (c.in-Err-Unread.ensures.unread_cause (ap Err c.in-Err-Unread.field-0-is)))
      c.print_stop.ensures;
}

pub returns-in-Err-Unwritten : goal.returns-in-Err-Unwritten
returns-in-Err-Unwritten g c = record {
  run = unwritten_is c.trim_answers_are_one.ensures.one c.trim_answers_are_one.ensures.comes
      (trim_of c.args.request) _
      (λ other n. c.in-Err-Unwritten.ensures.others other n ∙ c.in-Ok.ensures.only_reads.told other)
      c.deref.result.now
      (subst (IsScriptText (g.F.Folder.told c.args.folder.now c.args.request.script.now))
      (sym c.deref.ensures.value) c.in-Ok.ensures.text)
      (g.F.Folder.told c.read_script.new.folder) c.in-Ok.ensures.only_reads.told
      (c.in-Err-Unwritten.ensures.unwritten (ap Err c.in-Err-Unwritten.field-0-is))
      refl
      (subst (λ (n : ℕ). Rose n (g.F.Folder.write_faults c.trim_answer.new.folder))
      c.in-Ok.ensures.only_reads.quiet
      (c.in-Err-Unwritten.ensures.unwritten_cause (ap Err c.in-Err-Unwritten.field-0-is)))
      (kept_same (g.O.Sink.taken c.args.out.now));
}

pub returns-in-Ok : goal.returns-in-Ok
returns-in-Ok g c = record {
  run = starved_is c.trim_answers_are_one.ensures.one c.trim_answers_are_one.ensures.comes
      (trim_of c.args.request) _
      (λ other n. c.in-Err-OutOfMemory.ensures.others other n
      ∙ c.in-Ok.ensures.only_reads.told other)
      c.deref.result.now
      (subst (IsScriptText (g.F.Folder.told c.args.folder.now c.args.request.script.now))
      (sym c.deref.ensures.value) c.in-Ok.ensures.text)
      (g.F.Folder.told c.read_script.new.folder) c.in-Ok.ensures.only_reads.told
      (c.in-Err-OutOfMemory.ensures.starved (ap Err c.in-Err-OutOfMemory.field-0-is))
      refl
      (kept_same (g.O.Sink.taken c.args.out.now));
}

pub returns : goal.returns
returns g c = record {
  run = stop_is c.trim_answers_are_one.ensures.one c.trim_answers_are_one.ensures.comes
      (trim_of c.args.request) _
      (λ other n. c.in-Err.ensures.only_reads.told other)
      c.in-Err.stop c.args.request.script.now
      (c.in-Err.ensures.only_reads.told c.args.request.new.now)
      (λ e. (inl refl, c.in-Err.ensures.only_reads.cause (ap Err e)))
      c.print_stop-in-Err.ensures;
}
