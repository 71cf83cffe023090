use Rattle.std.proofs.Common.{Err, ap, refl, subst, rules}
use Rattle.command_line.specs.Reading.{asked_of}
use Rattle.script_texts.specs.Texts.{IsScriptText}
use Rattle.settler.specs.Answers.{options_from}
use Rattle.prove_command.proofs.Runs.{certified_read, stopped}
use Rattle.prove_command.proofs.run.run_prove.Goals as goal

pub returns-in-Ok-certify_text : goal.returns-in-Ok-certify_text
returns-in-Ok-certify_text g c = record {
  run = certified_read c.text_answers_are_one.ensures (asked_of c.args.request) _
      c.in-Ok-certify_text.certified (options_from c.args.request.options) c.deref.result.now
      (g.F.Folder.told c.read_script.new.folder) (g.F.Folder.write_faults c.read_script.new.folder)
      refl
      (subst (IsScriptText (g.F.Folder.told c.args.folder.now c.args.request.script.now))
      (search rules) c.in-Ok.ensures.text)
      c.in-Ok.ensures.only_reads.told c.in-Ok.ensures.only_reads.quiet
      c.in-Ok-certify_text.ensures.others
      c.in-Ok-certify_text.ensures.made c.in-Ok-certify_text.ensures.cause c.put_certified.ensures;
}

pub returns : goal.returns
returns g c = record {
  run = stopped c.text_answers_are_one.ensures (asked_of c.args.request) _ c.in-Err.stop
      c.in-Err.ensures.only_reads.told (λ e. c.in-Err.ensures.only_reads.cause (ap Err e))
      c.print_stop.ensures;
}
