use Rattle.std.proofs.Common.{Err, refl, ap, subst, ◌∙◌, string_bytes, arith, rules}
use Rattle.std.specs.Option.{option_map}
use Rattle.fx_edge.specs.Outside.{Rose}
use Rattle.command_line.specs.Fix.{fix_of}
use Rattle.whole_texts.specs.Texts.{IsText}
use Rattle.command_runs.specs.Ends.{IsPut}
use Rattle.command_runs.specs.Fates.{Leaves, begun}
use Rattle.fix_command.specs.Command.{left_of}
use Rattle.fix_command.proofs.Ended.{unread, put, unwritten}
use Rattle.fix_command.proofs.fix.run_fix.Goals as goal

pub returns-in-Err : goal.returns-in-Err
returns-in-Err g c = record {
  run = unread (fix_of c.args.request) _ c.texts_are_one.ensures.firsts c.in-Err.stop
      (λ e. c.in-Err.ensures.only_reads.cause (ap Err e)) c.in-Err.ensures.only_reads.told
      c.print_stop.ensures;
}

pub returns-in-Ok-save : goal.returns-in-Ok-save
returns-in-Ok-save g c =
    let old = g.F.Folder.told c.args.folder.now in
    let reads = c.in-Ok.ensures.only_reads in
    let new = g.F.Folder.told c.save.new.folder in
    let name = c.args.request.script.now in
    let outcome = c.in-Ok-outcome_of.outcome in
    let left = left_of (option_map string_bytes outcome.script) in
    record {
      run = put (fix_of c.args.request) _ c.texts_are_one.ensures.firsts 65537 (omega arith)
          c.deref.result.now
          (subst (IsText 65537 (old c.args.request.program.now)) (search rules)
          c.in-Ok.ensures.text)
          outcome.status outcome.line.items left c.in-Ok-outcome_of.ensures
          (λ other n. c.in-Ok-save.ensures.only_writes.others other n ∙ reads.told other)
          (subst (λ o. Leaves left o (new name))
          (reads.told name) c.in-Ok-save.ensures.ok)
          (subst (λ line. IsPut outcome.status line (g.O.Sink.taken c.args.out.now)
          (g.O.Sink.taken c.print.new.out) (g.O.Sink.faults c.args.out.now)
          (g.O.Sink.faults c.print.new.out) c.print.result) (search rules) c.print.ensures);
    }

pub returns : goal.returns
returns g c =
    let old = g.F.Folder.told c.args.folder.now in
    let reads = c.in-Ok.ensures.only_reads in
    let new = g.F.Folder.told c.save.new.folder in
    let name = c.args.request.script.now in
    let outcome = c.in-Ok-outcome_of.outcome in
    let left = left_of (option_map string_bytes outcome.script) in
    record {
      run = unwritten (fix_of c.args.request) _ c.texts_are_one.ensures.firsts 65537 (omega arith)
          c.deref.result.now
          (subst (IsText 65537 (old c.args.request.program.now)) (search rules)
          c.in-Ok.ensures.text)
          outcome.status outcome.line.items left c.in-Ok-outcome_of.ensures
          (λ other n. c.in-Err-save.ensures.only_writes.others other n ∙ reads.told other)
          (subst (λ o. Leaves (begun left) o (new name))
          (reads.told name) c.in-Err-save.ensures.err)
          refl refl
          (subst (λ n. Rose n (g.F.Folder.write_faults c.save.new.folder)) reads.quiet
          (c.in-Err-save.ensures.only_writes.cause refl));
    }
