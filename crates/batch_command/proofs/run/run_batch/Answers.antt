use Rattle.std.proofs.Common.{rules, subst}
use Rattle.fx_edge.specs.Outside.{Rose}
use Rattle.command_line.specs.Batch.{batch_of}
use Rattle.command_runs.specs.Ends.{IsPut}
use Rattle.batch_command.specs.Told.{Prints}
use Rattle.batch_command.proofs.Ends.{put_is}
use Rattle.batch_command.proofs.run.run_batch.Goals as goal

pub returns-in-Ok : goal.returns-in-Ok
returns-in-Ok g c =
    let faults = g.F.Folder.read_faults in
    let prints : Prints (Rose (faults c.args.folder.now) (faults c.batch.new.folder))
    (batch_of c.args.request) (g.F.Folder.told c.args.folder.now)
    c.in-Ok.status c.in-Ok.lines.items = search rules in
    let put : IsPut c.in-Ok.status c.in-Ok.lines.items (g.O.Sink.taken c.args.out.now)
    (g.O.Sink.taken c.print.new.out) (g.O.Sink.faults c.args.out.now)
    (g.O.Sink.faults c.print.new.out) c.print.result =
    subst (λ lines. IsPut c.in-Ok.status lines (g.O.Sink.taken c.args.out.now)
    (g.O.Sink.taken c.print.new.out) (g.O.Sink.faults c.args.out.now)
    (g.O.Sink.faults c.print.new.out) c.print.result) c.deref.ensures.value c.print.ensures in
    record {
      run =
          put_is (batch_of c.args.request) _ c.list_faults_are_one.ensures
          c.text_answers_are_one.ensures c.batch.ensures.only_reads.told c.in-Ok.status
          c.in-Ok.lines.items prints put;
    }
