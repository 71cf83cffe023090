use Rattle.std.proofs.Common.{inr, subst, rules}
use Rattle.command_runs.specs.Ends.{IsPut}
use Rattle.command_runs.specs.declared.status.Status.TheVariants.{Certificate}
use Rattle.report.specs.Certificates.{cert_fault_line}
use Rattle.upgrade_command.proofs.run.print_fault.Goals as goal

pub returns-in-Ok : goal.returns-in-Ok
returns-in-Ok g c = inr (subst
    (λ lines. IsPut Certificate lines (g.O.Sink.taken c.args.out.now)
    (g.O.Sink.taken c.print.new.out)
    (g.O.Sink.faults c.args.out.now) (g.O.Sink.faults c.print.new.out) c.print.result)
    (search rules) c.print.ensures)
