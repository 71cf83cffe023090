use Rattle.std.proofs.Common.{refl, inr, subst, rules}
use Rattle.command_runs.specs.Ends.{IsPut}
use Rattle.command_runs.specs.Statuses.{read_fault_line}
use Rattle.command_runs.specs.declared.status.Status.TheVariants.{ReadFault}
use Rattle.command_runs.proofs.printing.print_read_fault.Goals as goal

pub returns-in-Ok : goal.returns-in-Ok
returns-in-Ok g c = inr (
  refl,
  subst
      (λ lines. IsPut ReadFault lines (g.O.Sink.taken c.args.out.now)
      (g.O.Sink.taken c.print.new.out)
      (g.O.Sink.faults c.args.out.now) (g.O.Sink.faults c.print.new.out) c.print.result)
      (search rules) c.print.ensures,
)
