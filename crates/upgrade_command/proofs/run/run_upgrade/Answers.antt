use Rattle.std.proofs.Common.{refl, subst, rules}
use Rattle.command_line.specs.Upgrade.{upgrade_of}
use Rattle.command_runs.specs.Ends.{IsPut}
use Rattle.command_runs.proofs.Ends.{kept_same}
use Rattle.command_runs.specs.declared.status.Status.TheVariants.{Certificate}
use Rattle.upgrade_command.proofs.Comes.{whole, caused, done_runs, faulty_runs, long_runs}
use Rattle.upgrade_command.proofs.Comes.{unread_runs, unwritten_so, starved_so}
use Rattle.upgrade_command.proofs.run.run_upgrade.Goals as goal

pub returns-in-Ok : goal.returns-in-Ok
returns-in-Ok g c = whole c.items_are_one.ensures (upgrade_of c.args.request) _
    (done_runs (upgrade_of c.args.request) _ c.upgrade.ensures.others c.upgrade.result
    (c.upgrade.ensures.comes, c.upgrade.ensures.any) _ (search rules) c.print_counts.ensures)

pub returns-in-Err-Fault : goal.returns-in-Err-Fault
returns-in-Err-Fault g c = whole c.items_are_one.ensures (upgrade_of c.args.request) _
    (faulty_runs (upgrade_of c.args.request) _ c.upgrade.ensures.others c.upgrade.result
    (c.upgrade.ensures.comes, c.upgrade.ensures.any) _ (search rules) c.print_fault.ensures)

pub returns-in-Err-NewTooLong : goal.returns-in-Err-NewTooLong
returns-in-Err-NewTooLong g c = whole c.items_are_one.ensures (upgrade_of c.args.request) _
    (long_runs (upgrade_of c.args.request) _ c.upgrade.ensures.others c.upgrade.result
    (c.upgrade.ensures.comes, c.upgrade.ensures.any) (search rules)
    (subst (λ lines. IsPut Certificate lines (g.O.Sink.taken c.args.out.now)
    (g.O.Sink.taken c.print.new.out) (g.O.Sink.faults c.args.out.now)
    (g.O.Sink.faults c.print.new.out) c.print.result) c.new_too_long_line.ensures c.print.ensures))

pub returns-in-Err-ReadFailed : goal.returns-in-Err-ReadFailed
returns-in-Err-ReadFailed g c = whole c.items_are_one.ensures (upgrade_of c.args.request) _
    (unread_runs (upgrade_of c.args.request) _ c.upgrade.ensures.others c.upgrade.result
    (c.upgrade.ensures.comes, c.upgrade.ensures.any) (search rules)
    (caused _ c.upgrade.result _
    (search rules) c.upgrade.ensures.reads.failed) c.print_stop.ensures)

pub returns-in-Err-WriteFailed : goal.returns-in-Err-WriteFailed
returns-in-Err-WriteFailed g c = whole c.items_are_one.ensures (upgrade_of c.args.request) _
    (unwritten_so (upgrade_of c.args.request) _ c.upgrade.ensures.others c.upgrade.result
    (c.upgrade.ensures.comes, c.upgrade.ensures.any) (search rules) refl
    (caused _ c.upgrade.result _ (search rules) c.upgrade.ensures.writes.failed) (kept_same _))

pub returns-in-Err-OutOfMemory : goal.returns-in-Err-OutOfMemory
returns-in-Err-OutOfMemory g c = whole c.items_are_one.ensures (upgrade_of c.args.request) _
    (starved_so (upgrade_of c.args.request) _ c.upgrade.ensures.others c.upgrade.result
    (c.upgrade.ensures.comes, c.upgrade.ensures.any) (search rules) refl (kept_same _))
