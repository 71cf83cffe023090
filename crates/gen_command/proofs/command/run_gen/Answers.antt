use Rattle.std.proofs.Common.{refl, rules, subst}
use Rattle.command_runs.proofs.Ends.{IsPutBy}
use Rattle.command_runs.specs.Runs.{Run, run, seen_beside}
use Rattle.gen_command.proofs.Ends.{put_is}
use Rattle.gen_command.proofs.command.run_gen.Goals as goal

pub returns-in-Ok : goal.returns-in-Ok
returns-in-Ok g c = record {
  run = λ told reads writes.
      let o = g.O.Sink in
      let r : Run = run (seen_beside told reads writes o c.args.out.now)
      (seen_beside told reads writes o c.print.new.out) c.print.result in
      put_is c.made_answers_are_one.ensures c.args.n r (λ name. refl) c.in-Ok.status
      c.in-Ok.lines.items c.in-Ok.ensures
      (subst (λ lines. IsPutBy c.in-Ok.status lines r) (search rules) c.print.ensures);
}
