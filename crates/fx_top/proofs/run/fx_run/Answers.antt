use Rattle.std.proofs.Common.{◌≡◌, map, string_bytes, None, refl, subst, rules}
use Rattle.command_runs.specs.Ends.{IsPut}
use Rattle.command_runs.specs.declared.status.Status.TheVariants.{Usage}
use Rattle.fx_top.specs.Commands.{reading}
use Rattle.fx_top.proofs.Ends.{usage_run, starved_run, keeps_same}
use Rattle.fx_top.proofs.run.fx_run.Goals as goal

pub returns-in-Err-Usage : goal.returns-in-Err-Usage
returns-in-Err-Usage g c =
    let none : reading (map string_bytes c.args.words.now) ≡ None = search rules in
    record {
      run = usage_run (reading (map string_bytes c.args.words.now)) _ none (λ n. refl) (subst
          (λ lines. IsPut Usage lines (g.O.Sink.taken c.args.out.now)
          (g.O.Sink.taken c.print.new.out)
          (g.O.Sink.faults c.args.out.now) (g.O.Sink.faults c.print.new.out) c.print.result)
          c.usage.ensures c.print.ensures);
    }

pub returns-in-Err-OutOfMemory : goal.returns-in-Err-OutOfMemory
returns-in-Err-OutOfMemory g c = record {
  run = starved_run (reading (map string_bytes c.args.words.now)) _ refl
      (record { silent = keeps_same (g.O.Sink.taken c.args.out.now); files = λ n. refl });
}
