use Rattle.std.proofs.Common.{◌≡◌}
use Rattle.settler.specs.Jobs.{IsJob, IsSameJob}
use Rattle.cert_bytes.specs.Styles.{none_seen}
use Rattle.whole_texts.specs.OnlyWrites.{OnlyWrites}
use Rattle.cert_writer.specs.Cases.{bare, OfStanding, GoesOn}
use Rattle.cert_writer.proofs.cases.write_cases.Given as goal

abbrev pub invariant-loop-number : goal.invariant-loop-number
invariant-loop-number g l = record {
  job : IsJob l.job;
  kept : IsSameJob l.fn.job l.job;
  same : bare l.job.universe ≡ bare l.fn.job.universe;
  done : OfStanding l.fn.job.script.now (bare l.fn.job.universe) l.fn.job.options.rounds
      l.fn.job.options.depth 0 none_seen (λ w items. GoesOn w l.number l.next items
      (g.F.Folder.told l.fn.folder l.name) (g.F.Folder.told l.folder l.name));
  only_writes : OnlyWrites g.F.Folder l.name l.fn.folder l.folder ⊥;
}
