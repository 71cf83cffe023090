use Rattle.std.specs.Prelude.{[]}
use Rattle.settler.proofs.job.Job.new.Goals as goal

pub returns-clause-job : goal.returns-clause-job
returns-clause-job c = record {
  universe = ([], c.in_ok-universe.ensures.universe);
  few = c.in_ok-universe.ensures.few;
  cases = c.in_ok-cases.ensures;
  allowed = c.requires;
}
