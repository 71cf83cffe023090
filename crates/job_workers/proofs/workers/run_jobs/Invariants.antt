use Rattle.std.proofs.Common.{None}
use Rattle.job_workers.proofs.workers.run_jobs.Given as goal

abbrev pub ghosts-run_on : goal.ghosts-run_on
ghosts-run_on g a = record { world = None; capacity = a.count }
