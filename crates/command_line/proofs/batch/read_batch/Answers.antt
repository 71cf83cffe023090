use Rattle.std.proofs.Common.{Some, None}
use Rattle.clap.specs.Words.{app_of, found_of}
use Rattle.command_line.specs.Batch.{batch_app, batch_from, batch_of, asked_batch}
use Rattle.command_line.proofs.Asking.{read_is, read_none}
use Rattle.command_line.proofs.batch.read_batch.Goals as goal

pub returns-in-Some-clause-ok : goal.returns-in-Some-clause-ok
unfolding asked_batch
returns-in-Some-clause-ok c =
    read_is batch_app (app_of c.in-Ok.command) c.in-Ok.ensures batch_from _
    (found_of c.in-Ok-matches_by.matches) (Some (batch_of c.in-Some.request))
    c.in-Ok-matches_by.ensures.fits c.in-Ok-matches_by.ensures.rows c.in-Some.ensures.is

pub returns-in-Ok-matches_by-clause-usage : goal.returns-in-Ok-matches_by-clause-usage
unfolding asked_batch
returns-in-Ok-matches_by-clause-usage c =
    λ e. read_is batch_app (app_of c.in-Ok.command) c.in-Ok.ensures batch_from _
    (found_of c.in-Ok-matches_by.matches) None
    c.in-Ok-matches_by.ensures.fits c.in-Ok-matches_by.ensures.rows c.in-None.ensures.is

pub returns-clause-usage : goal.returns-clause-usage
unfolding asked_batch
returns-clause-usage c =
    λ e. read_none batch_app (app_of c.in-Ok.command) c.in-Ok.ensures batch_from _
    (c.in-Err.ensures.usage e)
