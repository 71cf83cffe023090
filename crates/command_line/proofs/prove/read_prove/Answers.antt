use Rattle.std.proofs.Common.{Some, None}
use Rattle.clap.specs.Words.{app_of, found_of}
use Rattle.command_line.specs.Reading.{prove_app, asked_from, asked_of, asked}
use Rattle.command_line.proofs.Asking.{read_is, read_none}
use Rattle.command_line.proofs.prove.read_prove.Goals as goal

pub returns-in-Some-clause-ok : goal.returns-in-Some-clause-ok
unfolding asked
returns-in-Some-clause-ok c =
    read_is prove_app (app_of c.in-Ok.command) c.in-Ok.ensures asked_from _
    (found_of c.in-Ok-matches_by.matches) (Some (asked_of c.in-Some.request))
    c.in-Ok-matches_by.ensures.fits c.in-Ok-matches_by.ensures.rows c.in-Some.ensures.is

pub returns-in-Ok-matches_by-clause-usage : goal.returns-in-Ok-matches_by-clause-usage
unfolding asked
returns-in-Ok-matches_by-clause-usage c =
    λ e. read_is prove_app (app_of c.in-Ok.command) c.in-Ok.ensures asked_from _
    (found_of c.in-Ok-matches_by.matches) None
    c.in-Ok-matches_by.ensures.fits c.in-Ok-matches_by.ensures.rows c.in-None.ensures.is

pub returns-clause-usage : goal.returns-clause-usage
unfolding asked
returns-clause-usage c =
    λ e. read_none prove_app (app_of c.in-Ok.command) c.in-Ok.ensures asked_from _
    (c.in-Err.ensures.usage e)
