use Rattle.std.proofs.Common.{Some, None}
use Rattle.clap.specs.Words.{app_of, found_of}
use Rattle.command_line.specs.Trim.{trim_app, trim_from, trim_of, asked_trim}
use Rattle.command_line.proofs.Asking.{read_is, read_none}
use Rattle.command_line.proofs.trim.read_trim.Goals as goal

pub returns-in-Some-clause-ok : goal.returns-in-Some-clause-ok
unfolding asked_trim
returns-in-Some-clause-ok c =
    read_is trim_app (app_of c.in-Ok.command) c.in-Ok.ensures trim_from _
    (found_of c.in-Ok-matches_by.matches) (Some (trim_of c.in-Some.request))
    c.in-Ok-matches_by.ensures.fits c.in-Ok-matches_by.ensures.rows c.in-Some.ensures.read

pub returns-in-Ok-matches_by-clause-usage : goal.returns-in-Ok-matches_by-clause-usage
unfolding asked_trim
returns-in-Ok-matches_by-clause-usage c =
    λ e. read_is trim_app (app_of c.in-Ok.command) c.in-Ok.ensures trim_from _
    (found_of c.in-Ok-matches_by.matches) None
    c.in-Ok-matches_by.ensures.fits c.in-Ok-matches_by.ensures.rows c.in-None.ensures.read

pub returns-clause-usage : goal.returns-clause-usage
unfolding asked_trim
returns-clause-usage c =
    λ e. read_none trim_app (app_of c.in-Ok.command) c.in-Ok.ensures trim_from _
    (c.in-Err.ensures.usage e)
