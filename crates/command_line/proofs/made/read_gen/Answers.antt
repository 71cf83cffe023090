use Rattle.std.proofs.Common.{Some, None}
use Rattle.clap.specs.Words.{app_of, found_of}
use Rattle.command_line.specs.Made.{gen_app, degree_from, asked_gen}
use Rattle.command_line.proofs.Asking.{read_is, read_none}
use Rattle.command_line.proofs.made.read_gen.Goals as goal

pub returns-in-Some-clause-ok : goal.returns-in-Some-clause-ok
unfolding asked_gen
returns-in-Some-clause-ok c =
    read_is gen_app (app_of c.in-Ok.command) c.in-Ok.ensures degree_from _
    (found_of c.in-Ok-matches_by.matches) (Some c.in-Some.degree)
    c.in-Ok-matches_by.ensures.fits c.in-Ok-matches_by.ensures.rows c.in-Some.ensures.is

pub returns-in-Ok-matches_by-clause-usage : goal.returns-in-Ok-matches_by-clause-usage
unfolding asked_gen
returns-in-Ok-matches_by-clause-usage c =
    λ e. read_is gen_app (app_of c.in-Ok.command) c.in-Ok.ensures degree_from _
    (found_of c.in-Ok-matches_by.matches) None
    c.in-Ok-matches_by.ensures.fits c.in-Ok-matches_by.ensures.rows c.in-None.ensures.is

pub returns-clause-usage : goal.returns-clause-usage
unfolding asked_gen
returns-clause-usage c = λ e. read_none gen_app
    (app_of c.in-Ok.command) c.in-Ok.ensures degree_from _ (c.in-Err.ensures.usage e)
