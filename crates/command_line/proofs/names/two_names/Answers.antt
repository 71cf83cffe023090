use Rattle.std.proofs.Common.{Some, None}
use Rattle.clap.specs.Words.{app_of, found_of}
use Rattle.command_line.specs.Names.{names_app, names_from, names_of, asked_names}
use Rattle.command_line.proofs.Asking.{read_is, read_none}
use Rattle.command_line.proofs.names.two_names.Goals as goal

pub returns-in-Some-clause-ok : goal.returns-in-Some-clause-ok
unfolding asked_names
returns-in-Some-clause-ok c =
    let app = names_app c.args.command.now c.args.first.now c.args.second.now in
    read_is app (app_of c.in-Ok.built) c.in-Ok.ensures
    (names_from c.args.first.now c.args.second.now) _
    (found_of c.in-Ok-matches_by.matches) (Some (names_of c.in-Some.names))
    c.in-Ok-matches_by.ensures.fits c.in-Ok-matches_by.ensures.rows c.in-Some.ensures.read

pub returns-in-Ok-matches_by-clause-usage : goal.returns-in-Ok-matches_by-clause-usage
unfolding asked_names
returns-in-Ok-matches_by-clause-usage c =
    let app = names_app c.args.command.now c.args.first.now c.args.second.now in
    λ e. read_is app (app_of c.in-Ok.built) c.in-Ok.ensures
    (names_from c.args.first.now c.args.second.now) _
    (found_of c.in-Ok-matches_by.matches) None
    c.in-Ok-matches_by.ensures.fits c.in-Ok-matches_by.ensures.rows c.in-None.ensures.read

pub returns-clause-usage : goal.returns-clause-usage
unfolding asked_names
returns-clause-usage c =
    let app = names_app c.args.command.now c.args.first.now c.args.second.now in
    λ e. read_none app (app_of c.in-Ok.built) c.in-Ok.ensures
    (names_from c.args.first.now c.args.second.now) _ (c.in-Err.ensures.usage e)
