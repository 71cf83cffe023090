use Rattle.saturate.specs.Universes.{setting_by}
use Rattle.saturate.proofs.Working.{going_idle, gathered_all}
use Rattle.saturate.proofs.tables.TablesKeeps.rounds_are_whole.Goals as goal

pub returns-clause-idle : goal.returns-clause-idle
returns-clause-idle g c = λ u first now changed k going idle.
    going_idle (setting_by g.C.Concludes.rules u) u first now changed k going idle

pub returns-clause-all : goal.returns-clause-all
returns-clause-all g c = λ u first now changed k e going.
    gathered_all (setting_by g.C.Concludes.rules u) u first now changed k e going
