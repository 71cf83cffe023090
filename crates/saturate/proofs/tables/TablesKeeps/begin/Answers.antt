use Rattle.saturate.specs.Universes.{setting_by}
use Rattle.saturate.proofs.Working.{going_start}
use Rattle.saturate.proofs.tables.TablesKeeps.begin.Goals as goal

pub returns : goal.returns
returns g c = going_start (setting_by g.C.Concludes.rules c.args.uni.now) c.args.uni.now
    c.args.self.now c.requires.fits.1 c.requires.no_void
