use Rattle.std.proofs.Common.{length}
use Rattle.saturate.proofs.Slots.{room_found}
use Rattle.saturate.proofs.table_sweep.TableSweeps.fact_on.Goals as goal

pub strongest_at-requires : goal.strongest_at-requires
strongest_at-requires g c = room_found (length c.args.uni.now.nodes) c.args.uni.now.pairs
    c.args.self.now c.laws.ensures.universe.once c.requires.fits c.args.placed.slot
    c.args.placed.place c.requires.placed
