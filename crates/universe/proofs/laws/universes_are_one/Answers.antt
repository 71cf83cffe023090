use Rattle.universe.proofs.OneUniverse.{universes_are_one}
use Rattle.universe.proofs.laws.universes_are_one.Goals as goal

pub returns : goal.returns
returns c = universes_are_one c.closures_are_one.ensures
