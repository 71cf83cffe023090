use Rattle.pair_closure.proofs.Behind.{closures_are_one}
use Rattle.pair_closure.proofs.laws.closures_are_one.Goals as goal

pub returns : goal.returns
returns c = closures_are_one
