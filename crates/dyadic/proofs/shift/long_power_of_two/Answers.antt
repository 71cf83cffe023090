use Rattle.dyadic.proofs.ShiftLemmas.{long_power}
use Rattle.dyadic.proofs.shift.long_power_of_two.Goals as goal

pub returns : goal.returns
returns c = long_power c.args.places c.requires
