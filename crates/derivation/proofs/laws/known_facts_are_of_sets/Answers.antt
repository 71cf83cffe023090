use Rattle.derivation.proofs.Sets.{known_more, state_same}
use Rattle.derivation.proofs.laws.known_facts_are_of_sets.Goals as goal

pub returns : goal.returns
returns c = record { known = known_more; state = state_same }
