use Rattle.universe.proofs.Built.{hypotheses_slots}
use Rattle.universe.proofs.laws.hypotheses_have_slots.Goals as goal

pub returns : goal.returns
returns c = λ s before claims u names is are. hypotheses_slots s u names claims are is.closure
