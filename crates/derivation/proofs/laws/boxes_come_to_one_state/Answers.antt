use Rattle.derivation.proofs.States.{state_in-is, state_once}
use Rattle.derivation.proofs.laws.boxes_come_to_one_state.Goals as goal

pub returns : goal.returns
returns c = record {
  decided = λ u goals height pieces at b.
      state_in-is c.settling_facts.ensures.stronger u height pieces at b goals;
  one = state_once;
}
