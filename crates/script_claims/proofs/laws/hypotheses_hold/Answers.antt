use Rattle.script_claims.proofs.Hypotheses.{facts_hold, facts_given}
use Rattle.script_claims.proofs.laws.hypotheses_hold.Goals as goal

pub returns : goal.returns
returns c = record {
  holds = facts_hold c.outward_is_least.ensures;
  kept = facts_given c.outward_is_least.ensures;
}
