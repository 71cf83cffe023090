use Rattle.script_claims.proofs.FormulaParts.{parts_hold_hypotheses}
use Rattle.script_claims.proofs.laws.parts_have_hypotheses.Goals as goal

pub returns : goal.returns
returns c = parts_hold_hypotheses
