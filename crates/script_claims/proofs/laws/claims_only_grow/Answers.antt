use Rattle.script_claims.proofs.Grows.{claims_grow}
use Rattle.script_claims.proofs.laws.claims_only_grow.Goals as goal

pub returns : goal.returns
returns c = claims_grow c.nodes_only_grow.ensures.ends c.nodes_only_grow.ensures.words
