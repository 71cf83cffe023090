use Rattle.script_hints.proofs.HintGrows.{hints_grow}
use Rattle.script_hints.proofs.laws.hints_only_grow.Goals as goal

pub returns : goal.returns
returns c = hints_grow c.nodes_only_grow.ensures.names c.nodes_only_grow.ensures.ends
    c.nodes_only_grow.ensures.words
