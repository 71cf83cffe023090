use Rattle.script_grammar.proofs.ScriptCounts.{nodes_are_counted}
use Rattle.script_grammar.proofs.counts.nodes_are_counted.Goals as goal

pub returns : goal.returns
returns c = nodes_are_counted c.reads_trees.ensures c.formulas_are_read.ensures
    c.reads_hints.ensures c.leaves_are_of_trees.ensures.spell c.roles_are_unique.ensures
