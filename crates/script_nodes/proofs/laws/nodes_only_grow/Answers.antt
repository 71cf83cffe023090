use Rattle.script_nodes.proofs.Grows.{named_grows}
use Rattle.script_nodes.proofs.DefinitionGrows.{ends_grow, words_grow, word_grows}
use Rattle.script_nodes.proofs.laws.nodes_only_grow.Goals as goal

pub returns : goal.returns
returns c =
    record { names = named_grows; ends = ends_grow; words = words_grow; definitions = word_grows }
