use Rattle.script_words.specs.Kept.{words_in}
use Rattle.script_shape.specs.Roles.{leaves_of}
use Rattle.script_nodes.proofs.ScriptLeaves.{means_tree}
use Rattle.script_nodes.proofs.definitions.definitions_of.Goals as goal

pub returns-clause-means : goal.returns-clause-means
returns-clause-means c =
    means_tree c.read_from_start.result (words_in c.args.words) (leaves_of c.args.roles.now
    (words_in c.args.words)) c.leaves_are_of_trees.ensures.are c.read_from_start.ensures.read
