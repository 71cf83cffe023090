-- Words of a script with roles are the leaves of its tree.
use Rattle.std.proofs.Common.{◌≡◌, List, Result, Ok, Err, IfOk, ap, ◌∙◌}
use Rattle.expr_dag.specs.declared.dag.DagFault.{DagFault}
use Rattle.script_words.specs.Words.{Word}
use Rattle.script_shape.specs.Tree.{Script, script_words}
use Rattle.script_shape.specs.Roles.{Leaf, HasRoles, LeavesAreOfTrees}
use Rattle.script_nodes.specs.Known.{nothing_known}
use Rattle.script_nodes.specs.Definitions.{definitions_value}
use Rattle.script_nodes.specs.Defining.{Defining, between, read_from_start}
use Rattle.script_nodes.proofs.DefinitionReads.{reads_definitions}

pub means_tree : (answer : Result Defining DagFault) (ws : List Word) (leaves : List Leaf)
    → LeavesAreOfTrees → IfOk answer (λ d. d ≡ read_from_start leaves)
    → IfOk answer (λ d. (tree : Script) → script_words tree ≡ ws → HasRoles ws leaves
    → d ≡ between (definitions_value tree nothing_known))
means_tree (Ok d) ws leaves are h = λ tree e r. h ∙ ap read_from_start (are tree ws leaves e r)
    ∙ reads_definitions tree
means_tree (Err f) ws leaves are h = tt
