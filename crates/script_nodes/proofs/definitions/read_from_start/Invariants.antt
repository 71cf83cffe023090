use Rattle.std.proofs.Common.{◌≡◌, length}
use Rattle.script_words.specs.Kept.{words_in}
use Rattle.script_shape.specs.Roles.{leaves_of}
use Rattle.script_nodes.specs.Known.{nothing_known}
use Rattle.script_nodes.specs.Defining.{between, define_all}
use Rattle.script_nodes.proofs.definitions.read_from_start.Given as goal

abbrev pub invariant-loop-roles : goal.invariant-loop-roles
invariant-loop-roles l = define_all (leaves_of l.fn.roles (words_in l.fn.words))
    (between nothing_known) ≡ define_all (leaves_of l.roles (words_in l.words)) l.read

abbrev pub decreases-loop-roles : goal.decreases-loop-roles
decreases-loop-roles l = length l.roles
