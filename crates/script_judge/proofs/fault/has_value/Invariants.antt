use Rattle.std.proofs.Common.{◌≡◌, length}
use Rattle.script_words.specs.Kept.{words_in}
use Rattle.script_shape.specs.Roles.{leaves_of}
use Rattle.script_judge.specs.Fault as spec
use Rattle.script_judge.proofs.fault.has_value.Given as goal

abbrev pub invariant-loop-roles : goal.invariant-loop-roles
invariant-loop-roles l = spec.has_value l.name (leaves_of l.fn.roles (words_in l.fn.words))
    ≡ spec.has_value l.name (leaves_of l.roles (words_in l.words))

abbrev pub decreases-loop-roles : goal.decreases-loop-roles
decreases-loop-roles l = length l.roles
