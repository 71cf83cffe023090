use Rattle.std.proofs.Common.{◌≡◌, length}
use Rattle.script_words.specs.Kept.{words_in}
use Rattle.script_shape.specs.Roles.{leaves_of}
use Rattle.script_judge.specs.Sides as side
use Rattle.script_judge.proofs.sides.begins_bound.Given as goal

abbrev pub invariant-loop-roles : goal.invariant-loop-roles
invariant-loop-roles l = side.begins_bound (leaves_of l.fn.roles (words_in l.fn.words))
    ≡ side.begins_bound (leaves_of l.roles (words_in l.words))

abbrev pub decreases-loop-roles : goal.decreases-loop-roles
decreases-loop-roles l = length l.roles
