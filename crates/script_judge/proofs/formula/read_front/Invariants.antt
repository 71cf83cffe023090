use Rattle.std.proofs.Common.{◌≡◌, length}
use Rattle.script_words.specs.Kept.{words_in}
use Rattle.script_shape.specs.Roles.{leaves_of}
use Rattle.script_judge.specs.Front as spec
use Rattle.script_judge.specs.FrontViews.{front_of}
use Rattle.script_judge.proofs.formula.read_front.Given as goal

abbrev pub invariant-loop-roles : goal.invariant-loop-roles
invariant-loop-roles l = spec.read_front (leaves_of l.fn.roles (words_in l.fn.words)) spec.no_front
    ≡ spec.read_front (leaves_of l.roles (words_in l.words)) (front_of l.front)

abbrev pub decreases-loop-roles : goal.decreases-loop-roles
decreases-loop-roles l = length l.roles
