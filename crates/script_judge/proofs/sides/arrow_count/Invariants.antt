use Rattle.std.proofs.Common.{◌≡◌, ◌+◌, ◌≤◌, length}
use Rattle.script_words.specs.Kept.{words_in}
use Rattle.script_shape.specs.Roles.{leaves_of}
use Rattle.script_judge.specs.Judge as spec
use Rattle.script_judge.proofs.sides.arrow_count.Given as goal

abbrev pub invariant-loop-roles : goal.invariant-loop-roles
invariant-loop-roles l = record {
  counted : spec.arrow_count (leaves_of l.fn.roles (words_in l.fn.words))
      ≡ l.count + spec.arrow_count (leaves_of l.roles (words_in l.words));
  room : l.count + length l.roles ≤ length l.fn.roles;
}

abbrev pub decreases-loop-roles : goal.decreases-loop-roles
decreases-loop-roles l = length l.roles
