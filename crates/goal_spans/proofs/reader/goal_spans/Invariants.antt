use Rattle.std.proofs.Common.{◌≡◌, ◌+◌, length}
use Rattle.script_words.specs.Kept.{words_in}
use Rattle.script_shape.specs.Roles.{leaves_of}
use Rattle.goal_spans.specs.Reading as spec
use Rattle.goal_spans.proofs.reader.goal_spans.Given as goal

abbrev pub invariant-loop-roles : goal.invariant-loop-roles
invariant-loop-roles l = record {
  read : spec.read_leaves (leaves_of l.fn.roles (words_in l.fn.words)) spec.start
      ≡ spec.read_leaves (leaves_of l.roles (words_in l.words)) l.reader;
  counted : l.reader.at + length l.roles ≡ length l.fn.roles;
}

abbrev pub decreases-loop-roles : goal.decreases-loop-roles
decreases-loop-roles l = length l.roles
