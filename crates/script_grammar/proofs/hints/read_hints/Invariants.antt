use Rattle.std.proofs.Common.{◌≡◌, length}
use Rattle.script_words.specs.Kept.{words_in}
use Rattle.script_shape.specs.Roles.{leaves_of}
use Rattle.script_hints.specs.Drafts.{fresh}
use Rattle.script_hints.specs.Hints.{no_hints}
use Rattle.script_hints.specs.Reading as spec
use Rattle.script_grammar.proofs.hints.read_hints.Given as goal

abbrev pub invariant-loop-roles : goal.invariant-loop-roles
invariant-loop-roles l = spec.read_hints (leaves_of l.fn.roles (words_in l.fn.words))
    (record { reading = l.fn.nodes; draft = fresh no_hints })
    ≡ spec.read_hints (leaves_of l.roles (words_in l.words)) l.hints

abbrev pub decreases-loop-roles : goal.decreases-loop-roles
decreases-loop-roles l = length l.roles
