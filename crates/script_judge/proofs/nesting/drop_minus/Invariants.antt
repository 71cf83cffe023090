use Rattle.std.proofs.Common.{◌≡◌, reverse, vec_len}
use Rattle.script_judge.specs.Nesting as spec
use Rattle.script_judge.proofs.nesting.drop_minus.Given as goal

abbrev pub invariant-loop-top : goal.invariant-loop-top
invariant-loop-top l =
    spec.without_minus (reverse l.fn.opened.items) ≡ spec.without_minus (reverse l.opened.items)

abbrev pub decreases-loop-top : goal.decreases-loop-top
decreases-loop-top l = vec_len l.opened
