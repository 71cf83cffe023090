use Rattle.std.proofs.Common.{◌≡◌, ◌++◌, codes, take}
use Rattle.std.specs.List.{flat_map}
use Rattle.fixprog.specs.Turned as spec
use Rattle.fixprog.proofs.print.more_outputs.Given as goal

abbrev pub invariant-loop-i : goal.invariant-loop-i
invariant-loop-i l = l.page.items ≡ l.initial.page.items
    ++ flat_map (λ t. codes " /\\ " ++ spec.output_goal t.now) (take l.i l.outputs)
