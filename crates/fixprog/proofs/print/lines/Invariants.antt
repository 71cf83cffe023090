use Rattle.std.proofs.Common.{◌≡◌, ◌++◌, take}
use Rattle.std.specs.List.{flat_map}
use Rattle.fixprog.specs.Turned as spec
use Rattle.fixprog.specs.Views.{step_of}
use Rattle.fixprog.proofs.print.lines.Given as goal

abbrev pub invariant-loop-i : goal.invariant-loop-i
invariant-loop-i l = l.page.items ≡ l.initial.page.items
    ++ flat_map (λ x. spec.step_line (step_of x)) (take l.i l.steps)
