use Rattle.std.proofs.Common.{◌≡◌, ◌++◌, codes, take}
use Rattle.std.specs.List.{flat_map}
use Rattle.fixprog.specs.Turned as spec
use Rattle.fixprog.specs.Views.{step_of}
use Rattle.fixprog.proofs.print.step_goals.Given as goal

abbrev pub invariant-loop-i : goal.invariant-loop-i
invariant-loop-i l = l.page.items ≡ l.initial.page.items
    ++ flat_map (λ x. spec.format_goal (step_of x) ++ codes " /\\ ") (take l.i l.steps)
