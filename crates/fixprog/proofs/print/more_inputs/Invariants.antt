use Rattle.std.proofs.Common.{◌≡◌, ◌++◌, codes, take}
use Rattle.std.specs.List.{flat_map}
use Rattle.fixprog.specs.Turned as spec
use Rattle.fixprog.specs.Views.{input_of}
use Rattle.fixprog.proofs.print.more_inputs.Given as goal

abbrev pub invariant-loop-i : goal.invariant-loop-i
invariant-loop-i l = l.page.items ≡ l.initial.page.items
    ++ flat_map (λ x. codes " /\\ " ++ spec.input_text (input_of x)) (take l.i l.inputs)
