use Rattle.std.proofs.Common.{◌≡◌, ◌++◌, length}
use Rattle.std.specs.Prelude.{codes}
use Rattle.std.specs.List.{flat_map}
use Rattle.report.specs.Unproved.{range_text, box_text}
use Rattle.report.proofs.unproved.put_box.Given as goal

abbrev pub invariant-loop-rest : goal.invariant-loop-rest
invariant-loop-rest l =
    l.line.items ++ flat_map (λ x. codes ", " ++ range_text l.script l.plan l.path x) l.rest
    ≡ l.fn.line.items ++ box_text l.script l.plan l.path l.fn.order

abbrev pub decreases-loop-rest : goal.decreases-loop-rest
decreases-loop-rest l = length l.rest
