use Rattle.std.proofs.Common.{◌≡◌, ◌*◌, length}
use Rattle.script_cases.specs.Gaps.{gaps, AreRising}
use Rattle.script_cases.proofs.parts.product.Given as goal

abbrev pub invariant-loop-places : goal.invariant-loop-places
invariant-loop-places l = (l.product * gaps l.from l.places ≡ gaps 0 l.fn.places)
    × AreRising l.from l.places

abbrev pub decreases-loop-places : goal.decreases-loop-places
decreases-loop-places l = length l.places
