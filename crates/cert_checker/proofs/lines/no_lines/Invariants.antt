use Rattle.std.proofs.Common.{◌≡◌, take}
use Rattle.std.specs.Prelude.{map}
use Rattle.goals.specs.declared.line.Line.TheVariants as line
use Rattle.cert_checker.proofs.lines.no_lines.Given as goal

abbrev pub invariant-loop-goal : goal.invariant-loop-goal
invariant-loop-goal l = l.lines.items ≡ map (λ g. line.Empty) (take l._goal-index l.goals)
