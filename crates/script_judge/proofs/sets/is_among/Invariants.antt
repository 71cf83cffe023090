use Rattle.std.proofs.Common.{◌≡◌, length, map}
use Rattle.script_judge.specs.Names as spec
use Rattle.script_judge.proofs.sets.is_among.Given as goal

abbrev pub invariant-loop-names : goal.invariant-loop-names
invariant-loop-names l = spec.is_among (map (λ n. n.now) l.fn.names) l.name
    ≡ spec.is_among (map (λ n. n.now) l.names) l.name

abbrev pub decreases-loop-names : goal.decreases-loop-names
decreases-loop-names l = length l.names
