use Rattle.std.proofs.Common.{◌≡◌, ◌*◌, ◌^◌, ◌+◌, ℕ}
use Rattle.exact_fractions.proofs.scaling.without_twos.Given as goal

abbrev pub invariant-loop-left : goal.invariant-loop-left
invariant-loop-left l = (lost : ℕ) × ((l.fn.number ≡ l.rest * 2 ^ lost) × (l.fn.k ≡ l.left + lost))

abbrev pub decreases-loop-left : goal.decreases-loop-left
decreases-loop-left l = l.left
