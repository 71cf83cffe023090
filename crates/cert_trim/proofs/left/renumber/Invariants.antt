use Rattle.std.proofs.Common.{◌≡◌, ◌≤◌, ◌<◌, ℕ, get_or}
use Rattle.cert_trim.specs.Flags.{number_of}
use Rattle.cert_trim.proofs.left.renumber.Given as goal

abbrev pub invariant-loop-step : goal.invariant-loop-step
invariant-loop-step l =
    ((k : ℕ) → k < l.step-index
    → get_or l.steps k 0 ≡ number_of l.start l.numbers (get_or l.initial.steps k 0))
    × ((k : ℕ) → l.step-index ≤ k → get_or l.steps k 0 ≡ get_or l.initial.steps k 0)
