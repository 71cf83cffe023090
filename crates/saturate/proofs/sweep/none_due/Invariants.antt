use Rattle.std.proofs.Common.{◌≢◌, ◌<◌, ℕ, Some, true, slice_get}
use Rattle.saturate.proofs.sweep.none_due.Given as goal

abbrev pub invariant-loop-is_due : goal.invariant-loop-is_due
invariant-loop-is_due l = (k : ℕ) → k < l.is_due-index → slice_get l.due k ≢ Some true
