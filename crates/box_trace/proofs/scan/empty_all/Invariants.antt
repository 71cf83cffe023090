use Rattle.std.proofs.Common.{◌≡◌, ◌<◌, ℕ, Some, None, length, slice_get}
use Rattle.box_trace.proofs.scan.empty_all.Given as goal

abbrev pub invariant-loop-k : goal.invariant-loop-k
invariant-loop-k l = record {
  none : (i : ℕ) → i < l.k → slice_get l.ends i ≡ Some None;
  long : length l.ends ≡ length l.initial.ends;
}
