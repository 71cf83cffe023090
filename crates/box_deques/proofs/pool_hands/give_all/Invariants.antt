use Rattle.std.proofs.Common.{◌≡◌, ℕ, ◌<◌, ◌≤◌, length, slice_index_or}
use Rattle.box_deques.specs.Seen as seen
use Rattle.box_deques.specs.Seen.{with_hands, IsSeated}
use Rattle.box_deques.proofs.pool_hands.give_all.Given as goal

abbrev pub invariant-loop-k : goal.invariant-loop-k
invariant-loop-k g l = record {
  lanes : (j : ℕ) (d : seen.Lane) → j < length l.initial.lanes
      → slice_index_or l.lanes j d ≡ with_hands (slice_index_or l.initial.lanes j d) l.k;
  done : (i : ℕ) (d : seen.Hand) → i < l.k
      → IsSeated i g.Q.Naming.capacity l.initial.lanes (slice_index_or l.hands i d);
  rest : (i : ℕ) (d : seen.Hand) → l.k ≤ i
      → slice_index_or l.hands i d ≡ slice_index_or l.initial.hands i d;
}
