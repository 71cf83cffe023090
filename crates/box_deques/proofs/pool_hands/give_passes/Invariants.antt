use Rattle.std.proofs.Common.{◌≡◌, ℕ, ◌<◌, ◌≤◌, length, slice_index_or}
use Rattle.box_deques.specs.Seen as seen
use Rattle.box_deques.specs.Seen.{with_hand, with_pass, seat_at}
use Rattle.box_deques.proofs.pool_hands.give_passes.Given as goal

abbrev pub invariant-loop-k : goal.invariant-loop-k
invariant-loop-k g l = record {
  number : l.hand.number ≡ l.initial.hand.number;
  long : length l.hand.seats ≡ length l.initial.hand.seats;
  lanes : (k : ℕ) (d : seen.Lane) → k < l.k
      → slice_index_or l.lanes k d ≡ with_hand (slice_index_or l.initial.lanes k d);
  lanes_left : (k : ℕ) (d : seen.Lane) → l.k ≤ k
      → slice_index_or l.lanes k d ≡ slice_index_or l.initial.lanes k d;
  seats : (k : ℕ) (d : seen.Lane) → k < l.k → seat_at l.hand.seats k
      ≡ with_pass (seat_at l.initial.hand.seats k) (slice_index_or l.initial.lanes k d).name;
  seats_left : (k : ℕ) → l.k ≤ k → seat_at l.hand.seats k ≡ seat_at l.initial.hand.seats k;
}
