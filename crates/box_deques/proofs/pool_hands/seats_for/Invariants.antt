use Rattle.std.proofs.Common.{◌≡◌, ℕ, ◌<◌, ◌≤◌, vec_len, vec_capacity, slice_index_or}
use Rattle.box_deques.specs.Seen as seen
use Rattle.box_deques.specs.Seen.{IsBare}
use Rattle.box_deques.proofs.pool_hands.seats_for.Given as goal

abbrev pub invariant-loop : goal.invariant-loop
invariant-loop g l = (vec_len l.seats ≡ l.counter) × (l.lanes ≤ vec_capacity l.seats) × ((k : ℕ)
    (d : seen.Seat) → k < l.counter → IsBare l.hand l.room (slice_index_or l.seats.items k d))
