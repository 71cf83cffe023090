use Rattle.std.proofs.Common.{◌≡◌, ℕ, ◌<◌, ◌≤◌, vec_len, vec_capacity, slice_index_or}
use Rattle.box_deques.specs.Seen as seen
use Rattle.box_deques.specs.Seen.{IsBareHand}
use Rattle.box_deques.proofs.pool_hands.bare_hands.Given as goal

abbrev pub invariant-loop-number : goal.invariant-loop-number
invariant-loop-number g l =
    (vec_len l.hands ≡ l.number) × (l.count ≤ vec_capacity l.hands) × ((k : ℕ) (d : seen.Hand)
    → k < l.number → IsBareHand k l.count l.room (slice_index_or l.hands.items k d))
