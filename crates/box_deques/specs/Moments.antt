-- What a worker can say of a lane at the moment of a pop or a steal. Others may take from it at any
-- time, so it is this: a lawful state of the lane that the worker can't tell from the real one.
use Rattle.std.specs.Prelude.{◌≡◌, ℕ, ◌+◌, ◌<◌, ◌≤◌, List, [], ◌∷◌, ◌++◌, length, All, Some}
use Rattle.std.specs.Prelude.{slice_get}
use Rattle.box_deques.specs.Views.{Take}
use Rattle.box_deques.specs.Rule.{Gone, taken_by, paths_of}
use Rattle.box_deques.specs.Seen.{Lane, Seat, Hand, seat_at, hand_with, with_pop, with_take}

-- this is what left the lane, taken by its owner (party 0) and the hands that were made, and these
-- paths wait
pub record LaneFits (lane : Lane) (history : List Gone) (waiting : List (List ℕ)) : Type 0 where
  pub took : lane.takes ≡ taken_by 0 0 history
  pub parties : All (λ e. e.0 ≤ lane.hands) history
  pub whole : lane.pushed ≡ paths_of history ++ waiting

-- so with nothing that waits. Where no hand was made, the owner's takes are all pushes
abbrev pub MayBeEmpty : Lane → Type 0
MayBeEmpty lane = (history : List Gone) × LaneFits lane history []

-- a pop took the first path that waited, with its place among the pushes
pub record Pops (capacity : ℕ) (old new : Lane) (path : List ℕ) : Type 0 where
  pub place : ℕ
  pub below : place < capacity
  pub pushed : slice_get old.pushed place ≡ Some path
  pub history : List Gone
  pub rest : List (List ℕ)
  pub first : place ≡ length history
  pub fits : LaneFits old history (path ∷ rest)
  pub counted : new ≡ with_pop old (place, path)

-- this may have left the lane of the seat: a hand knows its own takes alone
abbrev pub SeatFits : Seat → List Gone → Type 0
SeatFits seat history = seat.takes ≡ taken_by (seat.hand + 1) 0 history

-- a steal took this path, at a place above those of all that the hand took there. It is as many as
-- had left the lane, in a state that the hand can't tell from the real one
pub record Takes (capacity : ℕ) (old new : Seat) (path : List ℕ) : Type 0 where
  pub place : ℕ
  pub below : place < capacity
  pub above : All (λ (take : Take). take.0 < place) old.takes
  pub history : List Gone
  pub first : place ≡ length history
  pub fits : SeatFits old history
  pub counted : new ≡ with_take old (place, path)

-- the same of a hand, on the lane of this number
pub record Steals (capacity lane : ℕ) (old new : Hand) (path : List ℕ) : Type 0 where
  pub place : ℕ
  pub below : place < capacity
  pub above : All (λ (take : Take). take.0 < place) (seat_at old.seats lane).takes
  pub history : List Gone
  pub first : place ≡ length history
  pub fits : SeatFits (seat_at old.seats lane) history
  pub counted : new ≡ hand_with old lane (λ s. with_take s (place, path))

-- the seat is of the same hand, with the same pass and the same room
pub record SameSeat (old new : Seat) : Type 0 where
  pub lane : new.lane ≡ old.lane
  pub hand : new.hand ≡ old.hand
  pub room : new.room ≡ old.room

-- the passes are as before, and so is what the hand took of its own lane
pub record SamePasses (old new : Hand) : Type 0 where
  pub number : new.number ≡ old.number
  pub long : length new.seats ≡ length old.seats
  pub lanes : (k : ℕ) → (seat_at new.seats k).lane ≡ (seat_at old.seats k).lane
  pub hands : (k : ℕ) → (seat_at new.seats k).hand ≡ (seat_at old.seats k).hand
  pub rooms : (k : ℕ) → (seat_at new.seats k).room ≡ (seat_at old.seats k).room
  pub own : (seat_at new.seats old.number).takes ≡ (seat_at old.seats old.number).takes
