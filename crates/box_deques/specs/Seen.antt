-- What contracts see of a lane, a thief and a hand.
use Rattle.std.specs.Prelude.{◌≡◌, ℕ, ◌+◌, ◌-◌, ◌^◌, min, Bool, true, false, List, [], ◌++◌, ◌∷◌}
use Rattle.std.specs.Prelude.{Option, Some, None, slice_set, slice_index_or, length, map, ◌<◌}
use Rattle.crossbeam_deque.specs.Handles.{Pass}
use Rattle.box_deques.specs.Views.{Take}

-- a deque's name, which its thieves and passes carry
abbrev pub Name : Type 0
Name = ℕ × ℕ

-- the worker's number, what the lane was pushed, what its owner popped, whether the last of these
-- was a pop that found nothing, how many hands have a pass, and the name of the deque
pub record Lane : Type 0 where
  pub number : ℕ
  pub pushed : List (List ℕ)
  pub takes : List Take
  pub dry : Bool
  pub hands : ℕ
  pub name : Name

-- A lane that was pushed nothing, which stands for one that a list of lanes doesn't have.
abbrev pub no_lane : Lane
no_lane = record { number = 0; pushed = []; takes = []; dry = false; hands = 0; name = (0, 0) }

-- the number and the deque of the lane that it takes from
pub record Thief : Type 0 where
  pub number : ℕ
  pub name : Name

-- the hand's number, the takes that it has room for, the lane that it has a pass on, what it took
-- there, and how often it found nothing
pub record Seat : Type 0 where
  pub hand : ℕ
  pub room : ℕ
  pub lane : Option Name
  pub takes : List Take
  pub empty : ℕ

-- the lane that a pass is on
abbrev pub lane_of : {T V A : Type 0} → Option (Pass T V A) → Option Name
lane_of None = None
lane_of (Some p) = Some p.rows

-- after a push of this path
abbrev pub with_push : Lane → List ℕ → Lane
with_push l p = record l { pushed = l.pushed ++ p ∷ []; dry = false }

-- after a pop that gave this take
abbrev pub with_pop : Lane → Take → Lane
with_pop l t = record l { takes = l.takes ++ t ∷ []; dry = false }

-- after a pop that found nothing
abbrev pub with_none : Lane → Lane
with_none l = record l { dry = true }

-- after a steal that gave this take
abbrev pub with_take : Seat → Take → Seat
with_take s t = record s { takes = s.takes ++ t ∷ [] }

-- after a steal that found nothing: the count stands still at 2^64 - 1
abbrev pub with_empty : Seat → Seat
with_empty s = record s { empty = min (s.empty + 1) (2 ^ 64 - 1) }

-- without the pass
abbrev pub without_pass : Seat → Seat
without_pass s = record s { lane = None }

-- with a pass for one more hand
abbrev pub with_hand : Lane → Lane
with_hand l = record l { hands = l.hands + 1 }

-- each of the first n elements has this, with its index
abbrev pub Each : {X : Type 0} → (ℕ → X → Type 0) → ℕ → List X → Type 0
Each {X} P n xs = (k : ℕ) (d : X) → k < n → P k (slice_index_or xs k d)

-- the lane k, as `pool` makes it
abbrev pub IsNew : ℕ → Lane → Type 0
IsNew k l = (l.number ≡ k) × (l.pushed ≡ []) × (l.takes ≡ []) × (l.dry ≡ false) × (l.hands ≡ 0)

-- what stands past the last seat
abbrev pub no_seat : Seat
no_seat = record { hand = 0; room = 0; lane = None; takes = []; empty = 0 }

-- the seat for the lane n
abbrev pub seat_at : List Seat → ℕ → Seat
seat_at seats n = slice_index_or seats n no_seat

-- with the seat n changed
abbrev pub with_seat : List Seat → ℕ → (Seat → Seat) → List Seat
with_seat seats n f = slice_set seats n (f (seat_at seats n))

-- the hand has its pass on the lane of this number and name, and room for all that the lane can be
-- pushed
abbrev pub HasPass : List Seat → ℕ → Name → ℕ → Type 0
HasPass seats n name capacity = (n < length seats) × ((seat_at seats n).lane ≡ Some name)
    × ((seat_at seats n).room ≡ capacity)

-- the worker's number, and a seat for each lane
pub record Hand : Type 0 where
  pub number : ℕ
  pub seats : List Seat

-- with the seat n changed
abbrev pub hand_with : Hand → ℕ → (Seat → Seat) → Hand
hand_with h n f = record h { seats = with_seat h.seats n f }

-- what the hands took of the lane with this number
abbrev pub takes_on : ℕ → List Hand → List (List Take)
takes_on lane hands = map (λ h. (seat_at h.seats lane).takes) hands

-- the hand k has its pass on the lane
abbrev pub AllPasses : ℕ → Name → List Hand → Type 0
AllPasses lane name hands = (k : ℕ) (d : Hand)
    → k < length hands → (lane < length (slice_index_or hands k d).seats)
    × ((seat_at (slice_index_or hands k d).seats lane).lane ≡ Some name)
    × ((seat_at (slice_index_or hands k d).seats lane).hand ≡ k)

-- the hand k, if there is one, took nothing of the lane k
abbrev pub OwnIsEmpty : ℕ → List Hand → Type 0
OwnIsEmpty lane hands = (k : ℕ) (d : Hand) → k < length hands → k ≡ lane
    → (seat_at (slice_index_or hands k d).seats lane).takes ≡ []

-- each hand gave up its pass on the lane
abbrev pub GaveBack : ℕ → List Hand → List Hand → Type 0
GaveBack lane old new = (k : ℕ) (d : Hand) → k < length old
    → slice_index_or new k d ≡ hand_with (slice_index_or old k d) lane without_pass

-- with a pass on the lane of this name
abbrev pub with_pass : Seat → Name → Seat
with_pass s n = record s { lane = Some n }

-- a seat that has no pass yet
abbrev pub IsBare : ℕ → ℕ → Seat → Type 0
IsBare hand room s = (s.hand ≡ hand) × (s.room ≡ room) × (s.lane ≡ None)
    × (s.takes ≡ []) × (s.empty ≡ 0)

-- a hand with such seats
abbrev pub IsBareHand : ℕ → ℕ → ℕ → Hand → Type 0
IsBareHand number lanes room h = (h.number ≡ number) × (length h.seats ≡ lanes)
    × ((j : ℕ) (d : Seat) → j < lanes → IsBare number room (slice_index_or h.seats j d))

-- with passes for this many hands
abbrev pub with_hands : Lane → ℕ → Lane
with_hands l n = record l { hands = n }

-- each lane has passes for this many hands, and is else as before
abbrev pub Lent : ℕ → List Lane → List Lane → Type 0
Lent n old new = (k : ℕ) (d : Lane) → k < length old
    → slice_index_or new k d ≡ with_hands (slice_index_or old k d) n

-- a hand with its pass on each lane, and no takes
abbrev pub IsSeated : ℕ → ℕ → List Lane → Hand → Type 0
IsSeated number room lanes h = (h.number ≡ number) × (length h.seats ≡ length lanes)
    × ((j : ℕ) (d : Lane) → j < length lanes → seat_at h.seats j ≡ record {
      hand = number;
      room = room;
      lane = Some (slice_index_or lanes j d).name;
      takes = [];
      empty = 0;
    })

-- the hand k has its pass on the lane 0 of this name, and took nothing there
abbrev pub IsReady : ℕ → Name → ℕ → Hand → Type 0
IsReady room name k h = (h.number ≡ k) × (0 < length h.seats) × (seat_at h.seats 0
    ≡ record { hand = k; room = room; lane = Some name; takes = []; empty = 0 })
