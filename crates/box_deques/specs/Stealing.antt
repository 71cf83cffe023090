-- Which lanes a hand can steal from.
use Rattle.std.specs.Prelude.{◌≢◌, ℕ, List, All}
use Rattle.box_deques.specs.Seen.{Thief, Hand, HasPass}

-- the hand can steal through each of these, which are thieves of other lanes
abbrev pub CanSteal : ℕ → Hand → List Thief → Type 0
CanSteal capacity hand thieves = All (λ (t : Thief).
    HasPass hand.seats t.number t.name capacity × (hand.number ≢ t.number)) thieves
