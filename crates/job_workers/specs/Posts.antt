-- What a worker needs to take jobs.
use Rattle.std.specs.Prelude.{◌≡◌, ◌≢◌, ◌<◌, ℕ, List, length, slice_index_or}
use Rattle.box_deques.specs.Seen.{Lane, Thief, no_lane}

-- a thief of one of the lanes, which isn't that of this number
abbrev pub IsThief : List Lane → ℕ → Thief → Type 0
IsThief lanes me t = (t.number < length lanes) × (t.number ≢ me)
    × (t.name ≡ (slice_index_or lanes t.number no_lane).name)
