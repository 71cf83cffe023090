-- Bytes with room for so many: a file in memory, and what a sink in memory took.
use Rattle.std.specs.Prelude.{◌≡◌, ◌<◌, ◌-◌, ◌++◌, ℕ, List, [], length, take, drop, min, max}

-- bytes, and how many there may be
pub record Held : Type 0 where
  pub bytes : List ℕ
  pub room : ℕ

-- these bytes, with room for more, or for just these if they are more than `room`
abbrev pub new_held : ℕ → List ℕ → Held
new_held room bytes = record { bytes = bytes; room = max room (length bytes) }

-- no bytes
abbrev pub empty_held : ℕ → Held
empty_held room = record { bytes = []; room = room }

-- how many bytes of a piece fit
abbrev pub fitting : Held → List ℕ → ℕ
fitting held piece = min (length piece) (held.room - length held.bytes)

-- the piece isn't empty, and nothing of it fits
abbrev pub IsFullFor : Held → List ℕ → Type 0
IsFullFor held piece = (0 < length piece) × (fitting held piece ≡ 0)

-- with the first n bytes of a piece behind
abbrev pub with_front : Held → ℕ → List ℕ → Held
with_front held n piece = record held { bytes = held.bytes ++ take n piece }

-- with no bytes, and the same room
abbrev pub emptied : Held → Held
emptied held = record held { bytes = [] }

-- how many bytes a read from `at` into a buffer of this length gives
abbrev pub readable : List ℕ → ℕ → ℕ → ℕ
readable all at len = min (length all - at) len

-- a buffer whose first n bytes are now those that stand from `at`
abbrev pub filled : List ℕ → ℕ → ℕ → List ℕ → List ℕ
filled all at n buf = take n (drop at all) ++ drop n buf
