-- What a file or a sink took, where its bytes are known.
use Rattle.std.specs.Prelude.{⊤, ◌≡◌, ◌++◌, ◌⊎◌, ℕ, List, Option, Some, None}
use Rattle.std.specs.Io.KnownBytes.{Appends}

-- the second list begins with the first
abbrev pub IsFront : List ℕ → List ℕ → Type 0
IsFront front all = (rest : List ℕ) × (all ≡ front ++ rest)

-- it took a front of these bytes, which may be nothing
abbrev pub AppendsFront : Option (List ℕ) → Option (List ℕ) → List ℕ → Type 0
AppendsFront before after bytes =
    (front : List ℕ) × IsFront front bytes × Appends before after front

-- It took a front of the bytes that waited, and the others go on waiting.
abbrev pub PassesOn : Option (List ℕ) → Option (List ℕ) → List ℕ → List ℕ → Type 0
PassesOn before after waiting left = (front : List ℕ) × (waiting ≡ front ++ left)
    × Appends before after front

-- ---- a file that is made new; what it held is told, or nothing is said
-- it holds just these bytes
abbrev pub HoldsAll : List ℕ → Option (List ℕ) → Option (List ℕ) → Type 0
HoldsAll bytes None new = ⊤
HoldsAll bytes (Some old) new = new ≡ Some bytes

-- it holds what it held, or a front of these bytes, which may be nothing
abbrev pub HoldsFront : List ℕ → Option (List ℕ) → Option (List ℕ) → Type 0
HoldsFront bytes None new = ⊤
HoldsFront bytes (Some old) new =
    (new ≡ Some old) ⊎ ((front : List ℕ) × IsFront front bytes × (new ≡ Some front))
