-- What a file took, and what it holds.
use Rattle.std.specs.Prelude.{◌≡◌, ℕ, List, Option, Some}
use Rattle.cert_bytes.specs.Fronts.{IsFront}

-- It holds these bytes now, where its bytes were told.
abbrev pub Holds : List ℕ → Option (List ℕ) → Option (List ℕ) → Type 0
Holds bytes old new = (before : List ℕ) → old ≡ Some before → new ≡ Some bytes

-- Or a front of them, which may be nothing.
abbrev pub HoldsFront : List ℕ → Option (List ℕ) → Option (List ℕ) → Type 0
HoldsFront bytes old new = (before : List ℕ) → old ≡ Some before
    → (front : List ℕ) × IsFront front bytes × (new ≡ Some front)
