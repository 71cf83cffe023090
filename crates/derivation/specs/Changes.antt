-- Rounds that look at changes alone.
use Rattle.std.specs.Prelude.{◌≡◌, ◌⊎◌, ℕ, Bool, true, false, List, Some, slice_get, Contains}
use Rattle.facts.specs.declared.fact.Fact.{Fact}
use Rattle.facts.specs.declared.fact.Slot.{Slot}
use Rattle.facts.specs.declared.instance.Instance.{Instance}
use Rattle.derivation.specs.Derivations.{Setting, At, Beats}
use Rattle.derivation.specs.Rounds.{conclusion}

-- Instance k has the slot among its premises.
abbrev pub IsUser : List Instance → Slot → ℕ → Type 0
IsUser instances s k = (i : Instance) × (slice_get instances k ≡ Some i) × Contains i.premises s

-- Each instance that isn't due would conclude nothing that the table doesn't beat.
abbrev pub IsQuiet : Setting → List Bool → At → Type 0
IsQuiet u due at = (k : ℕ) (i : Instance) (c : Fact) → slice_get u.instances k ≡ Some i
    → slice_get due k ≡ Some false → conclusion u.rules at i ≡ Some c → Beats at c

-- The second table differs from the first on these slots at most.
abbrev pub IsListed : List Slot → At → At → Type 0
IsListed changed at new = (s : Slot) → Contains changed s ⊎ (new s ≡ at s)

-- All that take one of these slots are due.
abbrev pub AreDue : List Instance → List Slot → List Bool → Type 0
AreDue instances changed due = (s : Slot) → Contains changed s → (k : ℕ) → IsUser instances s k
    → slice_get due k ≡ Some true

-- Each instance that is due takes one of these slots.
abbrev pub AreUsers : List Instance → List Slot → List Bool → Type 0
AreUsers instances changed due = (k : ℕ) → slice_get due k ≡ Some true
    → (s : Slot) × Contains changed s × IsUser instances s k
