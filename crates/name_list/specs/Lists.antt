-- The names of a list, and its faults.
use Rattle.std.specs.Prelude.{◌≡◌, ◌+◌, ◌==◌, ℕ, Bool, List, [], ◌∷◌, length, nat_lt, Option, Some}
use Rattle.std.specs.Prelude.{None, if◌then◌else◌}
use Rattle.std.specs.List.{slice_split}
use Rattle.std.specs.Str.{IsUtf8, IsValidUpTo}
use Rattle.name_list.specs.declared.fault.ListKind.{ListKind}
use Rattle.name_list.specs.declared.fault.ListKind.TheVariants as kind
use Rattle.name_list.specs.declared.fault.ListFault.{ListFault}
use Rattle.name_list.specs.Order.{earlier}

-- a line feed
abbrev pub is_feed : ℕ → Bool
is_feed b = b == 10

-- behind the last line feed a line begins only where a byte stands there
abbrev pub ended : List (List ℕ) → List (List ℕ)
ended [] = []
ended ([] ∷ []) = []
ended (line ∷ lines) = line ∷ ended lines

-- The lines of a list, each without its line feed.
abbrev pub lines_of : List ℕ → List (List ℕ)
lines_of text = ended (slice_split is_feed text)

-- such a fault at this byte
abbrev pub fault : ListKind → ℕ → ListFault
fault k at = record { kind = k; at = at }

-- The first line that has no bytes, or is the 65th; where line k begins at this byte.
abbrev pub line_fault : ℕ → ℕ → List (List ℕ) → Option ListFault
line_fault k at [] = None
line_fault k at ([] ∷ lines) = Some (fault kind.EmptyName at)
line_fault k at (line ∷ lines) =
    if k == 64 then Some (fault kind.Limit at)
    else line_fault (k + 1) (at + (length line + 1)) lines

-- there are more than 2^16 bytes
abbrev pub long_fault : List ℕ → Option ListFault
long_fault text = if nat_lt 65536 (length text) then Some (fault kind.Limit 65536) else None

-- a list without bytes
abbrev pub empty_fault : List ℕ → Option ListFault
empty_fault [] = Some (fault kind.EmptyName 0)
empty_fault (b ∷ bs) = None

-- the first fault that has nothing to do with the encoding
abbrev pub plain_fault : List ℕ → Option ListFault
plain_fault text =
    earlier (empty_fault text) (earlier (line_fault 0 0 (lines_of text)) (long_fault text))

-- the first sequence of bytes that is ill-formed, if one is
abbrev pub IsIllAt : List ℕ → Option ℕ → Type 0
IsIllAt text None = IsUtf8 text
IsIllAt text (Some at) = IsValidUpTo text at

-- and the fault that it is
abbrev pub ill_fault : Option ℕ → Option ListFault
ill_fault None = None
ill_fault (Some at) = Some (fault kind.NotText at)

-- This is the first fault of the list, or it has none.
abbrev pub IsFaultOf : List ℕ → Option ListFault → Type 0
IsFaultOf text o = (ill : Option ℕ) × IsIllAt text ill
    × (o ≡ earlier (ill_fault ill) (plain_fault text))

-- A list has one first fault, or none.
abbrev pub FaultsAreOne : Type 0
FaultsAreOne = (text : List ℕ) (o other : Option ListFault)
    → IsFaultOf text o → IsFaultOf text other → o ≡ other
