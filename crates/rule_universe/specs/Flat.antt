-- Rows that stand one behind another in one list.
use Rattle.std.specs.Prelude.{◌≡◌, ◌<◌, ◌≤◌, ◌-◌, ℕ, suc, List, [], ◌∷◌, Some, length, take, drop}
use Rattle.std.specs.Prelude.{slice_get}

-- The first row begins at the start, each ends at the next of the ends, and the row behind it
-- begins there.
abbrev pub cut_from : {T : Type 0} → List T → ℕ → List ℕ → List (List T)
cut_from items start [] = []
cut_from items start (end ∷ ends) = take (end - start) (drop start items) ∷ cut_from items end ends

-- The rows, from where each begins; the last number is where the last row ends.
abbrev pub rows_in : {T : Type 0} → List T → List ℕ → List (List T)
rows_in items [] = []
rows_in items (start ∷ ends) = cut_from items start ends

-- The numbers rise, and none is above n; there is at least one.
pub record IsFlat (n : ℕ) (starts : List ℕ) : Type 0 where
  pub some : 0 < length starts
  pub rising : (k a b : ℕ) → slice_get starts k ≡ Some a → slice_get starts (suc k) ≡ Some b → a ≤ b
  pub most : (k a : ℕ) → slice_get starts k ≡ Some a → a ≤ n
