-- Texts that are read.
use Rattle.std.specs.Prelude.{◌≡◌, ◌≤◌, ℕ, List, Option, Some, None, length, take}

-- The text is the first bytes of what is told, so many of them or all; where nothing is told, it is
-- no longer.
abbrev pub IsText : ℕ → Option (List ℕ) → List ℕ → Type 0
IsText most None text = length text ≤ most
IsText most (Some all) text = text ≡ take most all
