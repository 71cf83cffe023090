-- Parts as a list of items with the places where conjunctions end, and those where parts do.
use Rattle.std.specs.Prelude.{ℕ, zero, suc, ◌<◌, ◌≤◌, ◌-◌, List, [], ◌∷◌, length, take, drop}
use Rattle.std.specs.List.{AllByRecursion}
use Rattle.script_cases.specs.Parts.{Parts}

-- the pieces of a list from a place on, which end at these places
abbrev pub pieces : {X : Type 0} → ℕ → List X → List ℕ → List (List X)
pieces from xs [] = []
pieces from xs (end ∷ ends) = take (end - from) (drop from xs) ∷ pieces end xs ends

-- what is left behind the last of these places, or behind the first
abbrev pub left_over : {X : Type 0} → ℕ → List X → List ℕ → List X
left_over from xs [] = drop from xs
left_over from xs (end ∷ ends) = left_over end xs ends

-- the place at which the piece with this number begins
abbrev pub start_at : ℕ → List ℕ → ℕ → ℕ
start_at from ends zero = from
start_at from [] (suc k) = from
start_at from (end ∷ ends) (suc k) = start_at end ends k

-- the parts that these marks make of the items
abbrev pub parts_by : {X : Type 0} → List X → List ℕ → List ℕ → Parts X
parts_by items ends parts = record {
  items = items;
  before = pieces 0 (pieces 0 items ends) parts;
  ended = left_over 0 (pieces 0 items ends) parts;
  last = left_over 0 items ends;
}

-- a part has a conjunction
abbrev pub IsFilled : {X : Type 0} → List (List X) → Type 0
IsFilled p = 0 < length p

-- The places lie in their lists, and no part is without a conjunction.
pub record AreMarks {X : Type 0} (items : List X) (ends parts : List ℕ) : Type 0 where
  pub ends_within : AllByRecursion (λ e. e ≤ length items) ends
  pub parts_within : AllByRecursion (λ e. e ≤ length ends) parts
  pub filled : AllByRecursion IsFilled (pieces 0 (pieces 0 items ends) parts)
