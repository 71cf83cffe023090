-- The conjunctions that a case takes, one of each part.
use Rattle.std.specs.Prelude.{◌≡◌, ℕ, ◌<◌, ◌≤◌, ◌/◌, ◌%◌, List, [], ◌∷◌, length, get_or}
use Rattle.std.specs.List.{AllByRecursion}
use Rattle.script_cases.specs.Cases.{case_count}
use Rattle.script_cases.specs.Gaps.{gaps, AreRising}
use Rattle.script_cases.specs.Marks.{pieces}

-- those of the case with this number
abbrev pub choice : {X : Type 0} → List (List (List X)) → ℕ → List (List X)
choice [] number = []
choice (p ∷ ps) number =
    get_or p (number / case_count ps) [] ∷ choice ps (number % case_count ps)

-- those of the parts that end at these places, the first of which is from the given one on
abbrev pub left_by : {X : Type 0} → List X → List ℕ → List ℕ → ℕ → ℕ → List (List X)
left_by items ends parts from number = choice (pieces from (pieces 0 items ends) parts) number

-- The places lie in their lists, and there is a case with this number.
pub record AreLeft {X : Type 0} (items : List X) (ends parts : List ℕ) (from number count : ℕ)
    : Type 0 where
  pub ends_within : AllByRecursion (λ e. e ≤ length items) ends
  pub parts_within : AllByRecursion (λ e. e ≤ length ends) parts
  pub rising : AreRising from parts
  pub counted : count ≡ gaps from parts
  pub is_case : number < count
