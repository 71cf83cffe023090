-- The cases of small parts, worked out by hand.
use Rattle.std.specs.Prelude.{◌≡◌, ℕ, List, [], ◌∷◌, refl}
use Rattle.script_cases.specs.Cases.{cases, case_count, all_items}
use Rattle.script_cases.specs.Parts.{nothing, with_item, behind_or, behind_arrow}

-- `1 /\ 2 \/ 3 -> 4 \/ 5 /\ 6 \/ 7 -> `
abbrev two_parts : List (List (List ℕ))
two_parts = ((1 ∷ 2 ∷ []) ∷ (3 ∷ []) ∷ []) ∷ ((4 ∷ []) ∷ (5 ∷ 6 ∷ []) ∷ (7 ∷ []) ∷ []) ∷ []

read_so :
    (behind_arrow (with_item (behind_or (with_item (with_item (behind_or (with_item (behind_arrow
    (with_item (behind_or (with_item (with_item nothing 1) 2)) 3)) 4)) 5) 6)) 7)).before ≡ two_parts
read_so = refl

-- the first part is the slowest
six_cases : cases two_parts ≡ (1 ∷ 2 ∷ 4 ∷ [])
    ∷ (1 ∷ 2 ∷ 5 ∷ 6 ∷ []) ∷ (1 ∷ 2 ∷ 7 ∷ []) ∷ (3 ∷ 4 ∷ []) ∷ (3 ∷ 5 ∷ 6 ∷ []) ∷ (3 ∷ 7 ∷ []) ∷ []
six_cases = refl

counted : case_count two_parts ≡ 6
counted = refl

in_order : all_items two_parts ≡ 1 ∷ 2 ∷ 3 ∷ 4 ∷ 5 ∷ 6 ∷ 7 ∷ []
in_order = refl

-- no part at all has one case, and so have parts of one conjunction each
no_part : cases {X = ℕ} [] ≡ [] ∷ []
no_part = refl

abbrev no_disjunction : List (List (List ℕ))
no_disjunction = ((1 ∷ 2 ∷ []) ∷ []) ∷ ((3 ∷ []) ∷ []) ∷ []

no_choice : cases no_disjunction ≡ (1 ∷ 2 ∷ 3 ∷ []) ∷ []
no_choice = refl

-- a conjunction that stands twice makes two cases
abbrev one_twice : List (List (List ℕ))
one_twice = ((1 ∷ []) ∷ (1 ∷ []) ∷ []) ∷ []

twice : cases one_twice ≡ (1 ∷ []) ∷ (1 ∷ []) ∷ []
twice = refl
