-- Parts of a formula, and their cases. A part is a list of conjunctions, of which one is taken; a
-- conjunction is a list of items.
use Rattle.std.specs.Prelude.{ℕ, ◌*◌, List, [], ◌∷◌, ◌++◌, map, length}
use Rattle.std.specs.List.{flat_map}

-- the cases that begin with a conjunction, one for each case of the later parts
abbrev pub with_first : {X : Type 0} → List (List X) → List X → List (List X)
with_first later c = map (λ rest. c ++ rest) later

-- All cases. Each takes one conjunction of each part, and is the items of those in order; the cases
-- are in lexicographic order of the conjunctions taken, the first part slowest. Of no parts there
-- is one, without items.
abbrev pub cases : {X : Type 0} → List (List (List X)) → List (List X)
cases [] = [] ∷ []
cases (p ∷ ps) = flat_map (with_first (cases ps)) p

-- how many there are: the product of the numbers of conjunctions
abbrev pub case_count : {X : Type 0} → List (List (List X)) → ℕ
case_count [] = 1
case_count (p ∷ ps) = length p * case_count ps

-- the items of all conjunctions, in the order of reading
abbrev pub all_items : {X : Type 0} → List (List (List X)) → List X
all_items [] = []
all_items (p ∷ ps) = flat_map (λ c. c) p ++ all_items ps
