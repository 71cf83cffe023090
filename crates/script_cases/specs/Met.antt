-- In each part some conjunction is true exactly where in some case all items are.
use Rattle.std.specs.Prelude.{◌⊎◌, List, [], ◌∷◌}
use Rattle.std.specs.List.{AllByRecursion}

-- Some item has the property.
abbrev pub SomeOf : {X : Type 0} → (X → Type 0) → List X → Type 0
SomeOf P [] = ⊥
SomeOf P (x ∷ xs) = P x ⊎ SomeOf P xs

-- in each part each item of some conjunction has the property
abbrev pub AreMet : {X : Type 0} → (X → Type 0) → List (List (List X)) → Type 0
AreMet P parts = AllByRecursion (SomeOf (AllByRecursion P)) parts
