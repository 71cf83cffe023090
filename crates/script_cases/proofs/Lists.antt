-- What holds of each element of a list.
use Rattle.std.specs.Prelude.{List, [], ◌∷◌, ◌++◌}
use Rattle.std.specs.List.{AllByRecursion}

-- of those of two lists
pub all_joined : {X : Type 0} (P : X → Type 0) (a b : List X) → AllByRecursion P a
    → AllByRecursion P b → AllByRecursion P (a ++ b)
all_joined P [] b p q = q
all_joined P (x ∷ a) b p q = (p.0, all_joined P a b p.1 q)

-- of those in front
pub all_front : {X : Type 0} (P : X → Type 0) (a b : List X) → AllByRecursion P (a ++ b)
    → AllByRecursion P a
all_front P [] b p = tt
all_front P (x ∷ a) b p = (p.0, all_front P a b p.1)

-- of those behind
pub all_behind : {X : Type 0} (P : X → Type 0) (a b : List X) → AllByRecursion P (a ++ b)
    → AllByRecursion P b
all_behind P [] b p = p
all_behind P (x ∷ a) b p = all_behind P a b p.1

-- and what follows from it
pub all_as : {X : Type 0} (P Q : X → Type 0) → ((x : X) → P x → Q x) → (xs : List X)
    → AllByRecursion P xs → AllByRecursion Q xs
all_as P Q f [] p = tt
all_as P Q f (x ∷ xs) p = (f x p.0, all_as P Q f xs p.1)
