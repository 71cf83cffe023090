-- What several proofs need of options and of what holds of all.
use Rattle.std.proofs.Common.{◌≡◌, zero, suc, List, [], ◌∷◌, Some, arith}
use Rattle.std.specs.List.{All, AllByRecursion}

-- of two values that are one
pub one_value : {A : Type 0} (x y : A) → Some x ≡ Some y → y ≡ x
one_value x y e = cc

-- from all by recursion to all
pub all_of : {X : Type 0} (P : X → Type 0) (xs : List X) → AllByRecursion P xs → All P xs
all_of P [] h k d l = absurd (omega arith)
all_of P (x ∷ xs) h zero d l = h.0
all_of P (x ∷ xs) h (suc k) d l = all_of P xs h.1 k d (omega arith)

-- what follows of each follows of all
pub all_as : {X : Type 0} (P Q : X → Type 0) (xs : List X) → ((x : X) → P x → Q x) → All P xs
    → All Q xs
all_as P Q xs h a k d l = h _ (a k d l)
