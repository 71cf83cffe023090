-- What holds of each token holds of each behind the first.
use Rattle.std.specs.Prelude.{◌≡◌, List, [], ◌∷◌, All, drop}
use Rattle.std.proofs.Common.{arith, sym, subst, suc}

behind_first : {A : Type 0} (P : A → Type 0) (xs : List A) → All P xs → All P (drop 1 xs)
behind_first P [] h = h
behind_first P (x ∷ xs) h = λ k d l. h (suc k) d (omega arith)

pub all_tail : {A : Type 0} (P : A → Type 0) (xs ys : List A) → ys ≡ drop 1 xs → All P xs → All P ys
all_tail P xs ys e h = subst (All P) (sym e) (behind_first P xs h)
