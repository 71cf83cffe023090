-- Laws of what specs/Paths defines.
use Rattle.std.specs.Prelude.{◌≡◌, ℕ, List, [], ◌∷◌, ◌++◌}

-- nothing leads on to the root
pub no_more : (front : List ℕ) (piece : ℕ) (rest : List ℕ) → [] ≡ front ++ piece ∷ rest → ⊥
no_more [] piece rest e = cc
no_more (x ∷ front) piece rest e = cc
