-- Where no word is left.
use Rattle.std.proofs.Common.{◌≡◌, ℕ, suc, ◌≤◌, false, nat_eq, List, [], ◌∷◌, length, refl, arith}
use Rattle.script_words.specs.Words.{Word}
use Rattle.script_shape.specs.declared.due.Due.{Due}
use Rattle.script_shape.specs.Roles.{leaves_of}
use Rattle.script_judge.specs.Judge.{is_empty}

pub empty_leaves : (rs : List Due) (ws : List Word) → length rs ≤ length ws
    → is_empty (leaves_of rs ws) ≡ nat_eq (length rs) 0
empty_leaves [] ws h = refl
empty_leaves (r ∷ rs) [] h = absurd (omega arith)
empty_leaves (r ∷ rs) (w ∷ ws) h = some (length rs)
  where
    some : (n : ℕ) → false ≡ nat_eq (suc n) 0
    some n = grind arith
