-- Laws of what specs/Boxes defines.
use Rattle.std.specs.Prelude.{◌≡◌, ℕ, List, Option, Some, None, refl}
use Rattle.bisect.specs.Boxes.{or_later}

-- ---- no open box
pub not_some : (x : List ℕ × ℕ) → Some x ≡ None → ⊥
not_some x e = cc

pub first_none : (p : List ℕ) (o : Option ℕ) (rest : Option (List ℕ × ℕ))
    → or_later p o rest ≡ None → o ≡ None
first_none p None rest e = refl
first_none p (Some g) rest e = absurd (not_some (p, g) e)

pub later_none : (p : List ℕ) (o : Option ℕ) (rest : Option (List ℕ × ℕ))
    → or_later p o rest ≡ None → rest ≡ None
later_none p None rest e = e
later_none p (Some g) rest e = absurd (not_some (p, g) e)
