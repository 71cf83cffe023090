-- What `a <= b`, `a < b`, `a.cmp(&b)` and `a == b` say of the values, and back.
use Rattle.std.specs.Prelude.{◌≡◌, true, refl}
use Rattle.fx_model.specs.Grid.{Bound, Below, At, Above, le_bound}
use Rattle.fx_model.specs.Enclosure.{BoundLe}

pub BoundLe_in : (b c : Bound) → le_bound b c ≡ true → BoundLe b c
BoundLe_in Below c e = tt
BoundLe_in (At g) Below e = cc
BoundLe_in (At g) (At h) e = record { le = e }
BoundLe_in (At g) Above e = tt
BoundLe_in Above Below e = cc
BoundLe_in Above (At h) e = cc
BoundLe_in Above Above e = tt

pub BoundLe_out : (b c : Bound) → BoundLe b c → le_bound b c ≡ true
BoundLe_out Below c l = refl
BoundLe_out (At g) Below l = absurd l
BoundLe_out (At g) (At h) l = l.le
BoundLe_out (At g) Above l = refl
BoundLe_out Above Below l = absurd l
BoundLe_out Above (At h) l = absurd l
BoundLe_out Above Above l = refl
