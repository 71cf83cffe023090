-- What contracts see of a token.
use base.Stored.{Coded, coded×, coded_via}
use Rattle.boxcar.specs.Table.{Shelves, shelves_coded}

-- the name of the board, and the entry that stands there
pub record Sees (E : Type 0) : Type 0 where
  pub board : Shelves
  pub entry : E

-- such a record is stored as a pair
abbrev pub sees_coded : {E : Type 0} → Coded E → Coded (Sees E)
sees_coded {E} c = coded_via (coded× shelves_coded c) (λ (s : Sees E). (s.board, s.entry))
    (λ x y e i. record { board = (e i).0; entry = (e i).1 })
