-- Parts that are being read from the left.
use Rattle.std.specs.Prelude.{List, [], ◌∷◌, ◌++◌}

-- The items so far, the parts that have ended, and of the part in hand the conjunctions that have
-- ended, and the one in hand.
pub record Parts (X : Type 0) : Type 0 where
  pub items : List X
  pub before : List (List (List X))
  pub ended : List (List X)
  pub last : List X

-- no item so far
abbrev pub nothing : {X : Type 0} → Parts X
nothing = record { items = []; before = []; ended = []; last = [] }

-- one more item
abbrev pub with_item : {X : Type 0} → Parts X → X → Parts X
with_item p x = record {
  items = p.items ++ (x ∷ []);
  before = p.before;
  ended = p.ended;
  last = p.last ++ (x ∷ []);
}

-- all conjunctions of the part in hand
abbrev pub part_of : {X : Type 0} → Parts X → List (List X)
part_of p = p.ended ++ (p.last ∷ [])

-- behind `\/`
abbrev pub behind_or : {X : Type 0} → Parts X → Parts X
behind_or p = record { items = p.items; before = p.before; ended = part_of p; last = [] }

-- behind `->`
abbrev pub behind_arrow : {X : Type 0} → Parts X → Parts X
behind_arrow p = record {
  items = p.items;
  before = p.before ++ (part_of p ∷ []);
  ended = [];
  last = [];
}
