-- Rows and monomials: a row has a power for each atom that occurs, a monomial one for each node.
use Rattle.std.specs.Prelude.{ℕ, Bool, true, false, ◌&&◌, zero, suc, List, [], ◌∷◌, map, replicate}
use Rattle.std.specs.Prelude.{slice_set}
use Rattle.fx_model.specs.declared.Node.{Node}
use Rattle.poly_normal.specs.Polynomial.{Monomial, Polynomial}
use Rattle.poly_normal.specs.Form.{Side}
use Rattle.poly_normal.specs.Parts.{is_atom_node}

-- for each node whether it is a marked atom
abbrev pub places : List Node → List Bool → List Bool
places [] marks = []
places (n ∷ nodes) [] = []
places (n ∷ nodes) (b ∷ marks) = (b && is_atom_node n) ∷ places nodes marks

-- how many are true
abbrev pub trues : List Bool → ℕ
trues [] = 0
trues (true ∷ bs) = suc (trues bs)
trues (false ∷ bs) = trues bs

-- 1 for a true
abbrev pub count_of : Bool → ℕ
count_of true = 1
count_of false = 0

-- one power more in front; no zeros stand at the end
abbrev pub with_power : ℕ → Monomial → Monomial
with_power zero [] = []
with_power zero (k ∷ m) = zero ∷ (k ∷ m)
with_power (suc j) m = suc j ∷ m

-- The monomial of a row: each power at the place of its atom.
abbrev pub spread : List Bool → List ℕ → Monomial
spread [] row = []
spread (false ∷ bs) row = with_power 0 (spread bs row)
spread (true ∷ bs) [] = []
spread (true ∷ bs) (k ∷ row) = with_power k (spread bs row)

-- The polynomial over all nodes that one over rows stands for: each power goes to the place of its
-- atom.
abbrev pub spread_polynomial : List Bool → Polynomial → Polynomial
spread_polynomial bs p =
    map (λ t. record { coefficient = t.coefficient; monomial = spread bs t.monomial }) p

-- The same for a side, whose weight and degree stay.
abbrev pub spread_side : List Bool → Side → Side
spread_side bs s =
    record { polynomial = spread_polynomial bs s.polynomial; weight = s.weight; degree = s.degree }

-- the row of 1, and that of the atom at a place
abbrev pub zero_row : ℕ → List ℕ
zero_row width = replicate width 0

-- The row of the atom at this place alone: power 1 there, and 0 elsewhere.
abbrev pub unit_row : ℕ → ℕ → List ℕ
unit_row width place = slice_set (zero_row width) place 1
