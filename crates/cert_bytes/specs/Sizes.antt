-- How many bytes items spell at most, in either version.
use Rattle.std.specs.Prelude.{◌≤◌, ◌+◌, ◌*◌, ℕ, List, [], ◌∷◌, length}
use Rattle.cert_bytes.specs.declared.item.Item.{Item}
use Rattle.cert_bytes.specs.declared.item.Item.TheVariants as item
use Rattle.cert_bytes.specs.declared.style.Style.{Style}
use Rattle.cert_bytes.specs.Spelling.{spelled_from}

-- So many bytes an item: ten for each step that it names, and no more for the rest of it than
-- these.
abbrev pub most_bytes : Item → ℕ
most_bytes (item.Nodes n) = 24
most_bytes (item.Node n) = 58
most_bytes (item.Marks n) = 19
most_bytes (item.Mark m) = 1
most_bytes (item.Cases n) = 20
most_bytes (item.Step s) = 169 + 10 * length s.premises
most_bytes (item.Cut x ps) = 39 + 38 * length ps
most_bytes (item.Leaf refs) = 20 + 10 * length refs
most_bytes (item.Dead r) = 11
most_bytes item.End = 39

-- the same of items together
abbrev pub most_bytes_in : List Item → ℕ
most_bytes_in [] = 0
most_bytes_in (i ∷ items) = most_bytes i + most_bytes_in items

-- Items spell no more, whatever style they begin with.
abbrev pub SpellingsAreShort : Type 0
SpellingsAreShort = (style : Style) (items : List Item)
    → length (spelled_from style items) ≤ most_bytes_in items
