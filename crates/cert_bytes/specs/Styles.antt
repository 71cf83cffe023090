-- How numbers are spelled, from item to item.
use Rattle.std.specs.Prelude.{◌≡◌, ◌+◌, ◌≤◌, ⊤, ℕ, List, [], ◌∷◌}
use Rattle.cert_bytes.specs.declared.style.Seen.{Seen}
use Rattle.cert_bytes.specs.declared.style.Style.{Style}
use Rattle.cert_bytes.specs.declared.style.Style.TheVariants.{First, Second}
use Rattle.cert_bytes.specs.declared.item.Item.{Item}
use Rattle.cert_bytes.specs.declared.order.DueItem.{DueItem}
use Rattle.cert_bytes.specs.declared.order.DueItem.TheVariants.{Head}
use Rattle.cert_bytes.specs.declared.item.Item.TheVariants as item

-- what stood before the first byte
abbrev pub none_seen : Seen
none_seen = record { steps = 0; sections = 0 }

-- what stood before the place behind an item
abbrev pub seen_after : Seen → Item → Seen
seen_after seen (item.Step s) = record { steps = seen.steps + 1; sections = seen.sections }
seen_after seen (item.Cut x ps) = record { steps = seen.steps; sections = seen.sections + 1 }
seen_after seen (item.Leaf refs) = record { steps = seen.steps; sections = seen.sections + 1 }
seen_after seen (item.Dead r) = record { steps = seen.steps; sections = seen.sections + 1 }
seen_after seen _ = seen

-- what stood before the place behind these items, where this stood before them
abbrev pub seen_behind : Seen → List Item → Seen
seen_behind seen [] = seen
seen_behind seen (i ∷ items) = seen_behind (seen_after seen i) items

-- how many steps and sections a certificate's first items have
abbrev pub seen_in : List Item → Seen
seen_in items = seen_behind none_seen items

-- how the numbers behind an item are spelled
abbrev pub style_after : Style → Item → Style
style_after First i = First
style_after (Second seen) i = Second (seen_after seen i)

-- the styles with which certificates begin, one for each version
abbrev pub Opens : Style → Type 0
Opens First = ⊤
Opens (Second seen) = seen ≡ none_seen

-- In this style the item that is due is spelled, where numbers before it are as the old one says:
-- the head tells its own.
abbrev pub IsStyleFor : DueItem → Style → Style → Type 0
IsStyleFor Head old style = Opens style
IsStyleFor due old style = style ≡ old

-- as many steps and sections as there are bytes before the place, at most
abbrev pub IsFew : Style → ℕ → Type 0
IsFew First at = ⊤
IsFew (Second seen) at = (seen.steps ≤ at) × (seen.sections ≤ at)
