-- How many bytes a box's own items have.
use Rattle.std.specs.Prelude.{◌≤◌, ◌^◌, ⊤, ℕ, List, [], ◌∷◌, ◌++◌, length, map, Option}
use Rattle.std.specs.Borrow.{Bor}
use Rattle.rule_universe.specs.Worlds.{World}
use Rattle.rule_universe.specs.Sizes.{IsSmall}
use Rattle.cert_bytes.specs.declared.item.Item.{Item}
use Rattle.cert_bytes.specs.declared.item.Item.TheVariants as item
use Rattle.cert_bytes.specs.declared.item.StepRow.{StepRow}
use Rattle.cert_bytes.specs.Sizes.{most_bytes_in}
use Rattle.box_trace.specs.declared.known.Known.{Known}
use Rattle.box_trace.specs.Rounds.{AreItsRounds}

-- how many bytes a box's own items have at most, so that 8,192 boxes have no more than 2^44
abbrev pub bytes_a_box : ℕ
bytes_a_box = 2000000000

-- The item ends a box's own items, and its lists have room in their fields.
abbrev pub EndsBox : Item → Type 0
EndsBox (item.Cut x points) = length points ≤ 63
EndsBox (item.Leaf refs) = length refs ≤ 65535
EndsBox (item.Dead r) = ⊤
EndsBox i = ⊥

-- The steps of a box, which come in at most 64 rounds, and the item behind them have no more.
abbrev pub BoxesAreShort : Type 0
BoxesAreShort = (u : World) (parent : Option (Bor Known)) (height first : ℕ)
    (steps : List StepRow) (last : Item) → IsSmall u → height ≤ 64
    → AreItsRounds u parent height first steps → EndsBox last
    → most_bytes_in (map item.Step steps ++ last ∷ []) ≤ bytes_a_box
