-- Items without the steps that aren't used, with the other steps numbered anew in their order.
use Rattle.std.specs.Prelude.{◌+◌, ℕ, zero, suc, Bool, true, false, List, [], ◌∷◌, map}
use Rattle.std.specs.Prelude.{if◌then◌else◌}
use Rattle.std.specs.Option.{option_map}
use Rattle.cert_bytes.specs.declared.item.StepRow.{StepRow}
use Rattle.cert_bytes.specs.declared.item.Item.{Item}
use Rattle.cert_bytes.specs.declared.item.Item.TheVariants as item

-- the number of the next step behind an item before which it is n
abbrev pub number_behind : ℕ → Item → ℕ
number_behind n (item.Step r) = n + 1
number_behind n _ = n

-- the number of the next step behind the items
abbrev pub number_behind_all : ℕ → List Item → ℕ
number_behind_all n [] = n
number_behind_all n (i ∷ items) = number_behind_all (number_behind n i) items

-- how many steps the items have
abbrev pub step_count : List Item → ℕ
step_count items = number_behind_all 0 items

-- how many steps below this number are used, which is the new number of a used one
unfoldable pub new_number : (ℕ → Bool) → ℕ → ℕ
new_number used zero = 0
new_number used (suc n) = if used n then suc (new_number used n) else new_number used n

-- a step with what it cites by new numbers
abbrev pub moved_row : (ℕ → Bool) → StepRow → StepRow
moved_row used r = record {
  rule = r.rule;
  arg = r.arg;
  fact = r.fact;
  with = option_map (new_number used) r.with;
  premises = map (new_number used) r.premises;
}

-- an item that isn't a step, with what it cites by new numbers
abbrev pub moved : (ℕ → Bool) → Item → Item
moved used (item.Leaf refs) = item.Leaf (map (new_number used) refs)
moved used (item.Dead r) = item.Dead (new_number used r)
moved used i = i

-- with the step, where it stays
abbrev pub if_used : Bool → StepRow → List Item → List Item
if_used true r items = item.Step r ∷ items
if_used false r items = items

-- The items, where the next step has number n.
abbrev pub trimmed_by : (ℕ → Bool) → ℕ → List Item → List Item
trimmed_by used n [] = []
trimmed_by used n (item.Step r ∷ items) =
    if_used (used n) (moved_row used r) (trimmed_by used (n + 1) items)
trimmed_by used n (i ∷ items) = moved used i ∷ trimmed_by used n items
