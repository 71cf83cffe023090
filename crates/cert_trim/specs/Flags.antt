-- Flags and new numbers of steps, in lists: the first is that of the step with number start.
use Rattle.std.specs.Prelude.{◌≡◌, ◌<◌, ◌+◌, ◌-◌, ◌||◌, ℕ, Bool, true, false, List, ◌∷◌, ◌++◌}
use Rattle.std.specs.Prelude.{length, map, nat_lt, slice_index_or, if◌then◌else◌}
use Rattle.std.specs.Option.{option_map}
use Rattle.cert_bytes.specs.declared.item.StepRow.{StepRow}
use Rattle.cert_bytes.specs.declared.item.Item.{Item}
use Rattle.cert_bytes.specs.declared.item.Item.TheVariants as item
use Rattle.cert_trim.specs.Trimmed.{new_number}
use Rattle.cert_trim.specs.Used.{is_among, cited}

-- the flag at a place; where none is listed there is none
abbrev pub flag_at : List Bool → ℕ → Bool
flag_at flags n = slice_index_or flags n false

-- From start on the flags are those of the numbers in the list.
abbrev pub AreFlags : ℕ → List Bool → List ℕ → Type 0
AreFlags start flags ns = (n : ℕ) → flag_at flags n ≡ is_among ns (start + n)

-- A step below start stays, and from start on one with a flag.
abbrev pub stays_by : ℕ → List Bool → ℕ → Bool
stays_by start flags n = nat_lt n start || flag_at flags (n - start)

-- what is used where the item stands, and what is used behind it
abbrev pub used_with : ℕ → Item → List ℕ → List ℕ
used_with n (item.Step r) later = if is_among later n then cited r ++ later else later
used_with n (item.Leaf refs) later = refs ++ later
used_with n (item.Dead r) later = r ∷ later
used_with n _ later = later

-- ---- new numbers

-- the number that is listed at a place
abbrev pub number_at : List ℕ → ℕ → ℕ
number_at numbers n = slice_index_or numbers n 0

-- the number of a step: its own below start, and from start on the one that is listed
abbrev pub number_of : ℕ → List ℕ → ℕ → ℕ
number_of start numbers n = if nat_lt n start then n else number_at numbers (n - start)

-- the new number of each step from start on
abbrev pub AreNumbers : ℕ → List Bool → List ℕ → Type 0
AreNumbers start flags numbers = (n : ℕ) → n < length numbers
    → number_at numbers n ≡ new_number (stays_by start flags) (start + n)

-- a step with what it cites by other numbers
abbrev pub renumbered_row : (ℕ → ℕ) → StepRow → StepRow
renumbered_row f r = record {
  rule = r.rule;
  arg = r.arg;
  fact = r.fact;
  with = option_map f r.with;
  premises = map f r.premises;
}

-- the same of an item
abbrev pub renumbered : (ℕ → ℕ) → Item → Item
renumbered f (item.Step r) = item.Step (renumbered_row f r)
renumbered f (item.Leaf refs) = item.Leaf (map f refs)
renumbered f (item.Dead r) = item.Dead (f r)
renumbered f i = i

-- the item stays, where the next step has number n
abbrev pub stays : (ℕ → Bool) → ℕ → Item → Bool
stays used n (item.Step r) = used n
stays used n _ = true
