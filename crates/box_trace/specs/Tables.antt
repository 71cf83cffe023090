-- What is known at a box, with the numbers of steps.
use Rattle.std.specs.Prelude.{◌≡◌, ◌+◌, ◌*◌, ◌&&◌, ℕ, List, [], ◌∷◌, length, Option, Some, None}
use Rattle.std.specs.Prelude.{slice_get, if◌then◌else◌, IsTrue}
use Rattle.fx_model.specs.declared.ExprId.{ExprId}
use Rattle.pair_closure.specs.Closure.{Pair}
use Rattle.facts.specs.declared.fact.Fact.{Fact}
use Rattle.facts.specs.declared.fact.Slot.{Slot}
use Rattle.facts.specs.declared.fact.Slot.TheVariants as slot
use Rattle.facts.specs.Order.{is_same}
use Rattle.derivation.specs.Rounds.{IsProper}
use Rattle.rule_universe.specs.Worlds.{World}
use Rattle.rule_universe.specs.Places.{block_place, place_count}
use Rattle.saturate.specs.Universes.{setting_of}
use Rattle.saturate.specs.Closed.{IsClosedUnder}
use Rattle.box_trace.specs.declared.known.Cited.{Cited}
use Rattle.box_trace.specs.declared.known.Known.{Known}

-- ---- rows of slots
abbrev pub one_later : Option ℕ → Option ℕ
one_later None = None
one_later (Some k) = Some (k + 1)

-- the number of the pair, if it is one of the list
abbrev pub pair_number : ExprId → ExprId → List Pair → Option ℕ
pair_number x y [] = None
pair_number x y (p ∷ ps) =
    if is_same p.0 x && is_same p.1 y then Some 0 else one_later (pair_number x y ps)

-- The place of the slot of the pair k: behind the four blocks, which have n slots each.
abbrev pub behind_blocks : ℕ → Option ℕ → Option ℕ
behind_blocks n None = None
behind_blocks n (Some k) = Some (4 * n + k)

-- The place of the slot, if it is one of n expressions and these pairs.
abbrev pub row_of : ℕ → List Pair → Slot → Option ℕ
row_of n pairs (slot.Bnd x) = block_place n 0 x
row_of n pairs (slot.Abs x) = block_place n 1 x
row_of n pairs (slot.Fix x) = block_place n 2 x
row_of n pairs (slot.Nzr x) = block_place n 3 x
row_of n pairs (slot.Rel x y) = behind_blocks n (pair_number x y pairs)
row_of n pairs slot.Void = Some (4 * n + length pairs)

-- ---- what stands in a row
abbrev pub flat : Option (Option Cited) → Option Cited
flat None = None
flat (Some o) = o

-- What stands in the row at this place; nothing without a place, or where the place is outside.
abbrev pub row_in : List (Option Cited) → Option ℕ → Option Cited
row_in rows None = None
row_in rows (Some p) = flat (slice_get rows p)

-- The fact that stands in a row, if any.
abbrev pub fact_of : Option Cited → Option Fact
fact_of None = None
fact_of (Some row) = Some row.fact

-- The number of the step of the fact that stands in a row, if any.
abbrev pub number_of : Option Cited → Option ℕ
number_of None = None
number_of (Some row) = Some row.number

-- the number, or 0 where nothing stands
abbrev pub number_or : Option Cited → ℕ
number_or None = 0
number_or (Some row) = row.number

-- ---- what is known
abbrev pub cited_at : World → Known → Slot → Option Cited
cited_at u k s = row_in k.rows.items (row_of (length u.nodes) u.pairs s)

-- The fact that is known on the slot, and the number of its step.
abbrev pub known_at : World → Known → Slot → Option Fact
known_at u k s = fact_of (cited_at u k s)

-- The number of the step of the fact that is known on the slot, if any.
abbrev pub step_at : World → Known → Slot → Option ℕ
step_at u k s = number_of (cited_at u k s)

-- the step of each fact that is known
abbrev pub place_in : World → Known → Slot → ℕ
place_in u k s = number_or (cited_at u k s)

-- Where it says that no instance concludes more, that is so, unless VOID is known.
abbrev pub IsMarked : World → Known → Type 0
IsMarked u k = IsTrue k.closed → known_at u k slot.Void ≡ None
    → IsClosedUnder (setting_of u) (known_at u k)

-- There is just one row for each slot of the universe, each fact stands on its own slot, and what
-- is known is closed where it says so.
pub record HasRows (u : World) (k : Known) : Type 0 where
  pub count : length k.rows.items ≡ place_count (length u.nodes) u.pairs
  pub proper : IsProper (known_at u k)
  pub marked : IsMarked u k
