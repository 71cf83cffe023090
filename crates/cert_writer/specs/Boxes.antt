-- What is spelled of a box.
use Rattle.std.specs.Prelude.{◌≡◌, ◌⊎◌, ⊤, ℕ, zero, suc, List, [], ◌∷◌, map, Option, Some, None}
use Rattle.fx_model.specs.declared.ExprId.{ExprId}
use Rattle.dyadic.specs.declared.number.Dyadic.{Dyadic}
use Rattle.facts.specs.declared.fact.Fact.{Fact}
use Rattle.facts.specs.declared.fact.Fact.TheVariants as fact
use Rattle.facts.specs.declared.fact.Slot.TheVariants as slot
use Rattle.goals.specs.declared.goal.Goal.{Goal}
use Rattle.goals.specs.Settles.{Settles}
use Rattle.derivation.specs.Derivations.{At}
use Rattle.rule_universe.specs.Worlds.{World}
use Rattle.box_tree.specs.declared.cut.Cut.{Cut}
use Rattle.box_tree.specs.declared.cut.Cut.TheVariants.{Forced, Half, Bottom}
use Rattle.cert_bytes.specs.declared.item.Item.{Item}
use Rattle.cert_bytes.specs.declared.item.Item.TheVariants as item
use Rattle.cert_trim.specs.Behind.{trimmed_behind}
use Rattle.tree_certificates.specs.Trees.{AllSettled}
use Rattle.box_trace.specs.declared.known.Known.{Known}
use Rattle.box_trace.specs.Tables.{known_at, place_in}

-- Of a box's own items, whose first step has number start, those that are written, where it goes
-- into so many pieces: all of one that is cut, as its pieces may cite each step; of another
-- the last and the steps that it needs.
abbrev pub written_of : ℕ → ℕ → List Item → List Item
written_of zero start items = trimmed_behind start items
written_of (suc n) start items = items

-- for each goal the step of what is known on its slot
abbrev pub refs_in : World → Known → List Goal → List ℕ
refs_in u k goals = map (λ (g : Goal). place_in u k g.of) goals

-- a fact is known that settles the goal
abbrev pub IsSettled : At → Goal → Type 0
IsSettled at g = (f : Fact) × (at g.of ≡ Some f) × Settles g f

-- VOID is known at the box, so that nothing needs to be shown there.
abbrev pub KnowsVoid : At → Type 0
KnowsVoid at = at slot.Void ≡ Some fact.Void

-- What isn't cut shows something: VOID is known, or each goal is settled.
abbrev pub IsClosed : At → List Goal → Type 0
IsClosed at goals = KnowsVoid at ⊎ AllSettled at goals

-- A box with these facts is cut so, or isn't: a forced cut is made where VOID isn't known, whether
-- goals are settled or not, and a halving where moreover one isn't.
abbrev pub CutsAt : At → List Goal → Cut → Option (ExprId × List Dyadic) → Type 0
CutsAt at goals (Forced x points) None = KnowsVoid at
CutsAt at goals (Forced x points) (Some p) = (¬ KnowsVoid at) × (p ≡ (x, points))
CutsAt at goals (Half x m) None = IsClosed at goals
CutsAt at goals (Half x m) (Some p) = (¬ KnowsVoid at) × (¬ AllSettled at goals) × (p ≡ (x, m ∷ []))
CutsAt at goals Bottom None = ⊤
CutsAt at goals Bottom (Some p) = ⊥

-- The item that ends a box which isn't cut: VOID's step, or where VOID isn't known a step for each
-- goal, which it settles.
abbrev pub IsEnd : World → Known → Item → Type 0
IsEnd u k (item.Dead r) = KnowsVoid (known_at u k) × (r ≡ place_in u k slot.Void)
IsEnd u k (item.Leaf refs) = (¬ KnowsVoid (known_at u k)) × AllSettled (known_at u k) u.goals
    × (refs ≡ refs_in u k u.goals)
IsEnd u k _ = ⊥
