-- What a round gathers from its instances, before it writes.
use Rattle.std.specs.Prelude.{◌≡◌, ◌⊎◌, ◌<◌, ◌≤◌, ◌+◌, ◌*◌, ⊤, ℕ, Bool, true, false, List, length}
use Rattle.std.specs.Prelude.{Option, Some, None, slice_get, slice_set}
use Rattle.facts.specs.declared.fact.Fact.{Fact}
use Rattle.facts.specs.declared.fact.Fact.TheVariants as fact
use Rattle.facts.specs.declared.instance.Instance.{Instance}
use Rattle.facts.specs.Order.{slot_of, IsStronger}
use Rattle.theorem_list.specs.Concludes.{concludes}
use Rattle.derivation.specs.Derivations.{At, Beats}
use Rattle.derivation.specs.Rounds.{conclusion}
use Rattle.rule_universe.specs.Worlds.{World}
use Rattle.rule_universe.specs.Places.{IsPlace}
use Rattle.box_trace.specs.declared.known.Cited.{Cited}
use Rattle.box_trace.specs.declared.ends.Found.{Found}
use Rattle.box_trace.specs.declared.ends.Ends.{Ends}
use Rattle.box_trace.specs.Ends.{IsLowBy, IsHighBy}

-- what stands in the row is as strong as c
abbrev pub IsBeaten : Option Cited → Fact → Bool → Type 0
IsBeaten o c true = (row : Cited) × (o ≡ Some row) × IsStronger row.fact c
IsBeaten o c false = ⊤

-- The instance with this number concludes the fact from the table.
abbrev pub IsConclusion : World → At → Found → Type 0
IsConclusion u at found = (i : Instance) × (slice_get u.instances found.instance ≡ Some i)
    × (conclusion (concludes u.nodes u.hints) at i ≡ Some found.fact)

-- ---- ends by places
abbrev pub held : Option (Option Ends) → Option Ends
held None = None
held (Some o) = o

-- The ends that stand at a place of the list, if any; none where the place is outside.
abbrev pub ends_in : List (Option Ends) → ℕ → Option Ends
ends_in rows p = held (slice_get rows p)

-- the ends with one conclusion more
abbrev pub IsWith : Option Ends → Found → Ends → Type 0
IsWith None found e = (e.low ≡ found) × (e.high ≡ found)
IsWith (Some b) found e =
    ((e.low ≡ b.low) ⊎ (e.low ≡ found)) × ((e.high ≡ b.high) ⊎ (e.high ≡ found))
    × (IsLowBy found.fact e.low.fact × IsHighBy found.fact e.high.fact)
    × ((c : Fact) → slot_of c ≡ slot_of b.low.fact → slot_of b.low.fact ≡ slot_of found.fact
    → IsLowBy c b.low.fact → IsLowBy c e.low.fact)
    × ((c : Fact) → slot_of c ≡ slot_of b.high.fact → slot_of b.high.fact ≡ slot_of found.fact
    → IsHighBy c b.high.fact → IsHighBy c e.high.fact)

-- The second list is the first with one conclusion more at this place.
abbrev pub IsNoted : List (Option Ends) → ℕ → Found → List (Option Ends) → Type 0
IsNoted old p found new = (e : Ends) × (new ≡ slice_set old p (Some e))
    × IsWith (ends_in old p) found e

-- Both are conclusions from the table, on the slot with this place.
pub record AreEndsOf (u : World) (at : At) (p : ℕ) (e : Ends) : Type 0 where
  pub low : IsConclusion u at e.low
  pub high : IsConclusion u at e.high
  pub low_place : IsPlace (length u.nodes) u.pairs (slot_of e.low.fact) p
  pub high_place : IsPlace (length u.nodes) u.pairs (slot_of e.high.fact) p

-- The list has, at the place of its slot, which isn't VOID's, ends that are as far in as those of
-- c, or further.
pub record HasEnds (u : World) (rows : List (Option Ends)) (c : Fact) : Type 0 where
  pub place : ℕ
  pub ends : Ends
  pub inside : place < 4 * length u.nodes + length u.pairs
  pub here : ends_in rows place ≡ Some ends
  pub of : IsPlace (length u.nodes) u.pairs (slot_of c) place
  pub low : IsLowBy c ends.low.fact
  pub high : IsHighBy c ends.high.fact

-- The first n instances were seen: what each concludes the table beats, or the list has ends for
-- it.
pub record IsScanned (u : World) (at : At) (rows : List (Option Ends)) (n : ℕ) : Type 0 where
  pub ends : (p : ℕ) (e : Ends) → ends_in rows p ≡ Some e → AreEndsOf u at p e
  pub seen : (k : ℕ) (i : Instance) (c : Fact) → k < n → slice_get u.instances k ≡ Some i
      → conclusion (concludes u.nodes u.hints) at i ≡ Some c → Beats at c ⊎ HasEnds u rows c

-- The instance with number k concludes VOID, or was seen.
abbrev pub IsVisited : World → At → List (Option Ends) → List (Option Ends)
    → ℕ → Option Found → Type 0
IsVisited u at old new k (Some found) = IsConclusion u at found × (found.fact ≡ fact.Void)
IsVisited u at old new k None = IsScanned u at old k → IsScanned u at new (k + 1)

-- An instance concludes VOID, or all were seen.
abbrev pub IsGathered : World → At → List (Option Ends) → Option Found → Type 0
IsGathered u at rows (Some found) = IsConclusion u at found × (found.fact ≡ fact.Void)
IsGathered u at rows None = IsScanned u at rows (length u.instances)

-- ---- how many steps
-- the place is one of a slot of an interval
abbrev pub IsWide : ℕ → ℕ → Type 0
IsWide n p = (p < 2 * n) ⊎ (4 * n ≤ p)
