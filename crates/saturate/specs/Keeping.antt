-- What a round leads to, whatever keeps what its instances conclude.
use Rattle.std.specs.Prelude.{◌≡◌, ◌≤◌, ℕ, zero, suc, Bool, true, false, List, Option, Some, None}
use Rattle.std.specs.Prelude.{length, slice_get, Contains}
use Rattle.facts.specs.declared.fact.Fact.{Fact}
use Rattle.facts.specs.declared.fact.Slot.TheVariants as slot
use Rattle.facts.specs.declared.fact.Fact.TheVariants as fact
use Rattle.facts.specs.declared.instance.Instance.{Instance}
use Rattle.derivation.specs.Derivations.{Setting, At, Beats}
use Rattle.derivation.specs.Rounds.{conclusion, IsAhead, AllSeen, Improves}
use Rattle.derivation.specs.Changes.{IsListed}
use Rattle.derivation.specs.Counts.{AreRisen}
use Rattle.rule_universe.specs.declared.placed.Placed.{Placed}
use Rattle.rule_universe.specs.Placed.{slots_of, IsPlaced}
use Rattle.rule_universe.specs.Places.{IsPlace}
use Rattle.rule_universe.specs.Worlds.{World}
use Rattle.saturate.specs.declared.taken.Taken.{Taken}
use Rattle.saturate.specs.declared.taken.Taken.TheVariants as taken
use Rattle.saturate.specs.Rules.{Rules}

-- ---- one instance
-- The instance with this number concludes c from the table, and this is its target's place.
abbrev pub IsConcludedBy : Rules → World → At → ℕ → ℕ → Fact → Type 0
IsConcludedBy rules u at k place c =
    (i : Instance) × (slice_get u.instances k ≡ Some i)
    × (conclusion (rules u.nodes u.hints) at i ≡ Some c)
    × IsPlace (length u.nodes) u.pairs i.target place

-- The instance with this number concludes nothing that the table doesn't beat.
abbrev pub IsIdle : Rules → World → At → ℕ → Type 0
IsIdle rules u at k = (i : Instance) (c : Fact) → slice_get u.instances k ≡ Some i
    → conclusion (rules u.nodes u.hints) at i ≡ Some c → Beats at c

-- What became of a fact that came to the first table: it came to the second, which is the first
-- where nothing changed, and has VOID just where that is said; or there was no room.
abbrev pub IsTaken : Taken → At → At → Fact → Type 0
IsTaken taken.Same at new c = (new ≡ at) × ((k : Fact) × Improves at new c k)
IsTaken taken.More at new c = (new slot.Void ≡ None) × ((k : Fact) × Improves at new c k)
IsTaken taken.Void at new c =
    (new slot.Void ≡ Some fact.Void) × ((k : Fact) × Improves at new c k)
IsTaken taken.Full at new c = Unit {0}

-- The first holds where it was found, and the second where it wasn't.
abbrev pub InTurn : Bool → Type 0 → Type 0 → Type 0
InTurn true Found Not = Found
InTurn false Found Not = Not

-- Whether a slot, VOID's, has its fact.
abbrev pub IsSaid : Bool → Option Fact → Type 0
IsSaid true o = o ≡ Some fact.Void
IsSaid false o = o ≡ None

-- ---- a round
-- The second table is what a whole round over the first leads to; unless VOID is found, they differ
-- on these slots at most, each of which has its place.
pub record IsWhole (s : Setting) (u : World) (at new : At) (changed : List Placed) : Type 0 where
  pub ahead : IsAhead s at new AllSeen
  pub listed : new slot.Void ≡ None → IsListed (slots_of changed) at new
  pub placed : new slot.Void ≡ None → (p : Placed) → Contains changed p
      → IsPlaced (length u.nodes) u.pairs p

-- ---- rounds after one another
-- So many rounds led from the first to the last.
abbrev pub HaveCome : {X : Type 0} → (X → X → List Placed → Type 0) → ℕ → X → X → Type 0
HaveCome Came zero first last = last ≡ first
HaveCome Came (suc n) first last =
    (mid : _) × (changed : List Placed) × HaveCome Came n first mid × Came mid last changed

-- At most so many rounds led from the first to the last, which has room for some number more.
abbrev pub ComeWithin : {X : Type 0} → (ℕ → X → Type 0) → (X → X → List Placed → Type 0) → ℕ → X
    → X → Type 0
ComeWithin Fits Came height first last =
    (n : ℕ) × (n ≤ height) × HaveCome Came n first last × ((m : ℕ) × Fits m last)

-- In each round the slots that are listed rise, where `facts` are the facts.
abbrev pub AreRising : {X : Type 0} → (X → At) → (X → X → List Placed → Type 0) → Type 0
AreRising facts Came = (first last : _) (changed : List Placed) → Came first last changed
    → facts last slot.Void ≡ None → AreRisen (slots_of changed) (facts first) (facts last)
