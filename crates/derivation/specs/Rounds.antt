-- What one round does to a table.
use Rattle.std.specs.Prelude.{◌≡◌, ◌≢◌, ◌⊎◌, ℕ, List, [], ◌∷◌, Option, Some, None, slice_get}
use Rattle.facts.specs.declared.fact.Fact.{Fact}
use Rattle.facts.specs.declared.fact.Slot.{Slot}
use Rattle.facts.specs.declared.fact.Slot.TheVariants as slot
use Rattle.facts.specs.Order.{slot_of, IsStronger, meet_of}
use Rattle.facts.specs.declared.instance.Instance.{Instance}
use Rattle.derivation.specs.Lists.{RuleList}
use Rattle.derivation.specs.Derivations.{Setting, At, Beats, IsBest}

-- each fact stands on its slot
abbrev pub IsProper : At → Type 0
IsProper at = (s : Slot) (f : Fact) → at s ≡ Some f → slot_of f ≡ s

-- The two tables have the same on each slot.
abbrev pub IsSame : At → At → Type 0
IsSame at new = (s : Slot) → new s ≡ at s

-- The table has no fact on any slot.
abbrev pub IsBlank : At → Type 0
IsBlank at = (s : Slot) → at s ≡ None

-- ---- what an instance concludes
-- The facts with one more before them; none where that one or the others are missing.
abbrev pub with_first : Option Fact → Option (List Fact) → Option (List Fact)
with_first (Some p) (Some ps) = Some (p ∷ ps)
with_first _ _ = None

-- the facts of all these slots, if all are there
abbrev pub all_at : At → List Slot → Option (List Fact)
all_at at [] = Some []
all_at at (s ∷ ss) = with_first (at s) (all_at at ss)

-- What the rule of the instance gives from these premises; nothing where some are missing.
abbrev pub concluded : RuleList → Instance → Option (List Fact) → Option Fact
concluded rules i (Some ps) = rules i.rule i.arg ps i.target
concluded rules i None = None

-- what the instance concludes from the table
abbrev pub conclusion : RuleList → At → Instance → Option Fact
conclusion rules at i = concluded rules i (all_at at i.premises)

-- ---- a fact that comes to a table
-- the second table is the first with this fact on its slot
pub record IsWritten (at new : At) (k : Fact) : Type 0 where
  pub here : new (slot_of k) ≡ Some k
  pub others : (s : Slot) → s ≢ slot_of k → new s ≡ at s

-- what is kept where a fact c comes to what is there: that, where it is as strong, or their meet
abbrev pub IsKept : Option Fact → Fact → Fact → Type 0
IsKept None c k = k ≡ c
IsKept (Some g) c k = (IsStronger g c × (k ≡ g)) ⊎ (meet_of g c ≡ Some k)

-- The new table is the old one after fact c came to it: on its slot stands k, which was kept.
pub record Improves (at new : At) (c k : Fact) : Type 0 where
  pub kept : IsKept (at (slot_of c)) c k
  pub written : IsWritten at new k

-- ---- a round
-- a fact of the table, a conclusion from it, or a meet of such
pub data Made (u : Setting) (at : At) : Fact → Type 0 where
  old : {f : Fact} (s : Slot) → at s ≡ Some f → Made u at f
  concluded_by : {f : Fact} (k : ℕ) (i : Instance) → slice_get u.instances k ≡ Some i
      → conclusion u.rules at i ≡ Some f → Made u at f
  meets : {f : Fact} (a b : Fact) → Made u at a → Made u at b → meet_of a b ≡ Some f → Made u at f

-- no slot has lost strength
abbrev pub Grows : At → At → Type 0
Grows at new = (s : Slot) (f : Fact) → at s ≡ Some f
    → (g : Fact) × (new s ≡ Some g) × IsStronger g f

-- The new table during a round over the old one: what it has was made, and it beats what the
-- instances that were seen conclude.
pub record IsAhead (u : Setting) (at new : At) (Seen : ℕ → Type 0) : Type 0 where
  pub made : (s : Slot) (f : Fact) → new s ≡ Some f → (slot_of f ≡ s) × Made u at f
  pub grows : new slot.Void ≡ None → Grows at new
  pub beats : new slot.Void ≡ None → (k : ℕ) (i : Instance) (c : Fact)
      → slice_get u.instances k ≡ Some i → Seen k
      → conclusion u.rules at i ≡ Some c → Beats new c

-- each instance was seen
abbrev pub AllSeen : ℕ → Type 0
AllSeen k = Unit {0}

-- ---- rounds over the facts of a table
-- a fact that the table has
abbrev pub InTable : At → Fact → Type 0
InTable at f = (s : Slot) × (at s ≡ Some f)

-- the best facts that derivations of at most this height conclude from those of the table
abbrev pub IsBestFrom : Setting → At → ℕ → At → Type 0
IsBestFrom u start height at = IsBest u (InTable start) height at
