-- Tables from which the instances conclude nothing more.
use Rattle.std.specs.Prelude.{◌≡◌, ℕ, Bool, true, List, Option, Some, None, IsTrue, slice_get}
use Rattle.std.specs.Borrow.{Bor}
use Rattle.facts.specs.declared.fact.Fact.{Fact}
use Rattle.facts.specs.declared.fact.Slot.{Slot}
use Rattle.facts.specs.declared.fact.Slot.TheVariants as slot
use Rattle.facts.specs.declared.instance.Instance.{Instance}
use Rattle.derivation.specs.Derivations.{Setting, At, Beats}
use Rattle.derivation.specs.Rounds.{conclusion}
use Rattle.derivation.specs.Changes.{IsUser, IsQuiet}
use Rattle.saturate.specs.declared.kept.Table.{Table}
use Rattle.saturate.specs.Tables.{fact_at}

-- Whatever an instance concludes from the table, the table beats it.
abbrev pub IsClosedUnder : Setting → At → Type 0
IsClosedUnder u at = (k : ℕ) (i : Instance) (c : Fact) → slice_get u.instances k ≡ Some i →
    conclusion u.rules at i ≡ Some c → Beats at c

-- Where the table says that it's closed, it is, unless it has VOID.
abbrev pub IsMarked : Setting → Table → Type 0
IsMarked u t = IsTrue t.closed → fact_at t slot.Void ≡ None → IsClosedUnder u (fact_at t)

-- The same of the parent's table, if one is given.
abbrev pub IsMarkedParent : Setting → Option (Bor Table) → Type 0
IsMarkedParent u None = Unit {0}
IsMarkedParent u (Some parent) = IsMarked u parent.now

-- ---- where rounds begin
-- All that take the slot, if there is one, are due.
abbrev pub AreUsersDue : List Instance → Option Slot → List Bool → Type 0
AreUsersDue instances changed due = (s : Slot) → changed ≡ Some s → (k : ℕ) →
    IsUser instances s k → slice_get due k ≡ Some true

-- Each instance that is due takes the slot; where there is none, no instance is due.
abbrev pub AreUsersAlone : List Instance → Option Slot → List Bool → Type 0
AreUsersAlone instances changed due = (k : ℕ) → slice_get due k ≡ Some true →
    (s : Slot) × (changed ≡ Some s) × IsUser instances s k

-- Where all that take the slot are due, the others conclude nothing that the table doesn't beat.
abbrev pub IsQuietBut : Setting → Option Slot → At → Type 0
IsQuietBut u changed at = (due : List Bool) → AreUsersDue u.instances changed due →
    IsQuiet u due at
