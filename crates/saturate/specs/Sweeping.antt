-- The facts of a sweep, where instances are applied to what is known as it stands. Only private
-- functions cite these.
use Rattle.std.specs.Prelude.{◌≡◌, ◌≢◌, ◌≤◌, ◌+◌, ◌-◌, ℕ, Bool, true, false, List, Option, Some}
use Rattle.std.specs.Prelude.{None, length, slice_get, Contains}
use Rattle.facts.specs.declared.fact.Fact.{Fact}
use Rattle.facts.specs.declared.fact.Slot.{Slot}
use Rattle.facts.specs.declared.fact.Fact.TheVariants as fact
use Rattle.facts.specs.declared.fact.Slot.TheVariants as slot
use Rattle.facts.specs.declared.instance.Instance.{Instance}
use Rattle.derivation.specs.Derivations.{Setting, At, Beats, Derives}
use Rattle.derivation.specs.Rounds.{InTable, Grows, IsBestFrom, conclusion}
use Rattle.derivation.specs.Changes.{IsQuiet}
use Rattle.derivation.specs.Counted.{AreHeights, touched_by}
use Rattle.rule_universe.specs.declared.placed.Placed.{Placed}
use Rattle.rule_universe.specs.Places.{IsPlace, place_count}
use Rattle.rule_universe.specs.Worlds.{World}
use Rattle.saturate.specs.declared.taken.Course.{Course}
use Rattle.saturate.specs.declared.taken.Course.TheVariants as course

-- By place of a slot, a height within which its fact is derived from the facts of the first table.
abbrev pub AreWithin : Setting → World → At → At → List ℕ → Type 0
AreWithin s u first at heights = (x : Slot) (f : Fact) (p h : ℕ) → at x ≡ Some f
    → IsPlace (length u.nodes) u.pairs x p → slice_get heights p ≡ Some h
    → Derives s (InTable first) h f

-- The table has no less than the first, and not VOID; each of its facts is derived from those
-- within the height, and beside each stands a height that serves, too.
pub record IsSwept (s : Setting) (u : World) (first : At) (height : ℕ) (at : At)
    (heights : List ℕ) : Type 0 where
  pub no_void : at slot.Void ≡ None
  pub grows : Grows first at
  pub within : (x : Slot) (f : Fact) → at x ≡ Some f → Derives s (InTable first) height f
  pub each : AreWithin s u first at heights
  pub count : length heights ≡ place_count (length u.nodes) u.pairs

-- Besides, each instance that isn't due concludes nothing that the table doesn't beat.
pub record IsSweeping (s : Setting) (u : World) (first : At) (height : ℕ) (at : At)
    (heights : List ℕ) (due : List Bool) : Type 0 where
  pub swept : IsSwept s u first height at heights
  pub long : length due ≡ length s.instances
  pub quiet : IsQuiet s due at

-- VOID is known, and the table is best.
abbrev pub IsEnded : Setting → At → ℕ → At → Type 0
IsEnded s first height at = IsBestFrom s first height at × (at slot.Void ≡ Some fact.Void)

-- The first holds where the sweep goes on, and the second where it ended well.
abbrev pub IsCourse : Course → Type 0 → Type 0 → Type 0
IsCourse course.On Going Ended = Going
IsCourse course.Best Going Ended = Ended
IsCourse course.Lost Going Ended = Unit {0}

-- The same of each instance but this one.
abbrev pub IsQuietApart : Setting → ℕ → List Bool → At → Type 0
IsQuietApart s k due at = (j : ℕ) (i : Instance) (c : Fact) → slice_get s.instances j ≡ Some i
    → j ≢ k → slice_get due j ≡ Some false → conclusion s.rules at i ≡ Some c → Beats at c

-- All premises were found, and these are their facts; or one is missing.
abbrev pub IsRead : Option ℕ → Option (List Fact) → List Fact → Type 0
IsRead (Some top) found premises = found ≡ Some premises
IsRead None found premises = found ≡ None

-- Where all were found, none of their heights is greater.
abbrev pub AreAtMost : Option ℕ → List ℕ → List Placed → Type 0
AreAtMost (Some top) heights placed = (p : Placed) (h : ℕ) → Contains placed p
    → slice_get heights p.place ≡ Some h → h ≤ top
AreAtMost None heights placed = Unit {0}

-- No instance is due.
abbrev pub NoneDue : List Bool → Type 0
NoneDue due = (k : ℕ) → slice_get due k ≢ Some true

-- ---- what rounds cost whose first looks at so many instances
-- From so many steps to so many no more are taken than these, and in each round from the second on
-- those with a premise slot whose best fact changed.
abbrev pub IsWithinFew : Setting → At → ℕ → ℕ → ℕ → ℕ → Type 0
IsWithinFew u start height few before after = (best : ℕ → At) → AreHeights u start height best
    → after ≤ before + (few + touched_by u.instances best (height - 1))
