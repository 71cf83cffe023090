-- How many steps the rounds of a box may take.
use Rattle.std.specs.Prelude.{◌≡◌, ◌<◌, ◌≤◌, ◌+◌, ◌-◌, ◌&&◌, ◌||◌, ℕ, zero, suc, not, Bool, true}
use Rattle.std.specs.Prelude.{false, List, [], ◌∷◌, Option, Some, None, length, count_by}
use Rattle.std.specs.Ordering.{int_eq}
use Rattle.interval.specs.declared.interval.Interval.{Interval}
use Rattle.facts.specs.declared.relative.RelativeError.{RelativeError}
use Rattle.facts.specs.declared.fact.Fact.{Fact}
use Rattle.facts.specs.declared.fact.Slot.{Slot}
use Rattle.facts.specs.declared.fact.Fact.TheVariants as fact
use Rattle.facts.specs.declared.fact.Slot.TheVariants as slot
use Rattle.facts.specs.Order.{is_same}
use Rattle.facts.specs.declared.instance.Instance.{Instance}
use Rattle.derivation.specs.Derivations.{Setting, At, IsBest}
use Rattle.derivation.specs.Known.{Piece, GivenAt}
use Rattle.derivation.specs.Rounds.{IsSame, IsBestFrom}
use Rattle.derivation.specs.Decided.{is_within}

-- ---- whether facts differ
abbrev pub same_interval : Interval → Interval → Bool
same_interval i j = is_within i j && is_within j i

-- Whether two REL facts have the same error: none in both, or the same interval in both.
abbrev pub same_error : Option RelativeError → Option RelativeError → Bool
same_error None None = true
same_error (Some d) (Some e) = same_interval d.interval e.interval
same_error _ _ = false

-- Whether two facts are of one kind, about the same expressions, and say exactly as much.
abbrev pub same_fact : Fact → Fact → Bool
same_fact (fact.Bnd x i) (fact.Bnd y j) = is_same x y && same_interval i j
same_fact (fact.Abs x s) (fact.Abs y t) = is_same x y && same_interval s.interval t.interval
same_fact (fact.Rel x z d) (fact.Rel y w e) = is_same x y && is_same z w && same_error d e
same_fact (fact.Fix x k) (fact.Fix y n) = is_same x y && int_eq k.exponent n.exponent
same_fact (fact.Nzr x) (fact.Nzr y) = is_same x y
same_fact fact.Void fact.Void = true
same_fact _ _ = false

-- Whether what two tables have on a slot differs: a fact in one alone, or two facts that aren't the
-- same.
abbrev pub differ : Option Fact → Option Fact → Bool
differ None None = false
differ (Some f) (Some g) = not (same_fact f g)
differ _ _ = true

-- ---- instances with changed premises
-- whether the two tables differ on one of the slots
abbrev pub is_touched : At → At → List Slot → Bool
is_touched at new [] = false
is_touched at new (s ∷ ss) = differ (at s) (new s) || is_touched at new ss

-- how many instances have a premise slot on which the tables differ
abbrev pub touched : List Instance → At → At → ℕ
touched instances at new = count_by (λ (i : Instance). is_touched at new i.premises) instances

-- the same of the tables of heights 0 and 1, of 1 and 2, and so on, n times
abbrev pub touched_by : List Instance → (ℕ → At) → ℕ → ℕ
touched_by instances best zero = 0
touched_by instances best (suc r) =
    touched_by instances best r + touched instances (best r) (best (suc r))

-- From so many steps to so many no more are taken than a box may take: each instance once, and in
-- each round from the second on those with a premise slot whose best fact in the height before
-- differs from that in the height before it. The heights' best tables are any.
abbrev pub IsWithinSteps : Setting → ℕ → List Piece → ℕ → ℕ → Type 0
IsWithinSteps u height pieces before after = (best : ℕ → Slot → Option Fact)
    → ((r : ℕ) → r < height → IsBest u (GivenAt u height pieces) r (best r))
    → after ≤ before + (length u.instances + touched_by u.instances best (height - 1))

-- ---- the same over the facts of a table with which the rounds begin
-- best r has the facts of each best table of height r without VOID
abbrev pub AreHeights : Setting → At → ℕ → (ℕ → At) → Type 0
AreHeights u start height best = (r : ℕ) (at : At) → r < height → IsBestFrom u start r at
    → at slot.Void ≡ None → IsSame at (best r)

-- The same bound over the table with which the rounds begin.
abbrev pub IsWithinStepsFrom : Setting → At → ℕ → ℕ → ℕ → Type 0
IsWithinStepsFrom u start height before after = (best : ℕ → Slot → Option Fact)
    → AreHeights u start height best
    → after ≤ before + (length u.instances + touched_by u.instances best (height - 1))
