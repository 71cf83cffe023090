-- What a call that traces a box is given, and what it answers.
use Rattle.std.specs.Prelude.{◌≡◌, ◌<◌, ◌≤◌, ◌+◌, ◌*◌, ℕ, List, [], ◌∷◌, length, Option, Some, None}
use Rattle.std.specs.Borrow.{Bor}
use Rattle.facts.specs.declared.fact.Fact.{Fact}
use Rattle.derivation.specs.Known.{Piece, IsTableAt}
use Rattle.rule_universe.specs.Worlds.{World}
use Rattle.saturate.specs.Universes.{setting_of}
use Rattle.cert_checker.specs.Open.{Numbered}
use Rattle.tree_certificates.specs.Sections.{ArePlaces, AreBelow, IsTraced}
use Rattle.tree_certificates.specs.Writing.{IsWritable, givens_of}
use Rattle.tree_certificates.specs.Traces.{HaveFields, IsCutTo}
use Rattle.box_trace.specs.declared.known.Known.{Known}
use Rattle.box_trace.specs.declared.log.Log.{Log}
use Rattle.box_trace.specs.declared.tracing.Traced.{Traced}
use Rattle.box_trace.specs.Tables.{known_at, place_in, HasRows}

-- The box is the root, and nothing is given; or the last cut's piece and what is known at its
-- parent are.
abbrev pub IsBox : World → ℕ → Option Piece → Option (Bor Known) → List Piece → Type 0
IsBox u height None None pieces = pieces ≡ []
IsBox u height (Some piece) (Some parent) pieces = (above : List Piece) × (pieces ≡ piece ∷ above)
    × IsTableAt (setting_of u) height above (known_at u parent.now)
IsBox u height piece parent pieces = ⊥

-- Whether a piece and what is known at a parent are those of some box; the root has neither.
abbrev pub IsSomeBox : World → ℕ → Option Piece → Option (Bor Known) → Type 0
IsSomeBox u height piece parent = (pieces : List Piece) × IsBox u height piece parent pieces

-- The piece is of an expression of the universe, and what is known at the parent is of this
-- universe.
abbrev pub IsOfUniverse : World → Option Piece → Option (Bor Known) → Type 0
IsOfUniverse u (Some piece) (Some parent) = ((piece.0).0 < length u.nodes) × HasRows u parent.now
IsOfUniverse u piece parent = Unit {0}

-- The facts are the best that are known at the box.
abbrev pub IsItsTable : World → ℕ → Option Piece → Option (Bor Known) → Known → Type 0
IsItsTable u height piece parent k = (pieces : List Piece) → IsBox u height piece parent pieces
    → IsTableAt (setting_of u) height pieces (known_at u k)

-- They are, and there is just one row for each slot of the universe.
pub record HasItsTable (u : World) (height : ℕ) (piece : Option Piece) (parent : Option (Bor Known))
    (k : Known) : Type 0 where
  pub best : IsItsTable u height piece parent k
  pub rows : HasRows u k

-- The facts are the best of a box below the one with the parent's facts.
abbrev pub IsTableBelow : World → ℕ → Piece → Known → Known → Type 0
IsTableBelow u height piece parent k = (above : List Piece)
    → IsTableAt (setting_of u) height above (known_at u parent)
    → IsTableAt (setting_of u) height (piece ∷ above) (known_at u k)

-- ---- where the box's steps may stand
-- The next step has the first number, and no number that may be cited is as large.
abbrev pub IsNext : ℕ → Numbered → Type 0
IsNext first s = (s.next ≡ first) × AreBelow s

-- The parent's facts may be cited by their steps, and the cut leaves of the variable, with what is
-- known of it, the box's piece.
abbrev pub IsSectionBelow : World → Piece → Known → ℕ → Numbered → Fact → Type 0
IsSectionBelow u piece parent first s p = IsNext first s
    × ArePlaces s (known_at u parent) (place_in u parent) × IsCutTo (known_at u parent) p piece

-- A section in which the box's steps may stand.
abbrev pub IsItsSection : World → Option Piece → Option (Bor Known) → ℕ
    → Numbered → Option Fact → Type 0
IsItsSection u None None first s cut = IsNext first s × (cut ≡ None)
IsItsSection u (Some piece) (Some parent) first s cut =
    (p : Fact) × (cut ≡ Some p) × IsSectionBelow u piece parent.now first s p
IsItsSection u piece parent first s cut = ⊥

-- The log's steps are accepted there one after the other, and behind them each fact that is known
-- has its step; they have room in their fields.
abbrev pub IsTracedIn : World → Option Fact → Numbered → Log → Type 0
IsTracedIn u cut s log = IsTraced (givens_of (setting_of u) u.hints cut) s log.steps.items
    (known_at u log.known) (place_in u log.known) × HaveFields log.steps.items

-- The root's steps are accepted in each section where they may stand, with no cut, where what
-- derivations use can be written.
abbrev pub AreRootSteps : World → ℕ → Log → Type 0
AreRootSteps u first log = IsWritable (setting_of u) u.hints → (s : Numbered) → IsNext first s
    → IsTracedIn u None s log

-- The same of a box below another: in each section where the parent's facts may be cited and the
-- cut leaves this piece.
abbrev pub AreStepsBelow : World → Piece → Known → ℕ → Log → Type 0
AreStepsBelow u piece parent first log = IsWritable (setting_of u) u.hints
    → (s : Numbered) (p : Fact) → IsSectionBelow u piece parent first s p
    → IsTracedIn u (Some p) s log

-- Where what derivations use can be written as steps: in each section where they may stand the
-- steps are accepted one after the other, and behind them each fact that is known has its step.
abbrev pub AreItsSteps : World → Option Piece → Option (Bor Known) → ℕ → Log → Type 0
AreItsSteps u piece parent first log = IsWritable (setting_of u) u.hints
    → (s : Numbered) (cut : Option Fact) → IsItsSection u piece parent first s cut
    → IsTracedIn u cut s log

-- ---- what a box begins with
-- The root, by so many steps at most.
pub record BeginsWithin (u : World) (first most : ℕ) (log : Log) : Type 0 where
  pub rows : HasRows u log.known
  pub first_is : log.first ≡ first
  pub few : length log.steps.items ≤ most
  pub steps : AreRootSteps u first log

-- The root begins with no more steps than one for each hypothesis and node.
abbrev pub BeginsRoot : World → ℕ → Log → Type 0
BeginsRoot u first log = BeginsWithin u first (length u.hypotheses + length u.nodes) log

-- A box below another.
pub record BeginsBelow (u : World) (piece : Piece) (parent : Known) (first : ℕ)
    (log : Log) : Type 0 where
  pub rows : HasRows u log.known
  pub first_is : log.first ≡ first
  pub few : length log.steps.items ≤ 1
  pub steps : AreStepsBelow u piece parent first log

-- ---- how many steps
-- Before the first round one for each hypothesis and node, or the piece's; then 8,192 in each
-- round.
abbrev pub most_steps : World → ℕ → ℕ
most_steps u height = length u.hypotheses + length u.nodes + 1 + height * 8192

-- What was traced, as a log.
abbrev pub log_of : ℕ → Traced → Log
log_of first t = record { first = first; steps = t.steps; known = t.known }
