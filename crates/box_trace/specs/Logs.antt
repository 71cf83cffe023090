-- What becomes of a log as facts come, and where its steps may stand.
use Rattle.std.specs.Prelude.{◌≡◌, ◌≢◌, ◌⊎◌, ◌<◌, ◌≤◌, ◌+◌, ◌*◌, ℕ, List, [], ◌∷◌, ◌++◌, length}
use Rattle.std.specs.Prelude.{Option, Some, None, slice_get, map, Contains, false}
use Rattle.fx_model.specs.declared.ExprId.{ExprId}
use Rattle.facts.specs.declared.instance.Instance.{Instance}
use Rattle.facts.specs.declared.fact.Fact.{Fact}
use Rattle.facts.specs.declared.fact.Slot.{Slot}
use Rattle.facts.specs.declared.fact.Slot.TheVariants as slot
use Rattle.facts.specs.Order.{slot_of, IsStronger}
use Rattle.derivation.specs.Derivations.{At}
use Rattle.derivation.specs.Exists.{joined}
use Rattle.derivation.specs.Rounds.{Improves, IsAhead, AllSeen}
use Rattle.derivation.specs.Changes.{IsListed}
use Rattle.rule_universe.specs.Worlds.{World}
use Rattle.rule_universe.specs.declared.placed.Placed.{Placed}
use Rattle.rule_universe.specs.Placed.{slots_of, IsPlaced}
use Rattle.rule_universe.specs.Sizes.{beyond_four}
use Rattle.saturate.specs.Universes.{setting_of}
use Rattle.saturate.specs.Closed.{IsQuietBut}
use Rattle.cert_checker.specs.Given.{given_of}
use Rattle.cert_checker.specs.Open.{Numbered}
use Rattle.tree_certificates.specs.Sections.{behind, ArePlaces, AreBelow, IsTraced}
use Rattle.tree_certificates.specs.Writing.{IsWritable, givens_of}
use Rattle.tree_certificates.specs.Traces.{HaveFields}
use Rattle.tree_certificates.specs.Coming.{coming}
use Rattle.box_trace.specs.declared.known.Cited.{Cited}
use Rattle.box_trace.specs.declared.known.Known.{Known}
use Rattle.box_trace.specs.declared.log.Log.{Log}
use Rattle.box_trace.specs.declared.log.Source.{Source}
use Rattle.box_trace.specs.declared.ends.Found.{Found}
use Rattle.box_trace.specs.declared.ends.Ends.{Ends}
use Rattle.box_trace.specs.Scans.{IsWide}
use Rattle.box_trace.specs.Tables.{number_of, cited_at, known_at, place_in, HasRows}
use Rattle.box_trace.specs.Rounds.{beyond_in, AddsSteps}

-- ---- where rounds begin
-- Only instances that take the interval of an expression of the universe may conclude what the
-- table doesn't beat.
abbrev pub IsQuietApart : World → At → ExprId → Type 0
IsQuietApart u at x =
    (x.0 < length u.nodes) × IsQuietBut (setting_of u) (Some (slot.Bnd x)) at

-- The same, where an expression is told and VOID isn't known.
abbrev pub IsQuietFrom : World → At → Option ExprId → Type 0
IsQuietFrom u at changed = at slot.Void ≡ None → (x : ExprId) → changed ≡ Some x
    → IsQuietApart u at x

-- ---- one fact comes
-- what is kept on the slot of c
abbrev pub kept_in : World → Log → Fact → Fact
kept_in u log c = joined (known_at u log.known (slot_of c)) c

-- What the step of c by this rule is met with, where that stood on its slot: that; or nothing,
-- where c isn't given, and is what is kept.
abbrev pub IsMet : ℕ → Option Fact → Fact → Option Fact → Type 0
IsMet rule o c met = (met ≡ o) ⊎ ((given_of rule ≡ None) × (met ≡ None) × (joined o c ≡ c))

-- The number of the step that the step of c is met with, where that stood in the row of its slot;
-- or nothing, where c isn't given, and is as strong.
abbrev pub IsMetBy : ℕ → Option Cited → Fact → Option ℕ → Type 0
IsMetBy rule found c with = (with ≡ number_of found)
    ⊎ ((given_of rule ≡ None) × (with ≡ None)
    × ((row : Cited) × (found ≡ Some row) × IsStronger c row.fact))

-- One step more, and what is kept stands in its row with the step's number.
pub record IsStep (u : World) (old : Log) (rule arg : ℕ) (premises : List ℕ) (c : Fact)
    (new : Log) : Type 0 where
  pub met : Option Fact
  pub met_is : IsMet rule (known_at u old.known (slot_of c)) c met
  pub steps : new.steps.items ≡ old.steps.items ++ coming rule arg premises met
      (place_in u old.known (slot_of c)) c ∷ []
  pub here : cited_at u new.known (slot_of (kept_in u old c))
      ≡ Some (record { fact = kept_in u old c; number = old.first + length old.steps.items })
  pub others : (s : Slot) → s ≢ slot_of (kept_in u old c)
      → cited_at u new.known s ≡ cited_at u old.known s
  pub count : length new.known.rows.items ≡ length old.known.rows.items
  pub unsaid : new.known.closed ≡ false
  pub first : new.first ≡ old.first

-- What is known was as strong, and nothing changes; or there is one step more.
abbrev pub Comes : World → Log → ℕ → ℕ → List ℕ → Fact → Log → Type 0
Comes u old rule arg premises c new =
    ((g : Fact) × (known_at u old.known (slot_of c) ≡ Some g) × IsStronger g c × (new ≡ old))
    ⊎ IsStep u old rule arg premises c new

-- ---- sections
-- The log's steps stand behind s, in a section with this piece: they are accepted and have room in
-- their fields, and each fact that is known has its step.
pub record InSection (u : World) (cut : Option Fact) (s : Numbered) (log : Log) : Type 0 where
  pub below : AreBelow s
  pub next : s.next ≡ log.first
  pub traced : IsTraced (givens_of (setting_of u) u.hints cut) s log.steps.items
      (known_at u log.known) (place_in u log.known)
  pub fields : HaveFields log.steps.items

-- Behind the log's steps each of these facts may be cited by its step.
abbrev pub CanCite : World → Numbered → Log → Known → Type 0
CanCite u s log now = ArePlaces (behind s log.steps.items) (known_at u now) (place_in u now)

-- Wherever the steps of the one log stand, those of the other do.
abbrev pub GoesOn : World → Log → Log → Type 0
GoesOn u old new = (cut : Option Fact) (s : Numbered)
    → InSection u cut s old → InSection u cut s new

-- The same, where these facts may be cited, and they still may.
abbrev pub GoesOnFrom : World → Known → Log → Log → Type 0
GoesOnFrom u now old new = (cut : Option Fact) (s : Numbered) → InSection u cut s old
    → CanCite u s old now → InSection u cut s new × CanCite u s new now

-- So many steps more at most, in every section where they may stand.
pub record IsLonger (u : World) (most : ℕ) (old new : Log) : Type 0 where
  pub goes_on : IsWritable (setting_of u) u.hints → GoesOn u old new
  pub rows : HasRows u new.known
  pub first : new.first ≡ old.first
  pub few : length new.steps.items ≤ length old.steps.items + most

-- It is by the instance, from what is known now.
pub record IsSource (u : World) (now : Known) (i : Instance) (source : Source) : Type 0 where
  pub rule : source.rule ≡ i.rule
  pub arg : source.arg ≡ i.arg
  pub premises : source.premises ≡ map (place_in u now) i.premises

-- how many premises the instance has beyond four
abbrev pub more_by : World → Found → ℕ
more_by u found = beyond_in (slice_get u.instances found.instance)

-- A conclusion from what is known now came, by one step at most.
pub record IsComeBy (u : World) (now : Known) (found : Found) (old new : Log) : Type 0 where
  pub improves : (k : Fact) × Improves (known_at u old.known) (known_at u new.known) found.fact k
  pub goes_on : IsWritable (setting_of u) u.hints → GoesOnFrom u now old new
  pub rows : HasRows u new.known
  pub adds : AddsSteps u now (more_by u found) old new
  pub first : new.first ≡ old.first
  pub few : length new.steps.items ≤ length old.steps.items + 1

-- The conclusions that give the ends of the slot with this place came, by two steps at most, or one
-- where the slot has one end alone.
pub record IsSlotWritten (u : World) (now : Known) (p : ℕ) (e : Ends) (old new : Log) : Type 0 where
  pub one : (¬ IsWide (length u.nodes) p)
      → (k : Fact) × Improves (known_at u old.known) (known_at u new.known) e.low.fact k
  pub both : IsWide (length u.nodes) p
      → (mid : At) × (k : Fact) × (m : Fact) × Improves (known_at u old.known) mid e.low.fact k
      × Improves mid (known_at u new.known) e.high.fact m
  pub goes_on : IsWritable (setting_of u) u.hints → GoesOnFrom u now old new
  pub rows : HasRows u new.known
  pub adds : AddsSteps u now (more_by u e.low + more_by u e.high) old new
  pub first : new.first ≡ old.first
  pub two : length new.steps.items ≤ length old.steps.items + 2
  pub single : (¬ IsWide (length u.nodes) p) → length new.steps.items ≤ length old.steps.items + 1

-- The conclusions of a whole round from what is known now came, and these slots changed at most.
pub record IsRound (u : World) (now : Known) (old new : Log) (changed : List Placed) : Type 0 where
  pub ahead : IsAhead (setting_of u) (known_at u now) (known_at u new.known) AllSeen
  pub listed : known_at u new.known slot.Void ≡ None
      → IsListed (slots_of changed) (known_at u now) (known_at u new.known)
  pub placed : known_at u new.known slot.Void ≡ None → (p : Placed) → Contains changed p
      → IsPlaced (length u.nodes) u.pairs p
  pub goes_on : IsWritable (setting_of u) u.hints → GoesOnFrom u now old new
  pub rows : HasRows u new.known
  pub adds : AddsSteps u now (2 * beyond_four u.instances) old new
  pub first : new.first ≡ old.first
  pub few : length new.steps.items ≤ length old.steps.items + 8192
