-- The steps of a box, round by round.
use Rattle.std.specs.Prelude.{◌≡◌, ◌≢◌, ◌⊎◌, ◌<◌, ◌≤◌, ◌+◌, ◌*◌, ◌-◌, ℕ, zero, suc, List, [], ◌∷◌}
use Rattle.std.specs.Prelude.{◌++◌, length, Option, Some, None, slice_get}
use Rattle.std.specs.Borrow.{Bor}
use Rattle.std.specs.List.{AllByRecursion}
use Rattle.fx_model.specs.declared.Node.{Node}
use Rattle.fx_model.specs.declared.Node.TheVariants.{Var}
use Rattle.facts.specs.declared.fact.Slot.{Slot}
use Rattle.facts.specs.declared.instance.Instance.{Instance}
use Rattle.rule_universe.specs.Worlds.{World}
use Rattle.rule_universe.specs.Sizes.{beyond_four}
use Rattle.cert_bytes.specs.declared.item.StepRow.{StepRow}
use Rattle.cert_checker.specs.Given.{given_of}
use Rattle.box_trace.specs.declared.known.Known.{Known}
use Rattle.box_trace.specs.declared.log.Log.{Log}
use Rattle.box_trace.specs.declared.tracing.Traced.{Traced}
use Rattle.box_trace.specs.Tables.{step_at}

-- ---- premises
-- how many premises the steps have together
abbrev pub premises_in : List StepRow → ℕ
premises_in [] = 0
premises_in (row ∷ rows) = length row.premises + premises_in rows

-- how many premises an instance, if there is one, has beyond four
abbrev pub beyond_in : Option Instance → ℕ
beyond_in None = 0
beyond_in (Some i) = length i.premises - 4

-- how many premises the steps of a round may have: four each, and twice what instances have beyond
abbrev pub premises_a_round : World → ℕ
premises_a_round u = 4 * 8192 + 2 * beyond_four u.instances

-- ---- where premises stand
-- the number is that of the step of a fact that is known there
abbrev pub IsStepIn : World → Known → ℕ → Type 0
IsStepIn u k n = (s : Slot) × (step_at u k s ≡ Some n)

-- the same of what is known at the parent, if there is one
abbrev pub IsOfParent : World → Option (Bor Known) → ℕ → Type 0
IsOfParent u None n = ⊥
IsOfParent u (Some parent) n = IsStepIn u parent.now n

-- The number is one of these, or that of an own step before the one with the number `end`; the
-- first own step has the number `first`.
abbrev pub IsEarlier : (ℕ → Type 0) → ℕ → ℕ → ℕ → Type 0
IsEarlier Given first end n = Given n ⊎ ((first ≤ n) × (n < end))

-- The step is by an instance of the universe: by its rule, with its argument, and with a premise
-- for each of its premises, which is a step with one of these numbers.
pub record IsByInstance (u : World) (Before : ℕ → Type 0) (row : StepRow) : Type 0 where
  pub number : ℕ
  pub instance : Instance
  pub there : slice_get u.instances number ≡ Some instance
  pub rule : row.rule ≡ instance.rule
  pub arg : row.arg ≡ instance.arg
  pub as_many : length row.premises ≡ length instance.premises
  pub from : AllByRecursion Before row.premises

-- ---- rounds
-- Each of the steps, the first of which has the number `next`, is by an instance, from steps of
-- before itself.
abbrev pub AreFromEarlier : World → (ℕ → Type 0) → ℕ → ℕ → List StepRow → Type 0
AreFromEarlier u Given first next [] = Unit {0}
AreFromEarlier u Given first next (row ∷ rows) =
    IsByInstance u (IsEarlier Given first next) row × AreFromEarlier u Given first (suc next) rows

-- The steps of one round, from the number `next` on: at most 8,192, and so many premises; each by
-- an instance, from steps of before itself.
pub record IsRoundOf (u : World) (Given : ℕ → Type 0) (first next : ℕ)
    (rows : List StepRow) : Type 0 where
  pub few : length rows ≤ 8192
  pub premises : premises_in rows ≤ premises_a_round u
  pub by : AreFromEarlier u Given first next rows

-- The steps, from the number `start` on, come in so many rounds at most, one after the other.
abbrev pub AreRounds : World → (ℕ → Type 0) → ℕ → ℕ → ℕ → List StepRow → Type 0
AreRounds u Given first start zero rows = rows ≡ []
AreRounds u Given first start (suc n) rows =
    (before : List StepRow) × (last : List StepRow) × (rows ≡ before ++ last)
    × AreRounds u Given first start n before
    × IsRoundOf u Given first (start + length before) last

-- ---- what is given
-- The step takes no premises: it is given, as a hypothesis, the line of a variable, or a piece.
abbrev pub IsGivenStep : StepRow → Type 0
IsGivenStep row = (given_of row.rule ≢ None) × (row.premises ≡ [])

-- at most so many steps, each of them given
abbrev pub AreGiven : ℕ → List StepRow → Type 0
AreGiven most rows = (length rows ≤ most) × AllByRecursion IsGivenStep rows

-- how many of the nodes are variables
abbrev pub one_if_variable : Node → ℕ
one_if_variable (Var v) = 1
one_if_variable _ = 0

-- How many of the nodes are variables.
abbrev pub variable_count : List Node → ℕ
variable_count [] = 0
variable_count (n ∷ nodes) = one_if_variable n + variable_count nodes

-- how many steps are given at most: one for each hypothesis and variable, or below a parent the
-- piece's
abbrev pub most_given : World → Option (Bor Known) → ℕ
most_given u None = length u.hypotheses + variable_count u.nodes
most_given u (Some parent) = 1

-- ---- a box
-- The steps of a box, from the number `first` on: what is given, and then the rounds. Premises are
-- own steps, or have one of these numbers.
pub record AreByRounds (u : World) (Given : ℕ → Type 0)
    (most height first : ℕ) (steps : List StepRow) : Type 0 where
  pub given : List StepRow
  pub later : List StepRow
  pub steps_are : steps ≡ given ++ later
  pub given_are : AreGiven most given
  pub rounds : AreRounds u Given first (first + length given) height later

-- Those of the root, or below a parent.
abbrev pub AreItsRounds : World → Option (Bor Known) → ℕ → ℕ → List StepRow → Type 0
AreItsRounds u parent height first steps =
    AreByRounds u (IsOfParent u parent) (most_given u parent) height first steps

-- The steps of a box below one with these facts: the piece's at most, and then the rounds.
abbrev pub AreRoundsBelow : World → Known → ℕ → ℕ → List StepRow → Type 0
AreRoundsBelow u parent height first steps = AreByRounds u (IsStepIn u parent) 1 height first steps

-- The same of what was traced.
abbrev pub IsByRounds : World → Option (Bor Known) → ℕ → ℕ → Traced → Type 0
IsByRounds u parent height first t = AreItsRounds u parent height first t.steps.items

-- ---- logs
-- The steps that come are by instances, from what is known now; they have four premises each, and
-- so many more together. What is known has its steps among the old ones and these.
pub record AddsSteps (u : World) (now : Known) (more : ℕ) (old new : Log) : Type 0 where
  pub rows : List StepRow
  pub steps : new.steps.items ≡ old.steps.items ++ rows
  pub premises : premises_in rows ≤ 4 * length rows + more
  pub by : AllByRecursion (IsByInstance u (IsStepIn u now)) rows
  pub known : (n : ℕ) → IsStepIn u new.known n
      → IsEarlier (IsStepIn u old.known) (old.first + length old.steps.items)
      (old.first + length new.steps.items) n

-- The log's steps are given, at most so many, and what is known has its steps among them and these.
pub record BeginsBy (u : World) (Given : ℕ → Type 0) (most first : ℕ) (log : Log) : Type 0 where
  pub given : AreGiven most log.steps.items
  pub known : (n : ℕ) → IsStepIn u log.known n
      → IsEarlier Given first (first + length log.steps.items) n

-- The root's log has at most so many steps, all of them given, and what is known has its steps
-- among them.
abbrev pub BeginsRootBy : World → ℕ → ℕ → Log → Type 0
BeginsRootBy u most first log = BeginsBy u (IsOfParent u None) most first log

-- The steps that come are those of so many rounds at most, and what is known has its steps among
-- the old ones and these.
pub record HasRounds (u : World) (height : ℕ) (old new : Log) : Type 0 where
  pub rows : List StepRow
  pub steps : new.steps.items ≡ old.steps.items ++ rows
  pub rounds : AreRounds u (IsStepIn u old.known) (old.first + length old.steps.items)
      (old.first + length old.steps.items) height rows
  pub known : (n : ℕ) → IsStepIn u new.known n
      → IsEarlier (IsStepIn u old.known) (old.first + length old.steps.items)
      (old.first + length new.steps.items) n
