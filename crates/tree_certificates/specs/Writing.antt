-- When what derivations use can be written as steps that the checker accepts.
use Rattle.std.specs.Prelude.{◌≡◌, ◌<◌, ◌≤◌, ◌^◌, ⊤, ℕ, List, length, Option, Some, slice_get}
use Rattle.fx_model.specs.declared.Node.{Node}
use Rattle.facts.specs.declared.fact.Fact.{Fact}
use Rattle.facts.specs.declared.fact.Slot.{Slot}
use Rattle.facts.specs.declared.fact.Fact.TheVariants as fact
use Rattle.facts.specs.declared.fact.Slot.TheVariants as slot
use Rattle.facts.specs.declared.hint.HintRow.{HintRow}
use Rattle.facts.specs.declared.instance.Instance.{Instance}
use Rattle.facts.specs.Order.{slot_of}
use Rattle.theorem_list.specs.Concludes.{concludes}
use Rattle.derivation.specs.Lists.{RuleList, IsOnTargetList}
use Rattle.derivation.specs.Derivations.{Setting}
use Rattle.cert_checker.specs.declared.given.Given.TheVariants.{Hypothesis}
use Rattle.cert_checker.specs.Given.{given_number}
use Rattle.cert_checker.specs.Steps.{Givens}

-- each node of the slot is in the list
abbrev pub IsSlotKnown : List Node → Slot → Type 0
IsSlotKnown nodes (slot.Bnd x) = x.0 < length nodes
IsSlotKnown nodes (slot.Abs x) = x.0 < length nodes
IsSlotKnown nodes (slot.Rel x y) = (x.0 < length nodes) × (y.0 < length nodes)
IsSlotKnown nodes (slot.Fix x) = x.0 < length nodes
IsSlotKnown nodes (slot.Nzr x) = x.0 < length nodes
IsSlotKnown nodes slot.Void = ⊤

-- A rule that gives VOID on a target gives it also where VOID itself is aimed at.
abbrev pub IsVoidFitting : RuleList → Type 0
IsVoidFitting rules = (number arg : ℕ) (premises : List Fact) (target : Slot)
    → rules number arg premises target ≡ Some fact.Void
    → rules number arg premises slot.Void ≡ Some fact.Void

-- Rules have numbers below those of what steps are given.
abbrev pub IsNumberedLow : RuleList → Type 0
IsNumberedLow rules = (number arg : ℕ) (premises : List Fact) (target : Slot) (f : Fact)
    → rules number arg premises target ≡ Some f → number < given_number Hypothesis

-- What rules give comes from premises that a step has room for.
abbrev pub IsFromFew : RuleList → Type 0
IsFromFew rules = (number arg : ℕ) (premises : List Fact) (target : Slot) (f : Fact)
    → rules number arg premises target ≡ Some f → length premises ≤ 65535

-- What a step may draw on in a section with this piece.
abbrev pub givens_of : Setting → List HintRow → Option Fact → Givens
givens_of u hints piece =
    record { facts = u.hypotheses; hints = hints; nodes = u.nodes; piece = piece }

-- Derivations use the checker's rules, over these rows of hints, and facts on nodes that it knows;
-- and their numbers have room in steps.
pub record IsWritable (u : Setting) (hints : List HintRow) : Type 0 where
  pub listed : (number arg : ℕ) (premises : List Fact) (target : Slot)
      → u.rules number arg premises target ≡ concludes u.nodes hints number arg premises target
  pub on_target : IsOnTargetList u.rules
  pub void_fits : IsVoidFitting u.rules
  pub low : IsNumberedLow u.rules
  pub counted : IsFromFew u.rules
  pub args : (k : ℕ) (i : Instance) → slice_get u.instances k ≡ Some i → i.arg < 2 ^ 16
  pub targets : (k : ℕ) (i : Instance) → slice_get u.instances k ≡ Some i
      → IsSlotKnown u.nodes i.target
  pub hypotheses : (k : ℕ) (f : Fact) → slice_get u.hypotheses k ≡ Some f
      → IsSlotKnown u.nodes (slot_of f)
  pub few_hypotheses : length u.hypotheses ≤ 2 ^ 16
  pub few_nodes : length u.nodes < 2 ^ 16
