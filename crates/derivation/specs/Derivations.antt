-- Derivations of facts, and the best facts of a height.
use Rattle.std.specs.Prelude.{◌≡◌, ℕ, suc, List, [], ◌∷◌, Option, Some, None, slice_get}
use Rattle.fx_model.specs.declared.Node.{Node}
use Rattle.facts.specs.declared.fact.Fact.{Fact}
use Rattle.facts.specs.declared.fact.Slot.{Slot}
use Rattle.facts.specs.declared.fact.Slot.TheVariants as slot
use Rattle.facts.specs.Order.{slot_of, IsStronger, meet_of}
use Rattle.facts.specs.declared.instance.Instance.{Instance}
use Rattle.derivation.specs.Lists.{RuleList, shrinking, no_multiple}

-- What the derivations of a script use: the list of rules, the nodes, the hypotheses as facts, and
-- the instances of rules.
pub record Setting : Type 0 where
  pub rules : RuleList
  pub nodes : List Node
  pub hypotheses : List Fact
  pub instances : List Instance

-- A derivation of the fact, of height at most h. Its leaves are given facts. Its inner nodes are
-- instances of rules, of height 1 above their premises, and meets of two facts, of height 0.
mutual
  pub data Derives (u : Setting) (Given : Fact → Type 0) : ℕ → Fact → Type 0 where
    given : {h : ℕ} {f : Fact} → Given f → Derives u Given h f
    drawn : {h : ℕ} {f : Fact} {ps : List Fact} (k : ℕ) (i : Instance)
        → slice_get u.instances k ≡ Some i
        → DeriveEach u Given h i.premises ps → u.rules i.rule i.arg ps i.target ≡ Some f
        → Derives u Given (suc h) f
    met : {h : ℕ} {f : Fact} (a b : Fact) → Derives u Given h a → Derives u Given h b
        → meet_of a b ≡ Some f → Derives u Given h f

  -- a derivation for each premise, slot by slot
  pub data DeriveEach (u : Setting) (Given : Fact → Type 0) : ℕ → List Slot
      → List Fact → Type 0 where
    none : {h : ℕ} → DeriveEach u Given h [] []
    next : {h : ℕ} {ss : List Slot} {ps : List Fact} (s : Slot) (p : Fact)
        → slot_of p ≡ s → Derives u Given h p
        → DeriveEach u Given h ss ps → DeriveEach u Given h (s ∷ ss) (p ∷ ps)

-- A table: the fact that it has on each slot.
abbrev pub At : Type 0
At = Slot → Option Fact

-- The table has a fact that is as strong as this one, or stronger, on its slot.
abbrev pub Beats : At → Fact → Type 0
Beats at f = (g : Fact) × (at (slot_of f) ≡ Some g) × IsStronger g f

-- The table has the best facts of height at most h. Each of its facts is derived. Where VOID isn't,
-- each fact that is derived has one on its slot that is as strong or stronger; VOID is derived
-- exactly where the table has it.
pub record IsBest (u : Setting) (Given : Fact → Type 0) (h : ℕ) (at : At) : Type 0 where
  pub reached : (s : Slot) (f : Fact) → at s ≡ Some f → (slot_of f ≡ s) × Derives u Given h f
  pub least : at slot.Void ≡ None → (f : Fact) → Derives u Given h f → Beats at f

-- Beside each instance of the shrinking rule stands that of the rule for "no multiple is left",
-- with the same premises.
abbrev pub IsClosed : List Instance → Type 0
IsClosed instances = (k : ℕ) (i : Instance) → slice_get instances k ≡ Some i → i.rule ≡ shrinking →
    (j : ℕ) × (e : Instance) × (slice_get instances j ≡ Some e) × (e.rule ≡ no_multiple)
    × (e.arg ≡ 0) × (e.target ≡ slot.Void) × (e.premises ≡ i.premises)
