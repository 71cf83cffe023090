-- What rounds begin with below a closed parent, and the word that what is known is closed.
use Rattle.std.specs.Prelude.{◌≡◌, ◌≢◌, ◌⊎◌, ℕ, Bool, true, Option, Some, None, IfSome, refl}
use Rattle.std.proofs.Common.{sym, ◌∙◌, ap, subst, inl, inr}
use Rattle.fx_model.specs.declared.ExprId.{ExprId}
use Rattle.interval.specs.declared.interval.Interval.{Interval}
use Rattle.facts.specs.declared.fact.Fact.{Fact}
use Rattle.facts.specs.declared.fact.Fact.TheVariants as fact
use Rattle.facts.specs.declared.fact.Slot.{Slot}
use Rattle.facts.specs.declared.fact.Slot.TheVariants as slot
use Rattle.facts.specs.Order.{slot_of}
use Rattle.facts.proofs.Laws.{IsStronger-slot}
use Rattle.derivation.specs.Derivations.{Setting, At}
use Rattle.derivation.specs.Rounds.{Improves}
use Rattle.derivation.specs.Parts.{slot_cases}
use Rattle.derivation.proofs.Parts.{none_some}
use Rattle.derivation.proofs.Steps.{improved_stronger, improved_grows, old_no_void}
use Rattle.rule_universe.specs.Worlds.{World}
use Rattle.saturate.specs.Closed.{IsClosedUnder, IsQuietBut}
use Rattle.saturate.proofs.ClosedLaws.{quiet_below}
use Rattle.cert_checker.specs.Open.{Numbered}
use Rattle.box_trace.specs.declared.log.Log.{Log}
use Rattle.box_trace.specs.Tables.{IsMarked}
use Rattle.box_trace.specs.Logs.{InSection, IsLonger}
use Rattle.box_trace.specs.Rounds.{HasRounds}

-- what holds where there is one
pub if_some : {A : Type 0} {P : A → Type 0} (o : Option A) → ((x : A) → o ≡ Some x → P x)
    → IfSome o P
if_some None h = tt
if_some (Some x) h = h x refl

-- and back
pub some_is : {A : Type 0} (P : A → Type 0) (o : Option A) (x : A) → o ≡ Some x → IfSome o P
    → P x
some_is P o x e w = subst (λ p. IfSome p P) e w

-- ---- a box below a closed one
-- Where the piece came to what is closed, only instances that take the variable's interval may
-- conclude more.
pub quiet_child : (u : Setting) (x : ExprId) (i : Interval) (at new : At) (k : Fact)
    → (at slot.Void ≡ None → IsClosedUnder u at) → Improves at new (fact.Bnd x i) k
    → new slot.Void ≡ None → IsQuietBut u (Some (slot.Bnd x)) new
quiet_child u x i at new k closed w v =
    quiet_below u (Some (slot.Bnd x)) at new (closed (old_no_void at new (fact.Bnd x i) k w v))
    (improved_grows at new (fact.Bnd x i) k w v)
    (λ s. elim (slot_cases s (slot.Bnd x)) [
      | inl e ↦ inl (ap Some (sym e))
      | inr d ↦ inr (w.written.others s (apart s d))
    ])
  where
    apart : (s : Slot) → s ≢ slot.Bnd x → s ≢ slot_of k
    apart s d e =
        elim (IsStronger-slot k (fact.Bnd x i) (improved_stronger at new (fact.Bnd x i) k w)) [
          | inl z ↦ absurd (none_some k (new slot.Void) v
              (ap new (sym (ap slot_of z)) ∙ w.written.here))
          | inr q ↦ d (e ∙ q)
        ]

-- ---- the word
-- A log of which it's said whether what is known is closed.
abbrev pub said : Bool → Log → Log
said b log = record log { known = record log.known { closed = b } }

said_section : (u : World) (cut : Option Fact) (s : Numbered) (b : Bool) (log : Log)
    → InSection u cut s log → InSection u cut s (said b log)
said_section u cut s b log i =
    record { below = i.below; next = i.next; traced = i.traced; fields = i.fields }

pub said_longer : (u : World) (most : ℕ) (b : Bool) (old new : Log)
    → IsMarked u (said b new).known → IsLonger u most old new → IsLonger u most old (said b new)
said_longer u most b old new marked l = record {
  goes_on = λ w cut s i. said_section u cut s b new (l.goes_on w cut s i);
  rows = record { count = l.rows.count; proper = l.rows.proper; marked = marked };
  first = l.first;
  few = l.few;
}

pub said_rounds : (u : World) (height : ℕ) (b : Bool) (old new : Log) → HasRounds u height old new
    → HasRounds u height old (said b new)
said_rounds u height b old new h =
    record { rows = h.rows; steps = h.steps; rounds = h.rounds; known = h.known }
