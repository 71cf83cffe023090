-- Why the lists that a script gives make a universe.
use Rattle.std.specs.Prelude.{◌≡◌, ◌<◌, ◌≤◌, ℕ, zero, suc, List, [], ◌∷◌, Some, length, slice_get}
use Rattle.std.specs.Prelude.{slice_index_or, Contains, refl}
use Rattle.std.specs.List.{AllByRecursion}
use Rattle.std.proofs.Common.{arith, subst}
use Rattle.fx_model.specs.Expression.{IsOrdered}
use Rattle.pair_closure.specs.Reached.{Has, IsEachOnce}
use Rattle.pair_closure.specs.Closure.{AreKnown}
use Rattle.facts.specs.declared.fact.Fact.{Fact}
use Rattle.facts.specs.declared.fact.Slot.TheVariants as slot
use Rattle.facts.specs.declared.hint.HintRow.{HintRow}
use Rattle.facts.specs.Order.{slot_of}
use Rattle.facts.specs.declared.instance.Instance.{Instance}
use Rattle.rule_instances.specs.Slots.{rule}
use Rattle.rule_instances.specs.Instances.{IsInstance}
use Rattle.rule_instances.proofs.Beside.{shrinking_beside}
use Rattle.derivation.specs.Derivations.{IsClosed}
use Rattle.rule_universe.specs.Worlds.{World, IsWhole, HasSlot}
use Rattle.rule_universe.specs.Licensed.{RowIsKnown}
use Rattle.rule_universe.proofs.Licensed.{instance_slots}

-- What `IsWhole` follows from: expressions in order, pairs of expressions, hints about expressions,
-- exactly the instances of these.
pub record IsLicensed (u : World) : Type 0 where
  pub ordered : IsOrdered u.nodes
  pub known : AreKnown u.nodes u.pairs
  pub once : IsEachOnce u.pairs
  pub few : length u.pairs ≤ 1024
  pub rows : (k : ℕ) (h : HintRow) → slice_get u.hints k ≡ Some h → RowIsKnown (length u.nodes) h
  pub only : (i : Instance) → Has u.instances i → IsInstance u.nodes (Has u.pairs) u.hints i
  pub each : (i : Instance) → IsInstance u.nodes (Has u.pairs) u.hints i → Has u.instances i
  pub hypotheses : (k : ℕ) (f : Fact) → slice_get u.hypotheses k ≡ Some f → HasSlot u (slot_of f)

all_at : {A : Type 0} (P : A → Type 0) (xs : List A) → AllByRecursion P xs → (x : A) (k : ℕ)
    → k < length xs → slice_index_or xs k x ≡ x → P x
all_at P [] h x k l e = absurd (omega arith)
all_at P (y ∷ ys) h x zero l e = subst P e h.0
all_at P (y ∷ ys) h x (suc k) l e = all_at P ys h.1 x k (omega arith) e

pub all_contained : {A : Type 0} (P : A → Type 0) (xs : List A) → AllByRecursion P xs
    → (x : A) → Contains xs x → P x
all_contained P xs h x c = all_at P xs h x c.0 c.1 c.2

module _ (u : World) (l : IsLicensed u) where
  closed : IsClosed u.instances
  closed k i e s =
      let beside = l.each (rule 90 i.premises slot.Void)
      (shrinking_beside u.nodes (Has u.pairs) u.hints i (l.only i (k, e)) s) in
      (beside.0, rule 90 i.premises slot.Void, beside.1, refl, refl, refl, refl)

  pub licensed_whole : IsWhole u
  licensed_whole = record {
    once = l.once;
    few = l.few;
    closed = closed;
    targets = λ k i e.
        (instance_slots u.nodes u.pairs l.ordered l.known u.hints l.rows i (l.only i (k, e))).0;
    premises = λ k i e s c. all_contained (HasSlot u) i.premises
        (instance_slots u.nodes u.pairs l.ordered l.known u.hints l.rows i (l.only i (k, e))).1 s c;
    hypotheses = l.hypotheses;
  }
