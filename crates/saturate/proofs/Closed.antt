-- Tables from which the instances conclude nothing more, and those that differ from one on a slot.
use Rattle.std.specs.Prelude.{◌≡◌, ◌≢◌, ◌⊎◌, ◌<◌, ℕ, Bool, true, List, Option, Some, None, IfNone}
use Rattle.std.specs.Prelude.{IfSome, slice_get, Contains, refl}
use Rattle.std.proofs.Common.{sym, ◌∙◌, ap, subst, inl, inr, arith}
use Rattle.fx_model.specs.declared.ExprId.{ExprId}
use Rattle.pair_closure.specs.Closure.{Pair}
use Rattle.facts.specs.declared.fact.Fact.TheVariants as fact
use Rattle.facts.specs.declared.fact.Slot.{Slot}
use Rattle.facts.specs.declared.fact.Slot.TheVariants as slot
use Rattle.facts.specs.Order.{slot_of}
use Rattle.facts.proofs.Laws.{IsStronger-trans}
use Rattle.derivation.specs.Derivations.{Setting, At}
use Rattle.derivation.specs.Rounds.{concluded, IsSame, IsAhead, AllSeen, Grows, InTable, IsBestFrom}
use Rattle.derivation.proofs.Heights.{best_start, best_void}
use Rattle.derivation.proofs.Changes.{agrees_all, true_false}
use Rattle.derivation.specs.Counts.{IsRisen}
use Rattle.derivation.specs.Parts.{slot_cases}
use Rattle.derivation.proofs.Parts.{none_some}
use Rattle.rule_universe.specs.Places.{IsPlace}
use Rattle.saturate.specs.declared.kept.Table.{Table}
use Rattle.saturate.specs.Tables.{fact_at, IsShaped}
use Rattle.saturate.proofs.Places.{fact_at_proper}
use Rattle.saturate.specs.Closed.{IsClosedUnder, IsMarked}

-- ---- the word that a table is closed
said_same : (t : Table) (b : Bool) → IsSame (fact_at t) (fact_at (record t { closed = b }))
said_same t b (slot.Bnd x) = refl
said_same t b (slot.Abs x) = refl
said_same t b (slot.Rel x y) = refl
said_same t b (slot.Fix x) = refl
said_same t b (slot.Nzr x) = refl
said_same t b slot.Void = refl

-- the facts stay
pub said_at : (t : Table) (b : Bool) → fact_at t ≡ fact_at (record t { closed = b })
said_at t b = λ k s. sym (said_same t b s) k

pub said_shaped : (t : Table) (b : Bool) → IsShaped t (record t { closed = b })
said_shaped t b =
    record { bnd = refl; abs = refl; pairs = refl; rel = refl; fix = refl; nzr = refl }

-- ---- a whole round that changes nothing
pub closed_same : (u : Setting) (at new : At) → IsAhead u at new AllSeen → IsSame at new →
    at slot.Void ≡ None → IsClosedUnder u at
closed_same u at new a same v k i c e x =
    let b = a.beats (same slot.Void ∙ v) k i c e tt x in
    (b.0, sym (same (slot_of c)) ∙ b.1, b.2)

-- The table has VOID.
pub void_marked : (u : Setting) (t : Table) → t.void ≡ true → IsMarked u t
void_marked u t e said v = absurd (none_some fact.Void (fact_at t slot.Void) v (rw e refl))

-- With VOID the table is best as it is.
pub void_best : (u : Setting) (t : Table) (height : ℕ) → t.void ≡ true →
    IsBestFrom u (fact_at t) height (fact_at t)
void_best u t height e =
    best_void u (InTable (fact_at t)) 0 height (fact_at t) fact.Void
    (best_start u (fact_at t) (fact_at_proper t)) (rw e refl) (omega arith)

-- ---- a table that differs from a closed one on one slot
pub differs_at : (changed : Option Slot) (old new : Table) → IfNone changed (new ≡ old) →
    IfSome changed (λ t. (s : Slot) → s ≢ t → fact_at new s ≡ fact_at old s) →
    (s : Slot) → (changed ≡ Some s) ⊎ (fact_at new s ≡ fact_at old s)
differs_at None old new n o s = inr (ap (λ t. fact_at t s) n)
differs_at (Some t) old new n o s =
    elim (slot_cases s t) [ inl e ↦ inl (ap Some (sym e)) | inr d ↦ inr (o s d) ]

-- The slot that changed is the variable's, where VOID isn't known.
pub changed_place : (n : ℕ) (pairs : List Pair) (x : ExprId) (changed : Option Slot)
    (old new : At) → x.0 < n → old slot.Void ≡ None → new slot.Void ≡ None →
    IfSome changed (λ t. (t ≡ slot.Bnd x) ⊎ (t ≡ slot.Void)) →
    IfSome changed (λ t. IsRisen (old t) (new t)) →
    IfSome changed (λ t. IsPlace n pairs t x.0)
changed_place n pairs x None old new h v w is risen = tt
changed_place n pairs x (Some t) old new h v w is risen =
    elim is [
      | inl e ↦ subst (λ s. IsPlace n pairs s x.0) (sym e) (h, refl)
      | inr e ↦
          let r : IsRisen (old slot.Void) (new slot.Void) =
          subst (λ s. IsRisen (old s) (new s)) e risen in
          absurd (subst (λ o. IsRisen None o) w
          (subst (λ o. IsRisen o (new slot.Void)) v r))
    ]
