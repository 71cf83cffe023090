-- What comes of what an instance concludes.
use Rattle.std.specs.Prelude.{◌≡◌, ◌≢◌, ◌⊎◌, ℕ, List, [], ◌∷◌, ◌++◌, Option, Some, None, Contains}
use Rattle.std.specs.Prelude.{refl}
use Rattle.std.proofs.Common.{sym, ◌∙◌, ap, subst, inl, inr, rules}
use Rattle.std.proofs.lemmas.List.{map-append}
use Rattle.std.proofs.lemmas.List.Elements.{Contains-push, Contains-push_cases}
use Rattle.facts.specs.declared.fact.Fact.{Fact}
use Rattle.facts.specs.declared.fact.Slot.{Slot}
use Rattle.facts.specs.declared.fact.Fact.TheVariants as fact
use Rattle.facts.specs.declared.fact.Slot.TheVariants as slot
use Rattle.facts.specs.Order.{slot_of, IsStronger, meet_of}
use Rattle.facts.proofs.Laws.{IsStronger-slot, IsStronger-trans}
use Rattle.facts.proofs.Meets.{meet-IsMeet}
use Rattle.facts.specs.declared.instance.Instance.{Instance}
use Rattle.facts.proofs.CommonParts.{void_cases}
use Rattle.derivation.specs.Lists.{RuleList, IsOnTargetList}
use Rattle.derivation.specs.Derivations.{At}
use Rattle.derivation.specs.Rounds.{conclusion, Grows, IsKept, Improves}
use Rattle.derivation.specs.Changes.{IsListed}
use Rattle.derivation.specs.Counts.{IsRisen}
use Rattle.derivation.proofs.Counts.{risen_after}
use Rattle.derivation.proofs.Parts.{conclusion_reads, stronger_slot}
use Rattle.derivation.specs.Parts.{slot_cases}
use Rattle.rule_universe.specs.declared.placed.Placed.{Placed}
use Rattle.rule_universe.specs.Placed.{slots_of}
use Rattle.saturate.specs.declared.kept.Table.{Table}
use Rattle.saturate.specs.Tables.{fact_at, HasPlace, IsFoundAt, IsAsStrong}
use Rattle.saturate.proofs.Places.{fact_at_proper}

-- ---- places
-- what a fact on another's slot, or VOID, finds
place_for : (t : Table) (k : Fact) (s : Slot) → (slot_of k ≡ s) ⊎ (k ≡ fact.Void) → HasPlace t s
    → HasPlace t (slot_of k)
place_for t k s w h = elim w [
  | inl e ↦ subst (HasPlace t) (sym e) h
  | inr v ↦ subst (λ f. HasPlace t (slot_of f)) (sym v) tt
]

pub meet_place : (t : Table) (g c k : Fact) → meet_of g c ≡ Some k → HasPlace t (slot_of c)
    → HasPlace t (slot_of k)
meet_place t g c k e h = place_for t k (slot_of c)
    (elim (IsStronger-slot k c (meet-IsMeet g c k e).right) [ inl v ↦ inr v | inr s ↦ inl s ]) h

-- where what a fact on another's slot, or VOID, finds its place
found_for : (t : Table) (k : Fact) (s : Slot) (p : ℕ) → (slot_of k ≡ s) ⊎ (k ≡ fact.Void)
    → IsFoundAt t s p → IsFoundAt t (slot_of k) p
found_for t k s p w h = elim w [
  | inl e ↦ subst (λ q. IsFoundAt t q p) (sym e) h
  | inr v ↦ subst (λ f. IsFoundAt t (slot_of f) p) (sym v) tt
]

pub meet_found : (t : Table) (g c k : Fact) (p : ℕ) → meet_of g c ≡ Some k
    → IsFoundAt t (slot_of c) p → IsFoundAt t (slot_of k) p
meet_found t g c k p e h = found_for t k (slot_of c) p
    (elim (IsStronger-slot k c (meet-IsMeet g c k e).right) [ inl v ↦ inr v | inr s ↦ inl s ]) h

-- the slot of what is kept
pub meet_slot : (g c k : Fact) → meet_of g c ≡ Some k
    → (slot_of k ≡ slot_of c) ⊎ (slot_of k ≡ slot.Void)
meet_slot g c k e = elim (IsStronger-slot k c (meet-IsMeet g c k e).right)
    [ inl v ↦ inr (ap slot_of v) | inr s ↦ inl s ]

-- the slot that an instance changes
pub changed_slot : (rules : RuleList) → IsOnTargetList rules
    → (at : At) (i : Instance) (c : Fact) (s : Slot) → conclusion rules at i ≡ Some c
    → (s ≡ slot_of c) ⊎ (s ≡ slot.Void) → (s ≡ i.target) ⊎ (s ≡ slot.Void)
changed_slot rules on_target at i c s e w =
    let r = conclusion_reads rules at i c e in
    elim w [
      | inr v ↦ inr v
      | inl q ↦ elim (on_target i.rule i.arg r.0 i.target c r.2)
          [ inl t ↦ inl (q ∙ t) | inr v ↦ inr (q ∙ ap slot_of v) ]
    ]

-- what is kept where what was there isn't as strong as what came
pub risen_kept : (t : Table) (g c k : Fact) → fact_at t (slot_of c) ≡ Some g → ¬ IsStronger g c
    → meet_of g c ≡ Some k → fact_at t slot.Void ≡ None → IsRisen (fact_at t (slot_of k)) (Some k)
risen_kept t g c k e n m no_void =
    let w = meet-IsMeet g c k m in
    elim (void_cases k) [
      | inl v ↦ subst (λ o. IsRisen o (Some k)) (sym (ap (fact_at t) (ap slot_of v) ∙ no_void)) tt
      | inr d ↦ subst (λ o. IsRisen o (Some k)) (sym (ap (fact_at t) (stronger_slot k c w.right d)
          ∙ e)) (w.left, λ s. n (IsStronger-trans g k c s w.right))
    ]

-- what is there is kept where it is as strong as what came
pub kept_strong : (t : Table) (c : Fact) → IsAsStrong (fact_at t (slot_of c)) c
    → (k : Fact) × Improves (fact_at t) (fact_at t) c k
kept_strong t c h = by_found (fact_at t (slot_of c)) refl h
  where
    by_found : (o : Option Fact) → fact_at t (slot_of c) ≡ o → IsAsStrong o c
        → (k : Fact) × Improves (fact_at t) (fact_at t) c k
    by_found None e s = absurd s
    by_found (Some g) e s = (
      g,
      record {
        kept = subst (λ o. IsKept o c g) (sym e) (inl (s, refl));
        written = record {
          here = ap (fact_at t) (fact_at_proper t (slot_of c) g e) ∙ e;
          others = λ s n. refl;
        };
      },
    )

pub not_strong : (t : Table) (g c : Fact) → fact_at t (slot_of c) ≡ Some g
    → ¬ IsAsStrong (fact_at t (slot_of c)) c → ¬ IsStronger g c
not_strong t g c e n s = n (subst (λ o. IsAsStrong o c) (sym e) s)

pub conclusion_place : (rules : RuleList) → IsOnTargetList rules
    → (at : At) (i : Instance) (c : Fact) (t : Table) → conclusion rules at i ≡ Some c
    → HasPlace t i.target → HasPlace t (slot_of c)
conclusion_place rules on_target at i c t e h =
    let r = conclusion_reads rules at i c e in
    place_for t c i.target (on_target i.rule i.arg r.0 i.target c r.2) h

pub conclusion_found : (rules : RuleList) → IsOnTargetList rules
    → (at : At) (i : Instance) (c : Fact) (t : Table) (p : ℕ) → conclusion rules at i ≡ Some c
    → IsFoundAt t i.target p → IsFoundAt t (slot_of c) p
conclusion_found rules on_target at i c t p e h =
    let r = conclusion_reads rules at i c e in
    found_for t c i.target p (on_target i.rule i.arg r.0 i.target c r.2) h

-- ---- what changed
-- what is pushed last is contained
pub pushed : (old new : List Slot) (t s : Slot) → new ≡ old ++ t ∷ [] → s ≡ t → Contains new s
pushed old new t s e d = subst (λ l. Contains l s) (sym e)
    (subst (λ r. Contains (old ++ t ∷ []) r) (sym d) (Contains-push old t))

pub pushed_cases : (old new : List Slot) (t s : Slot) → new ≡ old ++ t ∷ [] → Contains new s
    → Contains old s ⊎ (s ≡ t)
pushed_cases old new t s e w = elim (Contains-push_cases old t s (subst (λ l. Contains l s) e w))
    [ inl h ↦ inl h | inr d ↦ inr (sym d) ]

-- what changed before and now
pub listed_more : (before changed : List Slot) (at next new : At) → IsListed before at next
    → ((s : Slot) → Contains before s → Contains changed s) → IsListed changed next new
    → IsListed changed at new
listed_more before changed at next new l more m s =
    elim (m s) [
      | inl h ↦ inl h
      | inr e ↦ elim (l s) [ inl h ↦ inl (more s h) | inr d ↦ inr (e ∙ d) ]
    ]

-- what changed so far is stronger than at the start of the round
pub risen_more : (before changed : List Slot) (at next new : At) → Grows at next
    → ((s : Slot) → Contains before s → IsRisen (at s) (next s))
    → ((s : Slot) → Contains changed s → (Contains before s × (new s ≡ next s))
    ⊎ IsRisen (next s) (new s)) → (s : Slot) → Contains changed s → IsRisen (at s) (new s)
risen_more before changed at next new grows old more s w =
    elim (more s w) [
      | inl y ↦ subst (IsRisen (at s)) (sym y.1) (old s y.0)
      | inr r ↦ risen_after (at s) (next s) (new s) (λ f e. grows s f e) r
    ]

-- the slot that was pushed rose, and the others are as they were
pub risen_pushed : (before changed : List Slot) (t : Slot) (next new : At)
    → changed ≡ before ++ t ∷ [] → ((s : Slot) → s ≢ t → new s ≡ next s) → IsRisen (next t) (new t)
    → (s : Slot) → Contains changed s
    → (Contains before s × (new s ≡ next s)) ⊎ IsRisen (next s) (new s)
risen_pushed before changed t next new e others r s w =
    elim (slot_cases s t) [
      | inl q ↦ inr (subst (λ v. IsRisen (next v) (new v)) (sym q) r)
      | inr d ↦ elim (pushed_cases before changed t s e w)
          [ inl h ↦ inl (h, others s d) | inr q ↦ absurd (d q) ]
    ]

-- ---- changes, by their slots
pub slots_pushed : (old new : List Placed) (p : Placed) → new ≡ old ++ p ∷ []
    → slots_of new ≡ slots_of old ++ p.slot ∷ []
slots_pushed old new p e = ap slots_of e ∙ map-append (λ (q : Placed). q.slot) old (p ∷ [])
