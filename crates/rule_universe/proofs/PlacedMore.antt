-- Slots with their places, one more at the end.
use Rattle.std.specs.Prelude.{◌≡◌, ◌<◌, ◌+◌, ℕ, List, [], ◌∷◌, ◌++◌, length, take, refl}
use Rattle.std.proofs.Common.{inl, inr, arith, ap, sym, ◌∙◌, subst, get_or, add-one, append_assoc}
use Rattle.std.proofs.Common.{length-append}
use Rattle.std.proofs.Math.Seq.{take-suc}
use Rattle.std.proofs.lemmas.List.{take_all, map-append, append-nil}
use Rattle.std.proofs.lemmas.List.Elements.{Contains-push_cases}
use Rattle.std.proofs.lemmas.Option.{slice_get_within}
use Rattle.pair_closure.specs.Closure.{Pair}
use Rattle.pair_closure.proofs.Members.{none_at, ends_with}
use Rattle.facts.specs.declared.fact.Slot.{Slot}
use Rattle.facts.specs.declared.instance.Instance.{Instance}
use Rattle.rule_universe.specs.declared.placed.Placed.{Placed}
use Rattle.rule_universe.specs.Places.{IsPlace}
use Rattle.rule_universe.specs.Placed.{IsPlaced, ArePlaced, ArePremises, AreTargets, AddsPlaced}

module _ (n : ℕ) (pairs : List Pair) where
  -- ---- premises of one instance
  pub placed_start : (ss : List Slot) (items : List Placed)
      → AddsPlaced n pairs (take 0 ss) items items
  placed_start ss items = (
    [],
    sym (append-nil items),
    record { slots = refl; places = λ p w. absurd (let l : w.0 < 0 = w.1 in omega arith) },
  )

  pub placed_more : (ss : List Slot) (old mid new : List Placed) (i : ℕ) (d : Slot) (p : Placed)
      → i < length ss → p.slot ≡ get_or ss i d → IsPlaced n pairs p → new ≡ mid ++ p ∷ []
      → AddsPlaced n pairs (take i ss) old mid → AddsPlaced n pairs (take (i + 1) ss) old new
  placed_more ss old mid new i d p l s at e adds =
      let longer : take (i + 1) ss ≡ take i ss ++ get_or ss i d ∷ [] =
      rw (add-one i) (take-suc ss i d l) in (
        adds.0 ++ p ∷ [],
        e ∙ ap (λ xs. xs ++ p ∷ []) adds.1 ∙ append_assoc old adds.0 (p ∷ []),
        record {
          slots = map-append (λ (q : Placed). q.slot) adds.0 (p ∷ [])
              ∙ ap (λ xs. xs ++ p.slot ∷ []) adds.2.slots
              ∙ ap (λ x. take i ss ++ x ∷ []) s ∙ sym longer;
          places = λ q w. elim (Contains-push_cases adds.0 p q w)
              [ inl h ↦ adds.2.places q h | inr h ↦ subst (IsPlaced n pairs) h at ];
        },
      )

  pub placed_end : (ss : List Slot) (old new : List Placed) (i : ℕ) → length ss ≡ i
      → AddsPlaced n pairs (take i ss) old new → AddsPlaced n pairs ss old new
  placed_end ss old new i e adds =
      subst (λ l. AddsPlaced n pairs l old new) (take_all i ss (omega (arith, e))) adds

  -- ---- instances
  module _ (instances : List Instance) where
    pub premises_none : ArePremises n pairs (take 0 instances) []
    premises_none = record { count = refl; each = λ k i row e f. absurd (none_at row f) }

    pub premises_next : (m : ℕ) (rows : List (List Placed)) (row : List Placed) (d : Instance)
        → m < length instances → ArePlaced n pairs (get_or instances m d).premises row
        → ArePremises n pairs (take m instances) rows
        → ArePremises n pairs (take (m + 1) instances) (rows ++ row ∷ [])
    premises_next m rows row d l here are =
        let longer : take (m + 1) instances ≡ take m instances ++ get_or instances m d ∷ [] =
        rw (add-one m) (take-suc instances m d l) in
        subst (λ l. ArePremises n pairs l (rows ++ row ∷ [])) (sym longer) (record {
          count = length-append rows (row ∷ []) ∙ ap (λ k. k + 1) are.count
              ∙ sym (length-append (take m instances) (get_or instances m d ∷ []));
          each = λ k i r e f.
              elim (ends_with (take m instances) (get_or instances m d) k i e) [
                | inl g ↦
                    elim (ends_with rows row k r f) [
                      | inl h ↦ are.each k i r g h
                      | inr h ↦ absurd (let w = slice_get_within (take m instances) k i g in
                          let q : k ≡ length rows = h.0 in omega (arith, w, q, are.count))
                    ]
                | inr g ↦
                    elim (ends_with rows row k r f) [
                      | inl h ↦ absurd (let w = slice_get_within rows k r h in let q : k
                          ≡ length (take m instances) = g.0 in omega (arith, w, q, are.count))
                      | inr h ↦ subst (ArePlaced n pairs i.premises) (sym h.1) (subst
                          (λ (x : Instance). ArePlaced n pairs x.premises row) (sym g.1) here)
                    ]
              ];
        })

    pub premises_done : (m : ℕ) (rows : List (List Placed)) → length instances ≡ m
        → ArePremises n pairs (take m instances) rows → ArePremises n pairs instances rows
    premises_done m rows e are =
        subst (λ l. ArePremises n pairs l rows) (take_all m instances (omega (arith, e))) are

    pub targets_none : AreTargets n pairs (take 0 instances) []
    targets_none = record { count = refl; each = λ k i p e f. absurd (none_at p f) }

    pub targets_next : (m : ℕ) (places : List ℕ) (p : ℕ) (d : Instance) → m < length instances
        → IsPlace n pairs (get_or instances m d).target p
        → AreTargets n pairs (take m instances) places
        → AreTargets n pairs (take (m + 1) instances) (places ++ p ∷ [])
    targets_next m places p d l here are =
        let longer : take (m + 1) instances ≡ take m instances ++ get_or instances m d ∷ [] =
        rw (add-one m) (take-suc instances m d l) in
        subst (λ l. AreTargets n pairs l (places ++ p ∷ [])) (sym longer) (record {
          count = length-append places (p ∷ []) ∙ ap (λ k. k + 1) are.count
              ∙ sym (length-append (take m instances) (get_or instances m d ∷ []));
          each = λ k i q e f.
              elim (ends_with (take m instances) (get_or instances m d) k i e) [
                | inl g ↦
                    elim (ends_with places p k q f) [
                      | inl h ↦ are.each k i q g h
                      | inr h ↦ absurd (let w = slice_get_within (take m instances) k i g in
                          let r : k ≡ length places = h.0 in omega (arith, w, r, are.count))
                    ]
                | inr g ↦
                    elim (ends_with places p k q f) [
                      | inl h ↦ absurd (let w = slice_get_within places k q h in let r : k
                          ≡ length (take m instances) = g.0 in omega (arith, w, r, are.count))
                      | inr h ↦ subst (IsPlace n pairs i.target) (sym h.1)
                          (subst (λ (x : Instance). IsPlace n pairs x.target p) (sym g.1) here)
                    ]
              ];
        })

    pub targets_done : (m : ℕ) (places : List ℕ) → length instances ≡ m
        → AreTargets n pairs (take m instances) places → AreTargets n pairs instances places
    targets_done m places e are =
        subst (λ l. AreTargets n pairs l places) (take_all m instances (omega (arith, e))) are
