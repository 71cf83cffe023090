-- A box stands in one way, which its best table decides.
use Rattle.std.specs.Prelude.{◌≡◌, ℕ, zero, suc, List, [], ◌∷◌, Option, Some, None, slice_get, refl}
use Rattle.std.proofs.Common.{sym, ◌∙◌, ap, ap₂, subst, inl, inr}
use Rattle.facts.specs.declared.fact.Fact.{Fact}
use Rattle.facts.specs.declared.fact.Slot.{Slot}
use Rattle.facts.specs.declared.fact.Fact.TheVariants as fact
use Rattle.facts.specs.declared.fact.Slot.TheVariants as slot
use Rattle.facts.specs.Order.{IsStronger}
use Rattle.facts.proofs.Meets.{IsStronger-antisymm}
use Rattle.facts.proofs.CommonParts.{void_is}
use Rattle.goals.specs.declared.goal.Goal.{Goal}
use Rattle.goals.specs.Settles.{Settles}
use Rattle.goals.specs.Stronger.{StrongerSettles}
use Rattle.derivation.specs.Derivations.{Setting, At, IsClosed}
use Rattle.derivation.specs.Lists.{IsLawful}
use Rattle.derivation.specs.Known.{Piece, Known, IsTableAt}
use Rattle.derivation.specs.Settled.{IsSettled, IsState}
use Rattle.derivation.specs.Settled as box
use Rattle.derivation.specs.Decided.{state_in}
use Rattle.derivation.proofs.Parts.{some_same}
use Rattle.derivation.specs.Exists.{table_at}
use Rattle.derivation.specs.Laws.{TablesExist, BoxesComeToOneState}
use Rattle.bisect.specs.declared.settler.State.{State}
use Rattle.bisect.specs.declared.settler.State.TheVariants as state
use Rattle.settler.specs.Standing.{IsBestKnown, AreSettledBy, StandsAs}
use Rattle.settler.specs.Decided.{with_found, goal_facts, state_with, standing_at}

-- ---- in one way
best_once : (u : Setting) (height : ℕ) (pieces : List Piece) (s : Slot) (f g : Fact)
    → IsBestKnown u height pieces s f → IsBestKnown u height pieces s g → f ≡ g
best_once u height pieces s f g b c =
    IsStronger-antisymm f g (b.least g c.known c.on_slot) (c.least f b.known b.on_slot)

settled_once : (u : Setting) (height : ℕ) (pieces : List Piece)
    (goals : List Goal) (fs gs : List Fact) → AreSettledBy u height pieces goals fs
    → AreSettledBy u height pieces goals gs → fs ≡ gs
settled_once u height pieces [] [] [] a b = refl
settled_once u height pieces (g ∷ goals) (f ∷ fs) (h ∷ hs) a b = ap₂ (λ x xs. x ∷ xs)
    (best_once u height pieces g.of f h a.0 b.0) (settled_once u height pieces goals fs hs a.2 b.2)
settled_once u height pieces [] (f ∷ fs) gs a b = absurd a
settled_once u height pieces [] [] (g ∷ gs) a b = absurd b
settled_once u height pieces (g ∷ goals) [] gs a b = absurd a
settled_once u height pieces (g ∷ goals) (f ∷ fs) [] a b = absurd b

-- each goal of a settled box is met
each_settled : (u : Setting) (height : ℕ) (pieces : List Piece) (goals : List Goal) (fs : List Fact)
    → AreSettledBy u height pieces goals fs → (k : ℕ) (goal : Goal) → slice_get goals k ≡ Some goal
    → IsSettled u height pieces goal
each_settled u height pieces [] [] a k goal e = cc
each_settled u height pieces [] (f ∷ fs) a k goal e = absurd a
each_settled u height pieces (g ∷ goals) [] a k goal e = absurd a
each_settled u height pieces (g ∷ goals) (f ∷ fs) a zero goal e =
    subst (IsSettled u height pieces) (let h : g ≡ goal = cc in h) (f, (a.0).known, a.1)
each_settled u height pieces (g ∷ goals) (f ∷ fs) a (suc k) goal e =
    each_settled u height pieces goals fs a.2 k goal e

same_goal : (j k : ℕ) → box.unsettled j ≡ box.unsettled k → j ≡ k
same_goal j k e = cc

pub stands_once : (one : BoxesComeToOneState) (u : Setting) (goals : List Goal)
    (height : ℕ) (pieces : List Piece) (s t : State) → StandsAs u goals height pieces s
    → StandsAs u goals height pieces t → s ≡ t
stands_once one u goals height pieces state.Void state.Void p q = refl
stands_once one u goals height pieces (state.Settled fs) (state.Settled gs) p q =
    ap state.Settled (settled_once u height pieces goals fs gs p.1 q.1)
stands_once one u goals height pieces (state.Open j) (state.Open k) p q = ap state.Open
    (same_goal j k (one.one u goals height pieces (box.unsettled j) (box.unsettled k) p q))
stands_once one u goals height pieces state.Void (state.Settled gs) p q = absurd (q.0 p)
stands_once one u goals height pieces state.Void (state.Open k) p q = absurd (q.0 p)
stands_once one u goals height pieces (state.Settled fs) state.Void p q = absurd (p.0 q)
stands_once one u goals height pieces (state.Open j) state.Void p q = absurd (p.0 q)
stands_once one u goals height pieces (state.Settled fs) (state.Open k) p q =
    absurd (q.1.still_open (each_settled u height pieces goals fs p.1 k q.1.goal q.1.there))
stands_once one u goals height pieces (state.Open j) (state.Settled gs) p q =
    absurd (p.1.still_open (each_settled u height pieces goals gs q.1 j p.1.goal p.1.there))

-- ---- as its best table decides
module _ (stronger : StrongerSettles) (u : Setting) (height : ℕ) (pieces : List Piece) (at : At)
    (b : IsTableAt u height pieces at) where
  -- where VOID isn't known the table hasn't it
  no_void : ¬ Known u height pieces fact.Void → (o : Option Fact)
      → at slot.Void ≡ o → at slot.Void ≡ None
  no_void n None e = e
  no_void n (Some f) e = let r = b.reached slot.Void f e in
      absurd (n (subst (Known u height pieces) (void_is f r.0) r.1))

  -- the table's fact on the slot of a goal that is met
  best_of : ¬ Known u height pieces fact.Void → (goal : Goal) → IsSettled u height pieces goal
      → (f : Fact) × (at goal.of ≡ Some f) × IsBestKnown u height pieces goal.of f × Settles goal f
  best_of n goal m =
      let none = no_void n (at slot.Void) refl in
      let y = b.least none m.0 m.1 in
      let e : at goal.of ≡ Some y.0 = ap at (sym m.2.0) ∙ y.1 in
      let r = b.reached goal.of y.0 e in (
        y.0,
        e,
        record {
          on_slot = r.0;
          known = r.1;
          least = λ g k s. let z = b.least none g k in
              let same : z.0 ≡ y.0 = some_same z.0 y.0 (at goal.of) (ap at (sym s) ∙ z.1) e in
              subst (λ f. IsStronger f g) same z.2;
        },
        elim (stronger goal m.0 y.0 m.2 y.2)
            [ inl v ↦ absurd (n (subst (Known u height pieces) v r.1)) | inr s ↦ s ],
      )

  settled_by : ¬ Known u height pieces fact.Void → (goals : List Goal)
      → ((k : ℕ) (goal : Goal) → slice_get goals k ≡ Some goal → IsSettled u height pieces goal)
      → AreSettledBy u height pieces goals (goal_facts at goals)
  settled_by n [] m = tt
  settled_by n (g ∷ gs) m =
      let y = best_of n g (m zero g refl) in
      subst (λ o. AreSettledBy u height pieces (g ∷ gs) (with_found o (goal_facts at gs))) (sym y.1)
      (y.2, y.3, settled_by n gs (λ k goal e. m (suc k) goal e))

  -- what the box comes to, with the table's facts, is how it stands
  pub stands_by : (goals : List Goal) (s : box.State) → IsState u goals height pieces s
      → StandsAs u goals height pieces (state_with s (goal_facts at goals))
  stands_by goals box.void i = i
  stands_by goals (box.unsettled k) i = i
  stands_by goals box.settled i = (i.0, settled_by i.0 goals i.1)

-- Each box stands in some way.
pub stands_at : TablesExist → BoxesComeToOneState
    → StrongerSettles → (u : Setting) → IsLawful u.rules → IsClosed u.instances
    → (goals : List Goal) (height : ℕ) (pieces : List Piece)
    → StandsAs u goals height pieces (standing_at u goals height pieces)
stands_at exist one stronger u lawful closed goals height pieces =
    let at : At = table_at u height pieces in
    let b : IsTableAt u height pieces at = exist u lawful closed height pieces in
    stands_by stronger u height pieces at b goals (state_in at goals)
    (one.decided u goals height pieces at b)

-- What a box comes to, with the facts of any of its best tables, is how it stands.
pub stands_as_decided : TablesExist → BoxesComeToOneState
    → StrongerSettles → (u : Setting) → IsLawful u.rules → IsClosed u.instances
    → (goals : List Goal) (height : ℕ) (pieces : List Piece)
    → (at : At) → IsTableAt u height pieces at → (s : box.State) → IsState u goals height pieces s
    → state_with s (goal_facts at goals) ≡ standing_at u goals height pieces
stands_as_decided exist one stronger u lawful closed goals height pieces at b s i =
    stands_once one u goals height pieces (state_with s (goal_facts at goals))
    (standing_at u goals height pieces)
    (stands_by stronger u height pieces at b goals s i)
    (stands_at exist one stronger u lawful closed goals height pieces)
