-- A leaf that isn't open: its best table settles the goals, or has VOID.
use Rattle.std.specs.Prelude.{◌≡◌, ⊤, ℕ, zero, List, [], ◌∷◌, Some, None, refl}
use Rattle.std.proofs.Common.{sym, ◌∙◌, ap, subst, inl, inr}
use Rattle.facts.specs.declared.fact.Fact.{Fact}
use Rattle.facts.specs.declared.fact.Slot.{Slot}
use Rattle.facts.specs.declared.fact.Fact.TheVariants as fact
use Rattle.facts.specs.declared.fact.Slot.TheVariants as slot
use Rattle.facts.proofs.Meets.{IsStronger-antisymm}
use Rattle.facts.proofs.CommonParts.{at_option, void_is}
use Rattle.goals.specs.declared.goal.Goal.{Goal}
use Rattle.derivation.specs.Derivations.{Setting, At}
use Rattle.derivation.specs.Known.{Piece, Known, IsTableAt}
use Rattle.derivation.proofs.Parts.{none_some}
use Rattle.derivation.specs.Exists.{table_at}
use Rattle.bisect.specs.declared.settler.State.{State}
use Rattle.bisect.specs.declared.settler.State.TheVariants as state
use Rattle.bisect.specs.Boxes.{open_goal}
use Rattle.settler.specs.Standing.{IsBestKnown, AreSettledBy, StandsAs}
use Rattle.tree_certificates.specs.Trees.{AllSettled, IsSettledLeaf}

-- the table has these facts on the slots of the goals
abbrev pub AreAt : At → List Goal → List Fact → Type 0
AreAt at [] [] = ⊤
AreAt at (g ∷ goals) (f ∷ facts) = (at g.of ≡ Some f) × AreAt at goals facts
AreAt at _ _ = ⊥

some_open : (k : ℕ) → open_goal zero (state.Open k) ≡ None → ⊥
some_open k e = cc

module _ (u : Setting) (height : ℕ) (pieces : List Piece)
    (best : IsTableAt u height pieces (table_at u height pieces)) where
  abbrev here : At
  here = table_at u height pieces

  void_there : Known u height pieces fact.Void → (v : Fact) × (here slot.Void ≡ Some v)
  void_there k =
      at_option (here slot.Void) (λ o. here slot.Void ≡ o → (v : Fact) × (here slot.Void ≡ Some v))
      (λ n e. let y = best.least n fact.Void k in
      absurd (none_some y.0 (here slot.Void) n y.1)) (λ v n e. (v, e)) refl

  pub no_void : ¬ Known u height pieces fact.Void → here slot.Void ≡ None
  no_void n = at_option (here slot.Void) (λ o. here slot.Void ≡ o → here slot.Void ≡ None)
      (λ a e. e) (λ v a e. let r = best.reached slot.Void v e in
      absurd (n (subst (Known u height pieces) (void_is v r.0) r.1))) refl

  module _ (none : here slot.Void ≡ None) where
    best_at : (s : Slot) (f : Fact) → IsBestKnown u height pieces s f → here s ≡ Some f
    best_at s f b =
        let y = best.least none f b.known in
        let e : here s ≡ Some y.0 = ap here (sym b.on_slot) ∙ y.1 in
        let r = best.reached s y.0 e in
        e ∙ ap Some (IsStronger-antisymm y.0 f y.2 (b.least y.0 r.1 r.0))

    pub facts_at : (goals : List Goal) (facts : List Fact)
        → AreSettledBy u height pieces goals facts → AreAt here goals facts
    facts_at [] [] a = tt
    facts_at (g ∷ goals) (f ∷ facts) a = (best_at g.of f a.0, facts_at goals facts a.2)
    facts_at [] (f ∷ facts) a = absurd a
    facts_at (g ∷ goals) [] a = absurd a

    all_settled : (goals : List Goal) (facts : List Fact)
        → AreSettledBy u height pieces goals facts → AllSettled here goals
    all_settled [] [] a = tt
    all_settled (g ∷ goals) (f ∷ facts) a =
        ((f, best_at g.of f a.0, a.1), all_settled goals facts a.2)
    all_settled [] (f ∷ facts) a = absurd a
    all_settled (g ∷ goals) [] a = absurd a

  pub settled_leaf : (goals : List Goal) (s : State) → StandsAs u goals height pieces s
      → open_goal zero s ≡ None → IsSettledLeaf here goals
  settled_leaf goals state.Void w n = inl (void_there w)
  settled_leaf goals (state.Settled facts) w n = let none = no_void w.0 in
      inr (none, all_settled none goals facts w.1)
  settled_leaf goals (state.Open k) w n = absurd (some_open k n)
