-- Laws of what specs/Sets defines.
use Rattle.std.specs.Prelude.{ℕ, List, [], ◌∷◌}
use Rattle.std.proofs.Common.{sym, ◌∙◌, ap, subst, inl, inr}
use Rattle.facts.specs.declared.fact.Fact.{Fact}
use Rattle.facts.specs.declared.fact.Slot.{Slot}
use Rattle.goals.specs.declared.goal.Goal.{Goal}
use Rattle.derivation.specs.Lists.{RuleList}
use Rattle.derivation.specs.Derivations.{Setting, Derives, DeriveEach, given, drawn, met, none}
use Rattle.derivation.specs.Derivations.{next}
use Rattle.derivation.specs.Known.{Piece, IsLine, IsGiven, GivenAt, Known}
use Rattle.derivation.specs.Settled.{IsSettled, State, settled, void, unsettled, IsState}
use Rattle.derivation.specs.Sets.{HasAll}

module _ (u v : Setting) (all : HasAll u v) where
  mutual
    derived_more : {G H : Fact → Type 0} {h : ℕ} {f : Fact} → ((x : Fact) → G x → H x)
        → Derives u G h f → Derives v H h f
    derived_more more (given x) = given (more _ x)
    derived_more more (drawn {ps = ps} k i e d c) =
        let w = all.instances k i e in
        drawn w.0 i w.1 (each_more more d)
        (ap (λ (r : RuleList). r i.rule i.arg ps i.target) all.rules ∙ c)
    derived_more more (met a b d e m) = met a b (derived_more more d) (derived_more more e) m

    each_more : {G H : Fact → Type 0} {h : ℕ} {ss : List Slot} {ps : List Fact}
        → ((x : Fact) → G x → H x) → DeriveEach u G h ss ps → DeriveEach v H h ss ps
    each_more more none = none
    each_more more (next s p e d r) = next s p e (derived_more more d) (each_more more r)

  given_more : (x : Fact) → IsGiven u x → IsGiven v x
  given_more x w = elim w [
    | inl y ↦ inl (all.hypotheses x y)
    | inr y ↦ inr (subst (λ nodes. IsLine nodes x) (sym all.nodes) y)
  ]

  leaf_more : (height : ℕ) (pieces : List Piece) (x : Fact) → GivenAt u height pieces x
      → GivenAt v height pieces x
  leaf_more height [] x w = given_more x w
  leaf_more height (p ∷ above) x w =
      elim w [
        | inl y ↦ inl (given_more x y)
        | inr y ↦ elim y
            [ inl e ↦ inr (inl e) | inr d ↦ inr (inr (derived_more (leaf_more height above) d)) ]
      ]

  -- What is known over the first is known over the second.
  pub known_more : (height : ℕ) (pieces : List Piece) (f : Fact) → Known u height pieces f
      → Known v height pieces f
  known_more height pieces f d = derived_more (leaf_more height pieces) d

  settled_more : (height : ℕ) (pieces : List Piece) (goal : Goal) → IsSettled u height pieces goal
      → IsSettled v height pieces goal
  settled_more height pieces goal m = (m.0, known_more height pieces m.0 m.1, m.2)

-- Boxes come to one thing over both, where each has what the other has.
pub state_same : (u v : Setting) → HasAll u v → HasAll v u
    → (goals : List Goal) (height : ℕ) (pieces : List Piece) (s : State)
    → IsState u goals height pieces s → IsState v goals height pieces s
state_same u v to back goals height pieces void w = known_more u v to height pieces _ w
state_same u v to back goals height pieces settled w = (
  λ k. w.0 (known_more v u back height pieces _ k),
  λ k goal e. settled_more u v to height pieces goal (w.1 k goal e),
)
state_same u v to back goals height pieces (unsettled k) w = (
  λ n. w.0 (known_more v u back height pieces _ n),
  record {
    goal = w.1.goal;
    there = w.1.there;
    still_open = λ m. w.1.still_open (settled_more v u back height pieces w.1.goal m);
    before = λ j goal l e. settled_more u v to height pieces goal (w.1.before j goal l e);
  },
)
